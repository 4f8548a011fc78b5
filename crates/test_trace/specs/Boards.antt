-- The layout of the states that are run by hand.
use Rattle.larch_actions.specs.declared.event.Layout.{Layout}
use Rattle.larch_actions.specs.Layout.{layout_of}

-- two threads, and one of each other kind
abbrev pub board : Layout
board = layout_of 2 1 1 1
