-- The layouts of scripts.
use Rattle.std.specs.Prelude.{◌≡◌, ℕ}
use Rattle.larch_actions.specs.declared.event.Layout.{Layout}
use Rattle.larch_actions.specs.declared.event.Version.{Version}
use Rattle.larch_actions.specs.declared.event.Version.TheVariants.{One, Two}
use Rattle.larch_actions.specs.Layout.{IsLawful}

-- a lawful layout of the version
pub record IsLayoutIn (v : Version) (l : Layout) : Type 0 where
  pub lawful : IsLawful l
  pub version : l.version ≡ v

-- how many lines stand before those of the threads: the layout line, and in version two the line that says so
abbrev pub head_lines : Version → ℕ
head_lines One = 1
head_lines Two = 2
