use Rattle.std.proofs.Common.{rules}
use Rattle.script_search.specs.Boards.{moment_of}
use Rattle.script_search.proofs.Starting.{is_first}
use Rattle.script_search.proofs.board.Board.first.Goals as goal

pub returns : goal.returns
returns c =
    is_first c.args.layout.now (moment_of (record { second = c.is_second.result; threads = c.in_ok-first_threads.field-0; holders = c.in_ok-vec.field-0; available = c.in_ok-vec-2.field-0 }))
    c.requires c.is_second.ensures c.in_ok-first_threads.ensures (c.in_ok-vec.ensures.items_if_clones_equal (λ y h. search rules)) (c.in_ok-vec-2.ensures.items_if_clones_equal (λ y h. h))
