use Rattle.std.proofs.Common.{◌<◌, ◌≤◌, length, sym, arith}
use mathlib.Core.Option.{none}
use Rattle.larch_actions.proofs.Shown.{shown_at-past}
use Rattle.script_search.specs.Boards.{moment_of, holder_of}
use Rattle.script_search.proofs.Shown.{holder_is}
use Rattle.command_explore.proofs.waits.holder.Goals as goal

pub returns-then-place-len : goal.returns-then-place-len
returns-then-place-len c =
    let low : c.args.mutex.0 < length c.args.board.now.holders.items = omega (arith, c.args.board.now.holders.ok.0) in
    sym (holder_is (moment_of c.args.board.now) c.args.mutex.0 low c.index.result.now c.index.ensures)

pub returns-else-place-len : goal.returns-else-place-len
returns-else-place-len c =
    let past : length c.args.board.now.holders.items ≤ c.args.mutex.0 = omega (arith, c.args.board.now.holders.ok.0) in
    sym (shown_at-past holder_of none c.args.board.now.holders.items c.args.mutex.0 past)
