use Rattle.std.proofs.Common.{◌≡◌, ◌∙◌, ◌+◌, suc, ap, sym, arith}
use Rattle.larch_actions.specs.Actions.{put}
use Rattle.script_plays.specs.declared.choice.Turn.{Turn}
use Rattle.script_plays.specs.Scenes.{turned}
use Rattle.script_search.specs.Boards.{moment_of, played_of}
use Rattle.script_search.proofs.moves.turn.Goals as goal

pub returns-in-Next-clause-played : goal.returns-in-Next-clause-played
returns-in-Next-clause-played c =
    let now = played_of (moment_of c.args.board.now) in
    let one : c.played-played.result + 1 ≡ suc (now c.args.t) = omega (arith, c.played-played.ensures) in
    c.set_played.ensures.played ∙ (ap (put now c.args.t) one ∙ sym (ap (λ (z : Turn). turned z c.args.t now) c.in-Next.is))
