use Rattle.std.proofs.Common.{◌≡◌, IfSome}
use Rattle.command_rounds.specs.Playing.{AreTotals, IsPlaying}
use Rattle.command_rounds.proofs.Noting.{HasRoom}
use Rattle.command_rounds.proofs.play.play.Given as goal

abbrev pub invariant-loop-round : goal.invariant-loop-round
invariant-loop-round g l = record {
  playing : IsPlaying l.p l.fn.me.number l.round l.me;
  room : IfSome l.totals (HasRoom l.round l.rounds);
  totals : l.fn.me.number ≡ 0 → IfSome l.totals (λ v. AreTotals l.p.world.parties l.round v.items);
}
