use Rattle.std.proofs.Common.{◌≡◌, []}
use Rattle.index_text.proofs.Taken.{Follows, TakenHits}
use Rattle.index_text.proofs.take.take_row.Given as goal

abbrev pub invariant-loop-left : goal.invariant-loop-left
invariant-loop-left g l = record {
  taken : Follows g.T.Taker.keeps l.initial.taker l.taker (λ t. t.hits ≡ []) (λ t u. TakenHits l.many l.initial.intake (g.I.Source.left l.initial.input) t u l.intake (g.I.Source.left l.input) l.left);
  unfailed : g.I.Source.faults l.input ≡ g.I.Source.faults l.initial.input;
}

abbrev pub decreases-loop-left : goal.decreases-loop-left
decreases-loop-left g l = l.left
