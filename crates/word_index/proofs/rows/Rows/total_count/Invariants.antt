use Rattle.std.proofs.Common.{◌≡◌, ◌≤◌, ◌*◌, ◌^◌, take, sum_by}
use Rattle.word_index.proofs.rows.Rows.total_count.Given as goal

abbrev pub invariant-loop-place : goal.invariant-loop-place
invariant-loop-place l = record {
  so_far : l.sum ≡ sum_by (λ p. p.count) (take l.place-index l.places);
  small : l.sum ≤ 2 ^ 32 * l.place-index;
}
