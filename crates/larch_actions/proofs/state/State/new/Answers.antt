use Rattle.std.proofs.Common.{None, true, false, refl}
use Rattle.larch_actions.proofs.Shown.{shown_at-replicate}
use Rattle.larch_actions.specs.State.{holder_of}
use Rattle.larch_actions.specs.Sets.{in_set}
use mathlib.Core.Option.{none}
use Rattle.larch_actions.proofs.state.State.new.Goals as goal

pub returns-clause-first : goal.returns-clause-first
returns-clause-first c = λ k. record {
  holder = shown_at-replicate holder_of none 64 None refl k;
  members = shown_at-replicate in_set (λ _. false) 64 c.empty.result (λ k t. c.empty.ensures.members t k) k;
  avail = shown_at-replicate (λ b. b) true 64 true refl k;
  alerts = (λ t. c.empty-2.ensures.members t k);
  pending = c.first_threads.ensures.pending k;
  life = c.first_threads.ensures.life k;
}
