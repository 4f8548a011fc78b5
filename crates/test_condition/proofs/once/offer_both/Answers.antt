use Rattle.std.proofs.Common.{ap, sym, ◌∙◌}
use lib.ListN.{get_elem?}
use Rattle.test_condition.proofs.once.offer_both.Goals as goal

pub returns : goal.returns
returns g c =
    let first = c.requires.first in
    let a = c.agree-first.ensures in
    let b = c.agree-second.ensures in
    record {
      number = b.same.number ∙ a.same.number;
      rest = b.rest;
      lacks = λ m x e. first.none m x (ap (λ h. get_elem? h m) (sym (b.held ∙ a.held)) ∙ e);
    }
