use Rattle.std.proofs.Common.{lit<, [], ◌≡◌, Some, None, ap, sym, ◌∙◌, slice_set}
use lib.ListN.{get_elem?}
use Rattle.std.proofs.lemmas.List.{set-set}
use Rattle.atomic_table.proofs.Lists.{set_again}
use Rattle.test_package.proofs.work.two_turns.Goals as goal

pub add_to-requires-clause-got : goal.add_to-requires-clause-got
add_to-requires-clause-got g c = let i = c.requires.idle in (c.acquire-got.ensures.fits tt [] i.world i.share).small

pub acquire-again-requires-clause-lacks : goal.acquire-again-requires-clause-lacks
acquire-again-requires-clause-lacks g c κs within =
    let lacks = c.requires.idle.lacks 0 (lit< tt) in
    ap (λ h. get_elem? h 0) (c.release.ensures.held ∙ (ap (λ h. slice_set h 0 None) c.acquire-got.ensures.held ∙ (set-set c.args.me.held 0 (Some c.acquire-got.result) None ∙ set_again c.args.me.held 0 None lacks))) ∙ lacks

pub returns : goal.returns
returns g c =
    let i = c.requires.idle in
    let again = set_again c.args.me.held 0 None (i.lacks 0 (lit< tt)) in
    let once : c.release.new.me.held ≡ c.args.me.held = c.release.ensures.held ∙ (ap (λ h. slice_set h 0 None) c.acquire-got.ensures.held ∙ (set-set c.args.me.held 0 (Some c.acquire-got.result) None ∙ again)) in
    let twice : c.release-2.new.me.held ≡ c.args.me.held = c.release-2.ensures.held ∙ (ap (λ h. slice_set h 0 None) c.acquire-again.ensures.held ∙ (set-set c.release.new.me.held 0 (Some c.acquire-again.result) None ∙ (ap (λ h. slice_set h 0 None) once ∙ again))) in
    record {
      number = c.release-2.ensures.same.number ∙ (c.acquire-again.ensures.same.number ∙ (c.release.ensures.same.number ∙ c.acquire-got.ensures.same.number));
      rest = c.release-2.ensures.rest;
      lacks = λ m x h. i.none m x (ap (λ hs. get_elem? hs m) (sym twice) ∙ h);
    }
