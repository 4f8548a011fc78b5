use Rattle.std.proofs.Common.{◌≡◌, ℕ, Some, ap, subst, ◌∙◌}
use lib.ListN.{get_elem?}
use Rattle.bounded_buffer.proofs.exit.give.Goals as goal

pub returns-in-Some-clause-share : goal.returns-in-Some-clause-share
returns-in-Some-clause-share g c =
    let m = c.args.mutex.0 in
    let w = c.args.p.now.world in
    let y = c.from_ring-value.result in
    let e = c.signal.ensures in (
      y,
      c.from_ring-value.ensures,
      λ s x share holds.
          let P : ℕ → Type 0 = λ n. c.release.new.me.share ≡ Some (g.C.Change.after w m n x y s) in
          subst P e.same.number (c.release.ensures.share w s x (e.same.world ∙ c.requires.world) (e.share ∙ share) (ap (λ l. get_elem? l m) e.held ∙ holds)),
    )

pub returns-in-None-clause-share : goal.returns-in-None-clause-share
returns-in-None-clause-share g c = (
  c.from_ring-value.result,
  c.from_ring-value.ensures,
  λ s x share holds. c.release-in-None.ensures.share c.args.p.now.world s x c.requires.world share holds,
)
