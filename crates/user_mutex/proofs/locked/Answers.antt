use Rattle.std.proofs.Common.{◌≡◌, ℕ, Some, rules, sym, subst, ◌∙◌}
use Rattle.std.specs.Fn.{FnOnceReturnsAtMut}
use Rattle.nub.proofs.Holding.{held_back}
use Rattle.user_mutex.proofs.locked.Goals as goal

pub release-requires-clause-may : goal.release-requires-clause-may
release-requires-clause-may g c κs within =
    let m = c.args.m.0 in
    let x = c.acquire-value.result in
    let y = c.f-answer.new.arg2 in
    let same = c.acquire-value.ensures.same in
    let returns : FnOnceReturnsAtMut g.F.FnOnce c.args.f x c.f-answer.result y = search rules in (
      x,
      c.acquire-value.ensures.holds,
      λ w s world share.
          let w0 = sym same.world ∙ world in
          let s0 = sym c.acquire-value.ensures.share ∙ share in
          subst (λ (n : ℕ). g.U.Uses.allows w m n x y s (g.C.Change.after w m n x y s)) (sym same.number) (c.requires.may x y c.f-answer.result w s w0 s0 (c.acquire-value.ensures.fits w s w0 s0) returns),
    )

pub returns-clause-held : goal.returns-clause-held
returns-clause-held g c =
    held_back c.args.me.now c.acquire-value.new.me c.release.new.me c.args.m.0 c.acquire-value.result c.requires.lacks c.acquire-value.ensures.held c.release.ensures.held

pub returns-clause-answer : goal.returns-clause-answer
returns-clause-answer g c =
    let m = c.args.m.0 in
    let x = c.acquire-value.result in
    let y = c.f-answer.new.arg2 in
    let same = c.acquire-value.ensures.same in
    let returns : FnOnceReturnsAtMut g.F.FnOnce c.args.f x c.f-answer.result y = search rules in (
      x,
      y,
      returns,
      λ w s world share. (
        c.acquire-value.ensures.fits w s world share,
        subst (λ (n : ℕ). c.release.new.me.share ≡ Some (g.C.Change.after w m n x y s)) same.number (c.release.ensures.share w s x (same.world ∙ world) (c.acquire-value.ensures.share ∙ share) c.acquire-value.ensures.holds),
      ),
    )

pub returns-clause-idle : goal.returns-clause-idle
returns-clause-idle g c = λ n s idle.
    let x = c.acquire-value.result in
    let y = c.f-answer.new.arg2 in
    let has = c.acquire-value.ensures.holding n s idle in
    let returns : FnOnceReturnsAtMut g.F.FnOnce c.args.f x c.f-answer.result y = search rules in
    (x, y, returns, has.1, c.release.ensures.idle n s x has.0)
