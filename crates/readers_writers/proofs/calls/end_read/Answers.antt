use Rattle.std.proofs.Common.{◌≡◌, ℕ, ◌-◌, ◌≤◌, List, ◌∷◌, [], Some, arith, refl, sym, ap, ◌∙◌}
use Rattle.std.proofs.lemmas.Bool.Decides.{nat_tests}
use Rattle.std.proofs.lemmas.Option.{same_Some}
use Rattle.nub_rule.specs.Plays.{broadcast_action, event}
use Rattle.nub.proofs.Holding.{held_back}
use Rattle.nub.proofs.Users.{idle_again, same_on}
use Rattle.readers_writers.specs.declared.role.Role.TheVariants.{Idle, Reading}
use Rattle.readers_writers.specs.declared.role.RoleChange.{RoleChange}
use Rattle.readers_writers.specs.Roles.{role_of, turn_from_reading}
use Rattle.readers_writers.proofs.Going.{from_reading, goes_by, left_by, role_as}
use Rattle.readers_writers.proofs.calls.end_read.Given.{Over}
use Rattle.readers_writers.proofs.calls.end_read.Goals.{After-acquire-state, After-leave}
use Rattle.readers_writers.proofs.calls.end_read.Goals as goal

-- the thread is one of those that read
known : (g : Over) (c : After-acquire-state g) → 1 ≤ c.acquire-state.result.readers
known g c =
    let role = c.requires.role in
    let fits = c.acquire-state.ensures.fits c.args.p.now.world role.0 c.requires.world role.1 in
    (fits.reads role.2).0

pub leave-requires-clause-may : goal.leave-requires-clause-may
leave-requires-clause-may g c =
    let m = c.args.at.now.mutex.0 in
    let role = c.requires.role in
    let got = c.acquire-state.ensures in
    let one = known g (goal.at.leave-requires-clause-may g c).After-acquire-state in (
      c.acquire-state.result,
      got.holds,
      λ s share. goes_by m c.acquire-state.new.me.number Reading Idle c.acquire-state.result _ s (ap (λ u. role_of u m) (same_Some s role.0 (sym share ∙ (got.share ∙ role.1))) ∙ role.2) (omega arith, refl),
    )

share : (g : Over) (c : After-leave g) (s : List RoleChange) → c.args.me.now.share ≡ Some s
    → c.leave.new.me.share ≡ Some (turn_from_reading c.args.at.now.mutex.0 (c.acquire-state.result.readers - 1) ∷ s)
share g c s own =
    let m = c.args.at.now.mutex.0 in
    let role = c.requires.role in
    c.leave.ensures.role s (c.acquire-state.ensures.share ∙ own) ∙ ap (λ r. Some (r ∷ s)) (from_reading m _ s (role_as m Reading c.args.me.now.share own role.1 role.2))

pub returns-clause-ran : goal.returns-clause-ran
returns-clause-ran g c = λ s own.
    let got = c.acquire-state.ensures in
    let m = c.args.at.now.mutex.0 in
    let a = c.args.me.now in
    let b = c.acquire-state.new.me in
    let e = c.leave.new.me in (
      c.acquire-state.result.readers - 1,
      share g (goal.at.returns-clause-ran g c).After-leave s own,
      (λ is. left_by (λ (n : ℕ). event n (broadcast_action c.args.at.now.changed.0 []) ∷ []) m a b e got.same got.event (c.leave.ensures.woke (grind (arith, nat_tests)))),
      (λ more. left_by (λ (n : ℕ). []) m a b e got.same got.event (c.leave.ensures.quiet (grind (arith, nat_tests)))),
    )

pub returns-clause-role : goal.returns-clause-role
returns-clause-role g c = λ s own. (c.acquire-state.result.readers - 1, share g (goal.at.returns-clause-role g c).After-leave s own)

held : (g : Over) (c : After-leave g) → c.leave.new.me.held ≡ c.args.me.now.held
held g c = held_back c.args.me.now c.acquire-state.new.me c.leave.new.me c.args.at.now.mutex.0 c.acquire-state.result c.requires.lacks c.acquire-state.ensures.held c.leave.ensures.held

pub returns-clause-held : goal.returns-clause-held
returns-clause-held g c = held g (goal.at.returns-clause-held g c).After-leave

pub returns-clause-idle : goal.returns-clause-idle
returns-clause-idle g c = λ n s i.
    let got = c.acquire-state.ensures in
    let left = c.leave.ensures in
    let now = turn_from_reading c.args.at.now.mutex.0 (c.acquire-state.result.readers - 1) ∷ s in (
      c.acquire-state.result.readers - 1,
      idle_again c.args.p.now n s now c.args.me.now c.leave.new.me i left.rest (same_on c.args.me.now c.acquire-state.new.me c.leave.new.me got.same left.same)
          (held g (goal.at.returns-clause-idle g c).After-leave) (share g (goal.at.returns-clause-idle g c).After-leave s i.share),
    )
