use Rattle.std.proofs.Common.{◌≡◌, ℕ, List, ◌∷◌, [], Some, refl, sym, ap, ◌∙◌}
use Rattle.std.proofs.lemmas.Option.{same_Some}
use Rattle.nub_rule.specs.Plays.{broadcast_action, event}
use Rattle.nub.proofs.Holding.{held_back}
use Rattle.nub.proofs.Users.{idle_again, same_on}
use Rattle.readers_writers.specs.declared.role.Role.TheVariants.{Idle, Writing}
use Rattle.readers_writers.specs.Roles.{role_of, turn}
use Rattle.readers_writers.specs.declared.role.RoleChange.{RoleChange}
use Rattle.readers_writers.proofs.Going.{from_writing, goes_by, left_by, role_as}
use Rattle.readers_writers.proofs.calls.end_write.Given.{Over}
use Rattle.readers_writers.proofs.calls.end_write.Goals.{After-leave}
use Rattle.readers_writers.proofs.calls.end_write.Goals as goal

pub leave-requires-clause-may : goal.leave-requires-clause-may
leave-requires-clause-may g c =
    let m = c.args.at.now.mutex.0 in
    let role = c.requires.role in
    let got = c.acquire-state.ensures in (
      c.acquire-state.result,
      got.holds,
      λ s share. goes_by m c.acquire-state.new.me.number Writing Idle c.acquire-state.result _ s (ap (λ u. role_of u m) (same_Some s role.0 (sym share ∙ (got.share ∙ role.1))) ∙ role.2) refl,
    )

pub returns-clause-ran : goal.returns-clause-ran
returns-clause-ran g c = let got = c.acquire-state.ensures in
    left_by (λ (n : ℕ). event n (broadcast_action c.args.at.now.changed.0 []) ∷ []) c.args.at.now.mutex.0 c.args.me.now c.acquire-state.new.me c.leave.new.me got.same got.event (c.leave.ensures.woke refl)

held : (g : Over) (c : After-leave g) → c.leave.new.me.held ≡ c.args.me.now.held
held g c = held_back c.args.me.now c.acquire-state.new.me c.leave.new.me c.args.at.now.mutex.0 c.acquire-state.result c.requires.lacks c.acquire-state.ensures.held c.leave.ensures.held

pub returns-clause-held : goal.returns-clause-held
returns-clause-held g c = held g (goal.at.returns-clause-held g c).After-leave

share : (g : Over) (c : After-leave g) (s : List RoleChange) → c.args.me.now.share ≡ Some s → c.leave.new.me.share ≡ Some (turn c.args.at.now.mutex.0 Idle ∷ s)
share g c s own =
    let m = c.args.at.now.mutex.0 in
    let role = c.requires.role in
    c.leave.ensures.role s (c.acquire-state.ensures.share ∙ own) ∙ ap (λ r. Some (r ∷ s)) (from_writing m _ s (role_as m Writing c.args.me.now.share own role.1 role.2))

pub returns-clause-role : goal.returns-clause-role
returns-clause-role g c = share g (goal.at.returns-clause-role g c).After-leave

pub returns-clause-idle : goal.returns-clause-idle
returns-clause-idle g c = λ n s i.
    let got = c.acquire-state.ensures in
    let left = c.leave.ensures in
    idle_again c.args.p.now n s (turn c.args.at.now.mutex.0 Idle ∷ s) c.args.me.now c.leave.new.me i left.rest (same_on c.args.me.now c.acquire-state.new.me c.leave.new.me got.same left.same)
    (held g (goal.at.returns-clause-idle g c).After-leave) (share g (goal.at.returns-clause-idle g c).After-leave s i.share)
