use Rattle.std.proofs.Common.{ℕ, [], ◌∷◌, sym, ap, subst, ◌∙◌}
use lib.ListN.{get_elem?}
use Rattle.nub_rule.specs.Plays.{broadcast_action, event, release_event}
use Rattle.nub.specs.Rest.{Adds}
use Rattle.nub.proofs.Adding.{added, adds_on}
use Rattle.readers_writers.specs.declared.role.Role.TheVariants.{Idle}
use Rattle.readers_writers.specs.Roles.{Allowed, goes_to, role_of}
use Rattle.readers_writers.proofs.calls.leave.Goals as goal

pub release-requires-clause-may : goal.release-requires-clause-may
release-requires-clause-may g c κs within =
    let m = c.args.at.now.mutex.0 in
    let may = c.requires.may in
    let recorded = c.broadcast.ensures in (
      may.0,
      ap (λ l. get_elem? l m) recorded.held ∙ may.1,
      λ w s world share. subst (λ (n : ℕ). Allowed m n may.0 c.args.state s (goes_to m (role_of s m) Idle c.args.state ∷ s)) (sym recorded.same.number) (may.2 s (sym recorded.share ∙ share)),
    )

pub release-requires-else-wake-clause-may : goal.release-requires-else-wake-clause-may
release-requires-else-wake-clause-may g c κs within = let may = c.requires.may in (may.0, may.1, λ w s world share. may.2 s share)

pub returns-then-wake-clause-woke : goal.returns-then-wake-clause-woke
returns-then-wake-clause-woke g c = λ yes.
    let a = c.args.me.now in
    let b = c.broadcast.new.me in
    let m = c.args.at.now.mutex.0 in
    let recorded = c.broadcast.ensures in
    let wake = event a.number (broadcast_action c.args.at.now.changed.0 []) in
    adds_on (wake ∷ []) [] (release_event a.number m) a b c.release.new.me (added [] wake a b recorded.event) (subst (λ (n : ℕ). Adds [] (release_event n m) b c.release.new.me) recorded.same.number c.release.ensures.event)

pub returns-then-wake-clause-role : goal.returns-then-wake-clause-role
returns-then-wake-clause-role g c = λ s share.
    let m = c.args.at.now.mutex.0 in
    let may = c.requires.may in
    let recorded = c.broadcast.ensures in
    c.release.ensures.share c.args.p.now.world s may.0 (recorded.same.world ∙ c.requires.world) (recorded.share ∙ share) (ap (λ l. get_elem? l m) recorded.held ∙ may.1)
