use Rattle.std.proofs.Common.{◌≡◌, ◌∷◌, subst, ◌+◌, Some, None, rules, refl, sym, ap, ◌∙◌, inl}
use Rattle.std.proofs.lemmas.Option.{same_Some}
use Rattle.readers_writers.specs.declared.role.Role.TheVariants.{Idle, Reading}
use Rattle.readers_writers.specs.Roles.{role_of}
use Rattle.readers_writers.specs.declared.role.RoleChange.{RoleChange}
use Rattle.nub.specs.Idle.{IsIdle}
use Rattle.monitor.proofs.Having.{refused_as}
use Rattle.readers_writers.specs.Calls.{KeepsReaderOut}
use Rattle.readers_writers.proofs.Going.{from_idle, goes_by, role_as}
use Rattle.readers_writers.proofs.calls.begin_read.Goals as goal

pub locked_when-requires-clause-share : goal.locked_when-requires-clause-share
locked_when-requires-clause-share g c κs within = (c.requires.role.0, c.requires.role.1)

pub locked_when-requires-clause-stays : goal.locked_when-requires-clause-stays
locked_when-requires-clause-stays g c κs within = λ x s own fit. inl (refl, refl)

pub locked_when-requires-clause-callable : goal.locked_when-requires-clause-callable
locked_when-requires-clause-callable g c κs within = λ x fit tested. let few = (fit c.requires.role.0 c.requires.role.1).few in search rules

pub locked_when-requires-clause-may : goal.locked_when-requires-clause-may
locked_when-requires-clause-may g c κs within = λ x y r s own fit tested returned.
    let m = c.args.at.now.mutex.0 in
    let none : x.writer ≡ None = search rules in
    let more : y ≡ record x { readers = x.readers + 1 } = search rules in
    goes_by m c.args.me.now.number Idle Reading x y s (ap (λ u. role_of u m) (same_Some s c.requires.role.0 (sym own ∙ c.requires.role.1)) ∙ c.requires.role.2) (none, more)

pub returns-clause-ran : goal.returns-clause-ran
returns-clause-ran g c =
    let e = c.locked_when.ensures.event in
    (e.0, e.1, refused_as _ KeepsReaderOut e.0 (λ x says. search rules) e.2)

pub returns-clause-role : goal.returns-clause-role
returns-clause-role g c = λ s own.
    let m = c.args.at.now.mutex.0 in
    let role = c.requires.role in
    let answer = c.locked_when.ensures.answer in
    (answer.4 s own).1 ∙ ap (λ r. Some (r ∷ s)) (from_idle m Reading answer.1 s (role_as m Idle c.args.me.now.share own role.1 role.2))

pub returns-clause-idle : goal.returns-clause-idle
returns-clause-idle g c = λ n s i.
    let m = c.args.at.now.mutex.0 in
    let role = c.requires.role in
    let after = c.locked_when.ensures.idle n s i in
    subst (λ (r : RoleChange). IsIdle c.args.p.now n (r ∷ s) c.locked_when.new.me) (from_idle m Reading after.1 s (role_as m Idle c.args.me.now.share i.share role.1 role.2)) after.5
