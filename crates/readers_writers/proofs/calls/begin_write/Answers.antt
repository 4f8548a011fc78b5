use Rattle.std.proofs.Common.{◌≡◌, ◌∷◌, subst, Some, None, rules, refl, sym, ap, ◌∙◌, inl}
use Rattle.std.proofs.lemmas.Option.{same_Some}
use Rattle.readers_writers.specs.declared.role.Role.TheVariants.{Idle, Writing}
use Rattle.readers_writers.specs.Roles.{role_of}
use Rattle.readers_writers.specs.declared.role.RoleChange.{RoleChange}
use Rattle.nub.specs.Idle.{IsIdle}
use Rattle.monitor.proofs.Having.{refused_as}
use Rattle.readers_writers.specs.Calls.{KeepsWriterOut}
use Rattle.readers_writers.proofs.Going.{from_idle, goes_by, role_as}
use Rattle.readers_writers.proofs.calls.begin_write.Goals as goal

pub locked_when-requires-clause-share : goal.locked_when-requires-clause-share
locked_when-requires-clause-share g c κs within = (c.requires.role.0, c.requires.role.1)

pub locked_when-requires-clause-stays : goal.locked_when-requires-clause-stays
locked_when-requires-clause-stays g c κs within = λ x s own fit. inl (refl, refl)

pub locked_when-requires-clause-may : goal.locked_when-requires-clause-may
locked_when-requires-clause-may g c κs within = λ x y r s own fit tested returned.
    let m = c.args.at.now.mutex.0 in
    let t = c.args.me.now.number in
    let none : x.writer ≡ None = search rules in
    let nobody : x.readers ≡ 0 = search rules in
    let mine : y ≡ record x { writer = Some t } = search rules in
    goes_by m t Idle Writing x y s (ap (λ u. role_of u m) (same_Some s c.requires.role.0 (sym own ∙ c.requires.role.1)) ∙ c.requires.role.2) (none, nobody, mine)

pub returns-clause-ran : goal.returns-clause-ran
returns-clause-ran g c =
    let e = c.locked_when.ensures.event in
    (e.0, e.1, refused_as _ KeepsWriterOut e.0 (λ x says. search rules) e.2)

pub returns-clause-role : goal.returns-clause-role
returns-clause-role g c = λ s own.
    let m = c.args.at.now.mutex.0 in
    let role = c.requires.role in
    let answer = c.locked_when.ensures.answer in
    (answer.4 s own).1 ∙ ap (λ r. Some (r ∷ s)) (from_idle m Writing answer.1 s (role_as m Idle c.args.me.now.share own role.1 role.2))

pub returns-clause-idle : goal.returns-clause-idle
returns-clause-idle g c = λ n s i.
    let m = c.args.at.now.mutex.0 in
    let role = c.requires.role in
    let after = c.locked_when.ensures.idle n s i in
    subst (λ (r : RoleChange). IsIdle c.args.p.now n (r ∷ s) c.locked_when.new.me) (from_idle m Writing after.1 s (role_as m Idle c.args.me.now.share i.share role.1 role.2)) after.5
