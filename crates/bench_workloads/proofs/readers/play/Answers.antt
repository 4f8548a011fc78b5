use Rattle.std.proofs.Common.{◌≡◌, ℕ, ◌+◌, [], arith, sym, subst, refl}
use Rattle.std.proofs.lemmas.Bool.Decides.{nat_tests}
use Rattle.nub.proofs.Users.{idle_first}
use Rattle.bench_workloads.specs.Reading.{HasTurns, role_by}
use Rattle.bench_workloads.proofs.readers.play.Goals as goal

pub loop-i-init : goal.loop-i-init
loop-i-init g c = (([], idle_first c.args.shared.now (λ w t. []) c.args.me.number c.args.me c.requires.first, refl), grind (arith, nat_tests))

pub loop-i-preserved : goal.loop-i-preserved
loop-i-preserved g c =
    let n = c.args.me.number in
    let readers = c.args.readers in
    let i = c.loop-i._i in
    let P : ℕ → Type 0 = λ k. HasTurns c.args.shared.now (role_by readers k) n i c.loop-i.me → HasTurns c.args.shared.now (role_by readers k) n (i + 1) c.take_turn-torn.new.me in
    let own = c.number.ensures in
    let was = c.loop-i.invariant.1 in
    (subst P own (c.take_turn-torn.ensures n i) c.loop-i.invariant.0, grind (arith, nat_tests))

pub take_turn-torn-requires-clause-idle : goal.take_turn-torn-requires-clause-idle
take_turn-torn-requires-clause-idle g c =
    let n = c.args.me.number in
    let i = c.loop-i._i in
    (n, i, subst (λ (k : ℕ). HasTurns c.args.shared.now (role_by c.args.readers k) n i c.loop-i.me) (sym c.number.ensures) c.loop-i.invariant.0)
