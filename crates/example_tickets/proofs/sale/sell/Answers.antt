use Rattle.std.proofs.Common.{◌≡◌, ◌+◌, ◌-◌, rules, arith, ap, refl, eqb}
use Rattle.example_tickets.specs.Sales.{none_sold}
use Rattle.example_tickets.proofs.sale.sell.Goals as goal

pub loop-init : goal.loop-init
loop-init g c = (none_sold, c.requires.idle, refl)

pub returns-then-not-any : goal.returns-then-not-any
returns-then-not-any g c =
    let own = c.loop.invariant in
    let answer = c.locked-any.ensures.idle c.args.me.now.number own.0 own.1 in
    let x = answer.0 in
    let y = answer.1 in
    let returned = answer.2 in
    let none : (x ≡ 0) × (y ≡ 0) = search rules in
    let nothing : x - y ≡ 0 = omega arith in
    let sold = own.2 in
    (record { count = own.0.count + (x - y); none_left = eqb x 0 }, answer.4, record { count = omega arith; seen = ap (λ k. eqb k 0) none.0 })

pub loop-preserved : goal.loop-preserved
loop-preserved g c =
    let own = c.loop.invariant in
    let answer = c.locked-any.ensures.idle c.args.me.now.number own.0 own.1 in
    let x = answer.0 in
    let y = answer.1 in
    let returned = answer.2 in
    let less : x ≡ y + 1 = search rules in
    let now = own.2 in
    (record { count = own.0.count + (x - y); none_left = eqb x 0 }, answer.4, omega arith)
