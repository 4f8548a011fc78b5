use Rattle.std.proofs.Common.{◌≡◌, Some, None, arith, rules}
use Rattle.firefly_threads.specs.Laws.{times_on}
use Rattle.example_log.specs.declared.mail.Mail.{Mail}
use Rattle.example_log.proofs.post.send.Goals as goal

pub locked_when-requires-clause-may : goal.locked_when-requires-clause-may
locked_when-requires-clause-may g c κs within = λ x y r s own fit tested returned.
    let mine = c.requires.sends in
    let none : x.slot ≡ None = search rules in
    let put : y ≡ record x { slot = Some c.args.message } = search rules in
    let one : s.sends ≡ 1 = search rules in
    grind (arith, times_on)

pub returns : goal.returns
returns g c = λ n s i. let did = c.locked_when.ensures.idle n s i in let returned = did.3 in search rules
