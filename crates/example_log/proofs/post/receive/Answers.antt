use Rattle.std.proofs.Common.{◌≡◌, None, arith, rules}
use Rattle.firefly_threads.specs.Laws.{times_on}
use Rattle.example_log.specs.declared.mail.Mail.{Mail}
use Rattle.example_log.proofs.post.receive.Goals as goal

pub locked_when-message-requires-clause-may : goal.locked_when-message-requires-clause-may
locked_when-message-requires-clause-may g c κs within = λ x y r s own fit tested returned.
    let end : x.slot ≡ None → x.senders ≡ 0 = search rules in
    let took : y ≡ record x { slot = None } = search rules in
    grind (arith, times_on)

pub returns : goal.returns
returns g c = λ n s i. let did = c.locked_when-message.ensures.idle n s i in let returned = did.3 in search rules
