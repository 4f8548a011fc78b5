use Rattle.std.proofs.Common.{List, ℕ, ◌∷◌, ◌++◌, [], Some, None, rules, sym, ap, ◌∙◌, refl}
use Rattle.example_log.specs.Mails.{begins, received}
use Rattle.example_log.proofs.run.receive_all.Goals as goal

pub loop-init : goal.loop-init
loop-init g c = (begins c.args.me.now.number, c.requires.idle, refl, λ whole. sym c.requires.empty)

pub loop-preserved : goal.loop-preserved
loop-preserved g c =
    let own = c.loop.invariant in
    let m = c.in-Some-receive.message in
    let got = c.receive.ensures c.args.me.now.number own.0 own.1 in
    (received (Some m) own.0, search rules, own.2, λ whole. let a = c.add.ensures whole in ap (λ l. l ++ m ∷ []) (own.3 a.0) ∙ sym {A = List ℕ} a.1)

pub returns-in-None-receive : goal.returns-in-None-receive
returns-in-None-receive g c =
    let own = c.loop.invariant in
    let got = c.receive.ensures c.args.me.now.number own.0 own.1 in
    (received None own.0, search rules, own.2, refl, own.3)
