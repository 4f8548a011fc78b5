use Rattle.std.proofs.Common.{List, [], ◌∷◌, ℕ, inl, inr, refl, ◌∙◌}
use Rattle.std.specs.Io.KnownBytes.{Appends}
use Rattle.firefly_outside.specs.Causes.{AppendsPrefix}
use Rattle.command_rounds.proofs.Printed.{same_some, three_same, under_names}
use Rattle.command_rounds.proofs.command.print.Goals as goal

pub returns-in-Err-clause-printed : goal.returns-in-Err-clause-printed
returns-in-Err-clause-printed g c = λ h round sum value reported three.
    let n = c.numbers_of-round.result in
    let events = same_some c.args.closed.now.trace c.in-Some.events.now h c.in-Some.ensures reported in
    let numbers = three_same n.0 n.1 n.2 round sum value (c.numbers_of-round.ensures round sum value (c.values.ensures ∙ three)) in
    let P : List ℕ → Type 0 = λ text. AppendsPrefix (g.O.Sink.held c.args.out.now) (g.O.Sink.held c.print_whole.new.out) text in
    let prefix = under_names P c.layout.result c.args.closed.now.layout c.in-Some.events.now h (n.0 ∷ n.1 ∷ n.2 ∷ []) (round ∷ sum ∷ value ∷ []) c.layout.ensures events numbers c.in-Err.ensures.err in
    inr (c.ends.ensures.status, (c.in-Err.ensures.cause.failed, prefix), c.ends.ensures.notes)

pub returns-in-Ok-clause-printed : goal.returns-in-Ok-clause-printed
returns-in-Ok-clause-printed g c = λ h round sum value reported three.
    let n = c.numbers_of-round.result in
    let events = same_some c.args.closed.now.trace c.in-Some.events.now h c.in-Some.ensures reported in
    let numbers = three_same n.0 n.1 n.2 round sum value (c.numbers_of-round.ensures round sum value (c.values.ensures ∙ three)) in
    let P : List ℕ → Type 0 = λ text. Appends (g.O.Sink.held c.args.out.now) (g.O.Sink.held c.print_whole.new.out) text in
    inl (refl, under_names P c.layout.result c.args.closed.now.layout c.in-Some.events.now h (n.0 ∷ n.1 ∷ n.2 ∷ []) (round ∷ sum ∷ value ∷ []) c.layout.ensures events numbers c.in-Ok.ensures.ok, (refl, refl))
