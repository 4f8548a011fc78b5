use Rattle.std.proofs.Common.{ℕ, map, subst, sym}
use Rattle.std.specs.String.{string_bytes}
use Rattle.command_endings.specs.Changes.{change_of}
use Rattle.index_find.specs.Postfix.{tree_of}
use Rattle.command_find.specs.Find.{IsDue}
use Rattle.command_find.proofs.Asked.{same_asked}
use Rattle.command_find.proofs.Due.{decided}
use Rattle.command_find.proofs.command.run_find.Goals as goal

pub returns-in-Ok-clause-exact : goal.returns-in-Ok-clause-exact
returns-in-Ok-clause-exact g c = λ most tokens tree bytes due asks reads reported memory failed is.
    let input = change_of g.I.Source.left g.I.Source.faults c.args.input.now c.answer.new.input in
    let out = change_of g.O.Sink.held g.O.Sink.faults c.args.out.now c.answer.new.out in
    let notes = change_of g.N.Sink.held g.N.Sink.faults c.args.notes.now c.answer.new.notes in
    let same = same_asked (map string_bytes c.args.words.now) c.in-Some.most most (map string_bytes c.in-Some.tokens.now) tokens c.in-Some.ensures.found asks in
    decided c.in-Some.most (tree_of c.in-Ok.query) input out notes c.answer.result c.answer.ensures.ends bytes due reported memory failed
    (subst (λ (n : ℕ). IsDue n bytes due) (sym same.0) is)
