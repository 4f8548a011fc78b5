use Rattle.std.proofs.Common.{List, sym, subst, replicate, false}
use Rattle.script_text.specs.declared.line.Line.{Line}
use Rattle.script_text.specs.Held.{Shows, Marks}
use Rattle.script_text.specs.Operations.{MayFollow, none_held, none_forked, held_after, forked_after}
use Rattle.script_text.proofs.Tables.{shows_none, marks_none}
use Rattle.script_text.proofs.draft.Draft.new.Goals as goal

pub returns-clause-draft : goal.returns-clause-draft
returns-clause-draft c =
    let e = sym c.new.ensures.items in
    record {
      lawful = c.requires;
      follow = (let P : List Line → Type 0 = λ xs. MayFollow c.args.layout none_held none_forked xs in subst P e tt);
      shows = (let P : List Line → Type 0 = λ xs. Shows (replicate 16384 false) (held_after none_held xs) in subst P e shows_none);
      marks = (let P : List Line → Type 0 = λ xs. Marks (replicate 256 false) (forked_after none_forked xs) in subst P e marks_none);
    }
