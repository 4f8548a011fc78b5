use Rattle.std.proofs.Common.{◌∷◌, [], refl, subst}
use Rattle.script_text.specs.declared.table.Use.{Use}
use Rattle.script_text.specs.declared.table.Fate.{Fate}
use Rattle.script_text.specs.Drafts.{held_in, forked_in}
use Rattle.script_text.specs.Held.{Shows, Marks}
use Rattle.script_text.specs.Operations.{none_held, none_forked, holding_with, forked_with}
use Rattle.script_text.proofs.Follow.{held_append, forked_append, follow_append}
use Rattle.script_text.proofs.draft.Draft.take.Goals as goal

pub returns-clause-taken : goal.returns-clause-taken
returns-clause-taken c =
    let d = c.args.self.now in
    let x = c.args.line in
    let items = c.in_ok-push.ensures.items in
    let Held : Use → Type 0 = λ u. Shows c.note_use.new.held (holding_with (held_in d) x.thread.0 u) in
    let Born : Fate → Type 0 = λ u. Marks c.note_fate.new.forked (forked_with (forked_in d) u) in
    let shows = subst Held c.mutex_use-used.ensures (c.note_use.ensures (held_in d) c.requires.draft.shows) in
    let marks = subst Born c.thread_fate.ensures (c.note_fate.ensures (forked_in d) c.requires.draft.marks) in
    record {
      layout = refl;
      lines = items;
      draft = record {
        lawful = c.requires.draft.lawful;
        follow = rw items (follow_append d.layout none_held none_forked d.lines.items (x ∷ []) c.requires.draft.follow (c.requires.may, tt));
        shows = rw (items, held_append none_held d.lines.items (x ∷ [])) shows;
        marks = rw (items, forked_append none_forked d.lines.items (x ∷ [])) marks;
      };
    }
