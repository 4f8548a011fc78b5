use Rattle.std.proofs.Common.{◌≡◌, ◌∙◌, ℕ, List, ap, map, length, ◌++◌, ◌∷◌, []}
use Rattle.std.specs.String.{string_bytes}
use Rattle.index_table.specs.Rows.{Drafted}
use Rattle.index_table.specs.Paths.{texts}
use Rattle.index_table.proofs.Columns.{columns_row, view_row}
use Rattle.index_table.proofs.draft.Draft.end_row.Goals as goal

abbrev ended : List ℕ → Drafted → Drafted
ended w d = record { rows = d.rows ++ record { word = w; hits = d.hits } ∷ []; hits = []; skipped = d.skipped }

pub invariant_of-self-2 : goal.invariant_of-self-2
invariant_of-self-2 c =
    let old = c.self.inside in
    let at : c.len-self-inside.result ≡ length old.numbers.items = c.len-self-inside.ensures ∙ old.numbers.ok.0 in
    rw (c.push_reserved.ensures.items, c.reserve.ensures.items, c.in_ok-push.ensures.added, at) (c.self.invariant.0, c.self.invariant.1, columns_row (texts old.paths.entries) c.self.invariant.2 c.args.word.now)

pub returns-clause-added : goal.returns-clause-added
returns-clause-added c =
    let old = c.self.inside in
    let at : c.len-self-inside.result ≡ length old.numbers.items = c.len-self-inside.ensures ∙ old.numbers.ok.0 in
    rw (c.push_reserved.ensures.items, c.reserve.ensures.items, c.in_ok-push.ensures.added, at) (view_row (texts old.paths.entries) c.self.invariant.2 c.args.word.now (map string_bytes old.skipped.items) ∙ ap (ended c.args.word.now) c.self.view_is)
