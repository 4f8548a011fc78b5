use Rattle.std.proofs.Common.{◌∙◌, ap, map, ◌++◌, ◌∷◌, []}
use Rattle.std.specs.String.{string_bytes}
use Rattle.word_index.specs.Index.{Hit}
use Rattle.index_table.specs.declared.draft.Figures.{Figures}
use Rattle.index_table.specs.Rows.{Drafted}
use Rattle.index_table.specs.Paths.{texts}
use Rattle.index_table.proofs.Columns.{columns_hit, view_hit, drafted}
use Rattle.index_table.proofs.Drafts.{grown_wide, grown_texts, grown_used}
use Rattle.index_table.proofs.draft.Draft.hit.Goals as goal

abbrev with_hit : Drafted → Hit → Drafted
with_hit d h = record d { hits = d.hits ++ h ∷ [] }

pub invariant_of-self : goal.invariant_of-self
invariant_of-self c = rw c.reserve.ensures.items c.self.invariant

pub invariant_of-self-in_err-reserve-2 : goal.invariant_of-self-in_err-reserve-2
invariant_of-self-in_err-reserve-2 c = rw (c.reserve.ensures.items, c.reserve-2.ensures.items) c.self.invariant

pub invariant_of-self-in_err-number : goal.invariant_of-self-in_err-number
invariant_of-self-in_err-number c = rw (c.in_err-number.ensures.kept, c.reserve.ensures.items, c.reserve-2.ensures.items) c.self.invariant

pub invariant_of-self-2 : goal.invariant_of-self-2
invariant_of-self-2 c =
    let old = c.self.inside in
    let g = c.in_ok-number.ensures.placed in
    rw (c.push_reserved.ensures.items, c.push_reserved-2.ensures.items, c.reserve.ensures.items, c.reserve-2.ensures.items)
    (g.numbered, grown_used g old.numbers.items c.self.invariant.1, columns_hit (texts old.paths.entries) c.self.invariant.2 _ _ _ (grown_wide g) g.within)

pub returns-clause-added : goal.returns-clause-added
returns-clause-added c =
    let old = c.self.inside in
    let es = old.paths.entries in
    let g = c.in_ok-number.ensures.placed in
    let n = c.in_ok-number.number in
    let f : Figures = record { count = c.args.count; line = c.args.line } in
    let skips = map string_bytes old.skipped.items in
    let all = view_hit (texts es) c.self.invariant.2 (texts c.place_path.new.paths.entries) skips n f (grown_texts g old.numbers.items c.self.invariant.2.within) in
    let put = ap (λ p. with_hit (drafted (texts es) old.words old.numbers.items old.figures.items old.ends.items old.closed skips) (record { path = p; count = c.args.count; line = c.args.line })) g.here in
    rw (c.push_reserved.ensures.items, c.push_reserved-2.ensures.items, c.reserve.ensures.items, c.reserve-2.ensures.items) (all ∙ put ∙ ap (λ d. with_hit d (record { path = c.args.path.now; count = c.args.count; line = c.args.line })) c.self.view_is)
