use Rattle.std.proofs.Common.{List, ℕ, ap, map, subst, arith, sym}
use Rattle.std.specs.String.{string_bytes}
use Rattle.std.proofs.lemmas.List.{length-map}
use Rattle.index_table.specs.Paths.{texts}
use Rattle.index_table.specs.Rows.{AreColumns, AreUsed}
use Rattle.index_table.proofs.Among.{same_answer, among_to, among_from}
use Rattle.index_table.proofs.draft.Draft.has_path.Goals as goal

pub returns : goal.returns
returns c =
    let old = c.self.inside in
    let es = old.paths.entries in
    let ps = texts es in
    let long = sym (length-map es (λ e. string_bytes e.0)) in
    let are = subst (λ n. AreColumns n old.words old.numbers.items old.figures.items old.ends.items old.closed) long c.self.invariant.2 in
    let used = subst (λ n. AreUsed n old.numbers.items) long c.self.invariant.1 in
    let skips = map string_bytes old.skipped.items in
    let p = c.args.path.now in
    rw (← c.self.view_is) (same_answer c.holds_path.result _ _ (among_to ps are skips used p) (among_from ps are skips p) c.holds_path.ensures)
