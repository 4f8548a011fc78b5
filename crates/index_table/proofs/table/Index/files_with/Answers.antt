use Rattle.std.proofs.Common.{◌<◌, ◌+◌, ◌-◌, ◌/◌, sym, map, ◌∙◌, subst, length, arith}
use Rattle.std.specs.String.{string_bytes}
use Rattle.std.proofs.lemmas.List.{length-map}
use Rattle.word_index.proofs.Below.{below_back, same_texts}
use Rattle.word_index.proofs.Searches.{searching_above, searching_under, searched_all}
use Rattle.index_table.specs.Paths.{texts}
use Rattle.index_table.specs.Rows.{AreColumns}
use Rattle.index_table.proofs.Files.{files_at, no_files, words_rise}
use Rattle.index_table.proofs.table.Index.files_with.Goals as goal

pub loop-low-preserved-in-Less : goal.loop-low-preserved-in-Less
loop-low-preserved-in-Less c =
    let s = c.loop-low.invariant in
    let i = c.self.inside in
    let ps = texts i.paths.entries in
    let are = subst (λ n. AreColumns n i.words i.numbers.items i.figures.items i.ends.items (length i.numbers.items)) (sym (length-map i.paths.entries (λ e. string_bytes e.0))) c.self.invariant.0 in
    searching_above s (words_rise ps are (map string_bytes i.skipped.items) c.self.invariant.2.rising c.self.invariant.1) _ (omega arith) (omega (arith, s.order)) (rw (← c.get.ensures) (sym c.in-Less.ensures))

pub returns-in-Equal : goal.returns-in-Equal
returns-in-Equal c =
    let s = c.loop-low.invariant in
    let i = c.self.inside in
    let ps = texts i.paths.entries in
    let are = subst (λ n. AreColumns n i.words i.numbers.items i.figures.items i.ends.items (length i.numbers.items)) (sym (length-map i.paths.entries (λ e. string_bytes e.0))) c.self.invariant.0 in
    let m = c.loop-low.low + (c.loop-low.high - c.loop-low.low) / 2 in
    let inside : m < length i.words = omega (arith, s.order, s.within) in
    let same = sym c.get.ensures ∙ same_texts c.get.result.now c.args.word.now (sym c.in-Equal.ensures) in
    rw (← c.self.view_is, c.part_of.ensures, c.deref.ensures.value, c.deref-in-Equal.ensures.value) (files_at ps are (map string_bytes i.skipped.items) c.self.invariant.2.rising c.self.invariant.1 c.args.word.now m inside same)

pub loop-low-preserved : goal.loop-low-preserved
loop-low-preserved c =
    let s = c.loop-low.invariant in
    let i = c.self.inside in
    let ps = texts i.paths.entries in
    let are = subst (λ n. AreColumns n i.words i.numbers.items i.figures.items i.ends.items (length i.numbers.items)) (sym (length-map i.paths.entries (λ e. string_bytes e.0))) c.self.invariant.0 in
    searching_under s (words_rise ps are (map string_bytes i.skipped.items) c.self.invariant.2.rising c.self.invariant.1) _ (omega arith) (omega (arith, s.order)) (rw (← c.get.ensures) (below_back c.get.result.now c.args.word.now (sym c.in-Greater.ensures)))

pub returns : goal.returns
returns c =
    let s = c.loop-low.invariant in
    let i = c.self.inside in
    let ps = texts i.paths.entries in
    let are = subst (λ n. AreColumns n i.words i.numbers.items i.figures.items i.ends.items (length i.numbers.items)) (sym (length-map i.paths.entries (λ e. string_bytes e.0))) c.self.invariant.0 in
    rw (← c.self.view_is) (no_files ps are (map string_bytes i.skipped.items) c.self.invariant.2.rising c.self.invariant.1 c.args.word.now (λ here. searched_all s (omega arith) here))
