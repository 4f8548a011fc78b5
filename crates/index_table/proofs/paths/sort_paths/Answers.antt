use Rattle.std.proofs.Common.{◌∙◌, sym, subst, arith}
use Rattle.index_table.specs.Paths.{values, AreRanks}
use Rattle.index_table.proofs.Drafts.{values_fit, written}
use Rattle.index_table.proofs.Named.{ranked}
use Rattle.index_table.proofs.paths.sort_paths.Goals as goal

pub fill_ranks-requires : goal.fill_ranks-requires
fill_ranks-requires c k d below =
    let fit = values_fit c.args.paths.now.entries c.sort_unstable_keys.new.self.entries c.requires.numbered c.in_ok-sort_unstable_keys.ensures.reordered.0 k d below in
    omega (arith, fit, c.deref_mut.ensures.len, c.in_ok-resize.ensures.len, c.len.ensures.len)

pub returns : goal.returns
returns c =
    let e = c.in_ok-sort_unstable_keys.ensures in
    let v = c.resize.new.self in
    let whole = written v.len c.fill_ranks.new.ranks v.items (omega (arith, c.fill_ranks.auto.ranks, c.deref_mut.ensures.len, v.ok.0)) (omega (arith, v.ok.0)) in
    let ranks = subst (AreRanks (values c.sort_unstable_keys.new.self.entries)) (sym (c.deref.ensures.value ∙ whole)) c.in_ok-fill_ranks.ensures in
    ranked c.args.paths.now.entries c.sort_unstable_keys.new.self.entries c.requires.numbered e.reordered.0 e.sorted e.unique c.deref.result.now ranks c.args.numbers.now c.renumber.new.numbers c.requires.within c.renumber.ensures
