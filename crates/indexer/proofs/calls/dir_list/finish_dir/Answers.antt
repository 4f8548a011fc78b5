use Rattle.std.proofs.Common.{refl}
use Rattle.index_rule.specs.declared.value.IndexValue.TheVariants.{Dirs}
use Rattle.indexer.proofs.Getting.{makes_stay, stay_counts, stay_moves}
use Rattle.indexer.proofs.calls.dir_list.finish_dir.Goals as goal

pub give_and_wake-requires-clause-has : goal.give_and_wake-requires-clause-has
give_and_wake-requires-clause-has g c =
    let has = c.take_list-dirs.ensures in
    (c.args.me.now, Dirs c.take_list-dirs.result, has, stay_moves c.take_list-dirs.result.list.waiting.items _ has.own, stay_counts c.take_list-dirs.result _ has.own refl refl)

pub returns-clause-made : goal.returns-clause-made
returns-clause-made g c =
    makes_stay c.args.p.now c.take_list-dirs.result.list.waiting.items c.args.me.now c.give_and_wake.new.me
    (c.give_and_wake.ensures.makes c.args.me.now (Dirs c.take_list-dirs.result) c.take_list-dirs.ensures c.requires.between)

pub returns-clause-wakes : goal.returns-clause-wakes
returns-clause-wakes g c = c.give_and_wake.ensures.wakes refl
