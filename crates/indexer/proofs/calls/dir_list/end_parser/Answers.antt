use Rattle.std.proofs.Common.{refl}
use Rattle.index_rule.specs.declared.value.IndexValue.TheVariants.{Dirs}
use Rattle.indexer.proofs.Getting.{gets_stay, stay_counts, stay_moves}
use Rattle.indexer.proofs.calls.dir_list.end_parser.Goals as goal

pub give_list-requires-clause-has : goal.give_list-requires-clause-has
give_list-requires-clause-has g c =
    let has = c.take_list-dirs.ensures in
    (c.args.me.now, Dirs c.take_list-dirs.result, has, stay_moves c.take_list-dirs.result.list.waiting.items _ has.own, stay_counts c.take_list-dirs.result _ has.own refl refl)

pub returns : goal.returns
returns g c =
    let a = c.args.me.now in
    let x = Dirs c.take_list-dirs.result in
    let has = c.take_list-dirs.ensures in
    record {
      called = λ o root. (c.give_list.ensures.called a x has c.requires.between o root).1;
      gets = gets_stay c.args.p.now c.take_list-dirs.result.list.waiting.items a c.give_list.new.me (c.give_list.ensures.gets a x has);
    }
