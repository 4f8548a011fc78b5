use Rattle.index_rule.specs.declared.value.IndexValue.TheVariants.{Dirs}
use Rattle.indexer.proofs.Getting.{list_counts, put_counted, put_goes, put_made}
use Rattle.indexer.proofs.calls.dir_list.put_dirs.Goals as goal

pub give_and_wake-requires-clause-has : goal.give_and_wake-requires-clause-has
give_and_wake-requires-clause-has g c =
    let has = c.take_list-dirs.ensures in
    let go = put_goes c.args.found.items c.args.files c.take_list-dirs.result c.put_found-end.new.state c.put_found-end.result has.own c.put_found-end.ensures (c.requires.may has.own has.was) in
    (c.args.me.now, Dirs c.take_list-dirs.result, has, go.0, go.1)

pub returns-clause-made : goal.returns-clause-made
returns-clause-made g c =
    put_made c.args.p.now c.args.me.now c.give_and_wake.new.me c.args.found.items c.args.files c.take_list-dirs.result c.put_found-end.new.state c.put_found-end.result c.put_found-end.ensures
    (c.give_and_wake.ensures.makes c.args.me.now (Dirs c.take_list-dirs.result) c.take_list-dirs.ensures c.requires.between)

pub returns-clause-counted : goal.returns-clause-counted
returns-clause-counted g c = λ ne.
    let put = put_counted c.args.found.items c.args.files c.take_list-dirs.result c.put_found-end.new.state c.put_found-end.result c.put_found-end.ensures ne in
    let x = Dirs c.take_list-dirs.result in
    list_counts c.args.p.now c.args.me.now c.take_list-dirs.new.me c.give_and_wake.new.me x (Dirs c.put_found-end.new.state) c.args.files c.take_list-dirs.ensures (c.give_and_wake.ensures.share c.args.me.now x c.take_list-dirs.ensures) put.files
