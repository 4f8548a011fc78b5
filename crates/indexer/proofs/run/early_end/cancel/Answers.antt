use Rattle.indexer.specs.Gets.{nothing}
use Rattle.indexer.proofs.Getting.{makes_after, makes_between, makes_idle}
use Rattle.indexer.proofs.run.early_end.cancel.Goals as goal

pub loop-t-init : goal.loop-t-init
loop-t-init g c = c.shut_all.ensures

pub alert-requires-clause-rest : goal.alert-requires-clause-rest
alert-requires-clause-rest g c κs within = (makes_between c.args.p.now nothing c.args.me.now c.loop-t.me c.requires.between c.loop-t.invariant).2.rest

pub loop-t-preserved : goal.loop-t-preserved
loop-t-preserved g c =
    let p = c.args.p.now in
    let a = c.args.me.now in
    let b = c.loop-t.me in
    makes_after p nothing a b c.alert.new.me c.loop-t.invariant
    (makes_idle p _ _ b c.alert.new.me (makes_between p nothing a b c.requires.between c.loop-t.invariant) c.alert.ensures.event c.alert.ensures.idle)
