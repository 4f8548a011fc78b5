use Rattle.std.proofs.Common.{◌≡◌, Bool, Some, subst, sym}
use Rattle.nub_rule.specs.Known.{Makes, learnt}
use Rattle.nub_rule.specs.Parts.{made}
use Rattle.nub_rule.specs.Plays.{begun_wait, enqueue_event}
use Rattle.event_count.proofs.wait.begin_wait.Goals as goal

pub load_count-requires-clause-named : goal.load_count-requires-clause-named
load_count-requires-clause-named g c κs within = c.requires.named

pub returns-then-alertable : goal.returns-then-alertable
returns-then-alertable g c =
    let old = c.args.me.now in
    let new = c.load_count_alertable.new.me in
    let is = sym c.if-alertable.true in
    record {
      event = subst (λ (a : Bool). Makes (enqueue_event a old.number c.args.m.0 c.args.c.0) old new) is c.load_count_alertable.ensures.event;
      begun = subst (λ (a : Bool). new ≡ record old { part = record (learnt old.part new.part) { wait = Some (begun_wait a c.args.m.0 c.args.c.0 c.load_count_alertable.result); pen = made old.pen } }) is c.load_count_alertable.ensures.begun;
    }

pub returns-else-alertable : goal.returns-else-alertable
returns-else-alertable g c =
    let old = c.args.me.now in
    let new = c.load_count.new.me in
    let is = sym c.if-alertable.false in
    record {
      event = subst (λ (a : Bool). Makes (enqueue_event a old.number c.args.m.0 c.args.c.0) old new) is c.load_count.ensures.event;
      begun = subst (λ (a : Bool). new ≡ record old { part = record (learnt old.part new.part) { wait = Some (begun_wait a c.args.m.0 c.args.c.0 c.load_count.result); pen = made old.pen } }) is c.load_count.ensures.begun;
    }
