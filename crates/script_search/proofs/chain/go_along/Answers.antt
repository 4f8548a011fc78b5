use Rattle.std.proofs.Common.{Option, subst}
use Rattle.larch_actions.specs.declared.event.Event.{Event}
use Rattle.script_search.specs.declared.board.Board.{Board}
use Rattle.script_search.specs.Boards.{moment_of, scene_of}
use Rattle.script_search.specs.Chains.{IsNext}
use Rattle.script_search.proofs.Chaining.{begins_none, begins_more, begins_all, next_falls, next_over}
use Rattle.script_search.proofs.chain.go_along.Goals as goal

pub loop-at-smaller : goal.loop-at-smaller
loop-at-smaller c =
    next_falls c.args.plan.now.layout c.args.plan.now.lines (moment_of c.loop-at.at) c.in_ok-event.field-0 (c.in-Some.event, c.in-Some.next) c.in_ok-event.ensures c.in-Some.is

pub loop-at-init : goal.loop-at-init
loop-at-init c = record {
  board = c.requires.board;
  begins = begins_none c.args.plan.now.layout c.args.plan.now.lines (scene_of (moment_of c.args.board)) c.args.events.now.items;
}

pub loop-at-preserved : goal.loop-at-preserved
loop-at-preserved c =
    let l = c.args.plan.now.layout in
    let xs = c.args.plan.now.lines in
    let at = moment_of c.loop-at.at in
    let next = subst (λ (o : Option (Event × Board)). IsNext l xs at o) c.in-Some.is c.in_ok-event.ensures in
    record {
      board = next.1;
      begins = begins_more l xs (scene_of (moment_of c.args.board)) (scene_of at) (scene_of (moment_of c.in-Some.next)) c.args.events.now.items c.loop-at.events.items c.push.new.self.items c.in-Some.event
          c.loop-at.invariant.begins next.0 c.in_ok-push.ensures.items;
    }

pub returns : goal.returns
returns c =
    let l = c.args.plan.now.layout in
    let xs = c.args.plan.now.lines in
    let at = moment_of c.loop-at.at in
    let over = next_over l xs at c.in_ok-event.field-0 c.in_ok-event.ensures (λ x is. c.in_default.not-Some x is) in
    let all = begins_all l xs (scene_of (moment_of c.args.board)) (scene_of at) c.args.events.now.items c.loop-at.events.items c.loop-at.invariant.begins over in
    (all.0, all.1, all.2, c.loop-at.invariant.board)
