use Rattle.std.proofs.Common.{◌+◌, take, refl, ◌∙◌, sym, subst, arith}
use Rattle.script_run.specs.Playing.{Player, IsPlaying}
use Rattle.script_run.proofs.Starts.{forking, forked, playing_roomy}
use Rattle.script_run.proofs.parts.start.Goals as goal

pub overflow_add-own_events : goal.overflow_add-own_events
overflow_add-own_events g c = omega (arith, c.own_events.ensures)

pub returns-clause-parent : goal.returns-clause-parent
returns-clause-parent g c =
    let f = c.fork_thread.ensures in
    forking c.args.pkg.now c.args.lines.now c.args.at c.args.right.number c.args.parent.numbers c.args.parent.me c.fork_thread.new.me c.requires.fork c.requires.parent f.rest f.same f.event f.held f.share f.stints

pub returns-clause-child : goal.returns-clause-child
returns-clause-child g c =
    let f = c.fork_thread.ensures in
    subst (λ (k : Player). IsPlaying c.args.pkg.now c.args.right.number (take (c.args.at + 1) c.args.lines.now) _ k) (sym c.reserve-room.ensures.same)
    (playing_roomy c.args.pkg.now c.args.right.number (take (c.args.at + 1) c.args.lines.now) _ c.reserve-room.new.self.capacity c.in-Ok.child (forked c.args.pkg.now c.args.pkg.now.layout c.args.lines.now c.args.at c.args.parent.me.number c.args.right.number _ c.fork_thread.new.me c.in-Ok.child c.requires.version c.requires.script.follow c.requires.fork refl (f.same.world ∙ c.requires.parent.world) c.in-Ok.ensures.child))

pub fork_thread-requires-clause-named : goal.fork_thread-requires-clause-named
fork_thread-requires-clause-named g c κs within = c.requires.right.left.named
