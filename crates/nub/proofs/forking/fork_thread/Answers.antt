use Rattle.std.proofs.Common.{◌≡◌, ◌<◌, ℕ, ap, ap₂, sym, subst, ◌∙◌}
use Rattle.std.proofs.lemmas.Option.{same_Some}
use lib.ListN.{get_elem?}
use Rattle.larch_actions.specs.declared.event.Event.{Event}
use Rattle.nub_rule.specs.declared.view.Child.TheVariants.{Forked}
use Rattle.nub_rule.specs.Ends.{newborn_known}
use Rattle.nub_rule.specs.Known.{Known, Makes}
use Rattle.nub_rule.specs.Plays.{fork_event}
use Rattle.nub_rule.specs.Stored.{ComesNext}
use Rattle.nub.specs.Forks.{IsBegun}
use Rattle.nub.specs.Rest.{AtRest, HasStored}
use Rattle.nub.proofs.Begun.{adds_within, begun_is, idle_begun}
use Rattle.nub.proofs.Holding.{keeps}
use Rattle.nub.proofs.Users.{idle_again}
use Rattle.nub.proofs.Without.{comes_next, stored_by}
use Rattle.nub.proofs.forking.fork_thread.Given.{Over}
use Rattle.nub.proofs.forking.fork_thread.Goals.{After-fork_life, After-end_event, After-hand_out}
use Rattle.nub.proofs.forking.fork_thread.Goals as goal

-- the event as it was made, and as the code has it
makes : (g : Over) (c : After-fork_life g) → Makes (fork_event c.number-2.result c.number.result) c.begin_event.new.me c.fork_life.new.me
makes g c =
    let same = ap (λ k. k.number) c.begin_event.ensures.pen ∙ (ap (λ k. k.number) c.take_right-body.ensures.child ∙ sym c.number-2.ensures) in
    subst (λ (x : Event). Makes x c.begin_event.new.me c.fork_life.new.me) (ap (λ n. fork_event n c.number.result) same) c.fork_life.ensures.event

has : (g : Over) (c : After-fork_life g) → HasStored c.args.p.now.traced c.take_right-body.new.me
has g c = let K = Known g.row.U-Value.Denot g.row.U-Share.Denot g.row.U-World.Denot in
    subst (λ (k : K). HasStored c.args.p.now.traced k) (sym c.take_right-body.ensures.child) c.requires.rest.stored

pub end_event-requires-clause-last : goal.end_event-requires-clause-last
end_event-requires-clause-last g c κs within = λ traced e is.
    let a = (goal.at.end_event-requires-clause-last g c).After-fork_life in
    let f = c.fork_life.ensures.forked in
    subst (λ (x : Event). ComesNext x c.fork_life.new.me) (same_Some (fork_event c.number-2.result c.number.result) e is)
    (comes_next c.args.p.now.traced c.take_right-body.new.me c.begin_event.new.me c.fork_life.new.me (fork_event c.number-2.result c.number.result) c.begin_event.ensures.pen c.begin_event.ensures.number (makes g a) (ap (λ k. k.next) f) (ap (λ k. k.entries) f) (ap (λ k. k.lost) f) (has g a) traced)

-- the thread that was forked is the one whose right was given
forked : (g : Over) (c : After-end_event g) → c.end_event.new.me.child ≡ Forked c.take_right-body.result c.fork_life.new.me.seen
forked g c =
    let who : c.number.result ≡ c.take_right-body.result = c.number.ensures ∙ sym (c.take_right-body.ensures.body ∙ ap (λ k. k.number) c.into_thread.ensures.same) in
    ap (λ k. k.child) c.end_event.ensures.rest ∙ (ap (λ k. k.child) c.fork_life.ensures.forked ∙ ap (λ (n : ℕ). Forked n c.fork_life.new.me.seen) who)

pub hand_out-requires-clause-forked : goal.hand_out-requires-clause-forked
hand_out-requires-clause-forked g c κs within = (c.fork_life.new.me.seen, forked g (goal.at.hand_out-requires-clause-forked g c).After-end_event)

-- the same, once the thread was handed out
made-at-last : (g : Over) (c : After-hand_out g) → Makes (fork_event c.number-2.result c.number.result) c.begin_event.new.me c.fork_life.new.me
made-at-last g c =
    let same = ap (λ k. k.number) c.begin_event.ensures.pen ∙ (ap (λ k. k.number) c.take_right-body.ensures.child ∙ sym c.number-2.ensures) in
    subst (λ (x : Event). Makes x c.begin_event.new.me c.fork_life.new.me) (ap (λ n. fork_event n c.number.result) same) c.fork_life.ensures.event

has-at-last : (g : Over) (c : After-hand_out g) → HasStored c.args.p.now.traced c.take_right-body.new.me
has-at-last g c = let K = Known g.row.U-Value.Denot g.row.U-Share.Denot g.row.U-World.Denot in
    subst (λ (k : K). HasStored c.args.p.now.traced k) (sym c.take_right-body.ensures.child) c.requires.rest.stored

forked-at-last : (g : Over) (c : After-hand_out g) → c.end_event.new.me.child ≡ Forked c.take_right-body.result c.fork_life.new.me.seen
forked-at-last g c =
    let who : c.number.result ≡ c.take_right-body.result = c.number.ensures ∙ sym (c.take_right-body.ensures.body ∙ ap (λ k. k.number) c.into_thread.ensures.same) in
    ap (λ k. k.child) c.end_event.ensures.rest ∙ (ap (λ k. k.child) c.fork_life.ensures.forked ∙ ap (λ (n : ℕ). Forked n c.fork_life.new.me.seen) who)

rest : (g : Over) (c : After-hand_out g) → AtRest c.args.p.now c.hand_out.new.me
rest g c =
    let K = Known g.row.U-Value.Denot g.row.U-Share.Denot g.row.U-World.Denot in
    let f = c.fork_life.ensures.forked in
    let stored = stored_by c.args.p.now.traced c.take_right-body.new.me c.begin_event.new.me c.fork_life.new.me c.end_event.new.me (fork_event c.number-2.result c.number.result) c.begin_event.ensures.pen c.begin_event.ensures.traced c.begin_event.ensures.number (made-at-last g c) (ap (λ k. k.next) f) (ap (λ k. k.entries) f) (ap (λ k. k.lost) f) c.end_event.ensures.rest c.end_event.ensures.stored (has-at-last g c) in
    record {
      of = (ap (λ k. k.table_id) c.hand_out.ensures.child ∙ (ap (λ k. k.table_id) c.end_event.ensures.rest ∙ (ap (λ k. k.table_id) c.fork_life.ensures.forked ∙ (ap (λ k. k.table_id) c.begin_event.ensures.pen ∙ (ap (λ k. k.table_id) c.take_right-body.ensures.child))))) ∙ c.requires.rest.of;
      named = subst (λ (n : ℕ). n < c.args.p.now.layout.threads) (sym (ap (λ k. k.number) c.hand_out.ensures.child ∙ (ap (λ k. k.number) c.end_event.ensures.rest ∙ (ap (λ k. k.number) c.fork_life.ensures.forked ∙ (ap (λ k. k.number) c.begin_event.ensures.pen ∙ ap (λ k. k.number) c.take_right-body.ensures.child))))) c.requires.rest.named;
      outside = record { spin = (ap (λ k. k.spin) c.hand_out.ensures.child ∙ (ap (λ k. k.spin) c.end_event.ensures.rest ∙ (ap (λ k. k.spin) c.fork_life.ensures.forked ∙ (ap (λ k. k.spin) c.begin_event.ensures.pen ∙ (ap (λ k. k.spin) c.take_right-body.ensures.child))))) ∙ c.requires.rest.outside.spin; queue = (ap (λ k. k.queue) c.hand_out.ensures.child ∙ (ap (λ k. k.queue) c.end_event.ensures.rest ∙ (ap (λ k. k.queue) c.fork_life.ensures.forked ∙ (ap (λ k. k.queue) c.begin_event.ensures.pen ∙ (ap (λ k. k.queue) c.take_right-body.ensures.child))))) ∙ c.requires.rest.outside.queue; owed = (ap (λ k. k.owed) c.hand_out.ensures.child ∙ (ap (λ k. k.owed) c.end_event.ensures.rest ∙ (ap (λ k. k.owed) c.fork_life.ensures.forked ∙ (ap (λ k. k.owed) c.begin_event.ensures.pen ∙ (ap (λ k. k.owed) c.take_right-body.ensures.child))))) ∙ c.requires.rest.outside.owed; left = (ap (λ k. k.left) c.hand_out.ensures.child ∙ (ap (λ k. k.left) c.end_event.ensures.rest ∙ (ap (λ k. k.left) c.fork_life.ensures.forked ∙ (ap (λ k. k.left) c.begin_event.ensures.pen ∙ (ap (λ k. k.left) c.take_right-body.ensures.child))))) ∙ c.requires.rest.outside.left; stand = (ap (λ k. k.stand) c.hand_out.ensures.child ∙ (ap (λ k. k.stand) c.end_event.ensures.rest ∙ (ap (λ k. k.stand) c.fork_life.ensures.forked ∙ (ap (λ k. k.stand) c.begin_event.ensures.pen ∙ (ap (λ k. k.stand) c.take_right-body.ensures.child))))) ∙ c.requires.rest.outside.stand; pen = ap (λ k. k.pen) c.hand_out.ensures.child ∙ ap (λ k. k.pen) c.end_event.ensures.rest; live = (ap (λ k. k.life) c.hand_out.ensures.child ∙ (ap (λ k. k.life) c.end_event.ensures.rest ∙ (ap (λ k. k.life) c.fork_life.ensures.forked ∙ (ap (λ k. k.life) c.begin_event.ensures.pen ∙ (ap (λ k. k.life) c.take_right-body.ensures.child))))) ∙ c.requires.rest.outside.live };
      wait = (ap (λ k. k.wait) c.hand_out.ensures.child ∙ (ap (λ k. k.wait) c.end_event.ensures.rest ∙ (ap (λ k. k.wait) c.fork_life.ensures.forked ∙ (ap (λ k. k.wait) c.begin_event.ensures.pen ∙ (ap (λ k. k.wait) c.take_right-body.ensures.child))))) ∙ c.requires.rest.wait;
      raised = (ap (λ k. k.raised) c.hand_out.ensures.child ∙ (ap (λ k. k.raised) c.end_event.ensures.rest ∙ (ap (λ k. k.raised) c.fork_life.ensures.forked ∙ (ap (λ k. k.raised) c.begin_event.ensures.pen ∙ (ap (λ k. k.raised) c.take_right-body.ensures.child))))) ∙ c.requires.rest.raised;
      calling = (ap (λ k. k.calling) c.hand_out.ensures.child ∙ (ap (λ k. k.calling) c.end_event.ensures.rest ∙ (ap (λ k. k.calling) c.fork_life.ensures.forked ∙ (ap (λ k. k.calling) c.begin_event.ensures.pen ∙ (ap (λ k. k.calling) c.take_right-body.ensures.child))))) ∙ c.requires.rest.calling;
      turns = (ap (λ k. k.turns) c.hand_out.ensures.child ∙ (ap (λ k. k.turns) c.end_event.ensures.rest ∙ (ap (λ k. k.turns) c.fork_life.ensures.forked ∙ (ap (λ k. k.turns) c.begin_event.ensures.pen ∙ (ap (λ k. k.turns) c.take_right-body.ensures.child))))) ∙ c.requires.rest.turns;
      cleared = (ap (λ k. k.cleared) c.hand_out.ensures.child ∙ (ap (λ k. k.cleared) c.end_event.ensures.rest ∙ (ap (λ k. k.cleared) c.fork_life.ensures.forked ∙ (ap (λ k. k.cleared) c.begin_event.ensures.pen ∙ (ap (λ k. k.cleared) c.take_right-body.ensures.child))))) ∙ c.requires.rest.cleared;
      looked = (ap (λ k. k.looked) c.hand_out.ensures.child ∙ (ap (λ k. k.looked) c.end_event.ensures.rest ∙ (ap (λ k. k.looked) c.fork_life.ensures.forked ∙ (ap (λ k. k.looked) c.begin_event.ensures.pen ∙ (ap (λ k. k.looked) c.take_right-body.ensures.child))))) ∙ c.requires.rest.looked;
      taken = λ m x is. ap (λ l. get_elem? l m) (ap (λ k. k.values) c.hand_out.ensures.child ∙ (ap (λ k. k.values) c.end_event.ensures.rest ∙ (ap (λ k. k.values) c.fork_life.ensures.forked ∙ (ap (λ k. k.values) c.begin_event.ensures.pen ∙ (ap (λ k. k.values) c.take_right-body.ensures.child))))) ∙ c.requires.rest.taken m x (ap (λ l. get_elem? l m) (sym (ap (λ k. k.held) c.hand_out.ensures.child ∙ (ap (λ k. k.held) c.end_event.ensures.rest ∙ (ap (λ k. k.held) c.fork_life.ensures.forked ∙ (ap (λ k. k.held) c.begin_event.ensures.pen ∙ (ap (λ k. k.held) c.take_right-body.ensures.child)))))) ∙ is);
      stored = subst (λ (k : K). HasStored c.args.p.now.traced k) (sym c.hand_out.ensures.child) stored;
      child = ap (λ k. k.child) c.hand_out.ensures.child;
      version = (ap (λ k. k.version) c.hand_out.ensures.child ∙ (ap (λ k. k.version) c.end_event.ensures.rest ∙ (ap (λ k. k.version) c.fork_life.ensures.forked ∙ (ap (λ k. k.version) c.begin_event.ensures.pen ∙ (ap (λ k. k.version) c.take_right-body.ensures.child))))) ∙ c.requires.rest.version;
    }

pub returns-clause-rest : goal.returns-clause-rest
returns-clause-rest g c = rest g (goal.at.returns-clause-rest g c).After-hand_out

pub returns-clause-event : goal.returns-clause-event
returns-clause-event g c =
    let b = c.begin_event.new.me in
    let f = c.fork_life.new.me in
    let n = ap (λ k. k.number) c.begin_event.ensures.pen ∙ ap (λ k. k.number) c.take_right-body.ensures.child in
    let made = subst (λ (x : Event). Makes x b f) (ap₂ fork_event n c.number.ensures) c.fork_life.ensures.event in
    adds_within (fork_event c.args.me.now.number c.args.child.number) c.args.me.now b f c.hand_out.new.me n
    (ap (λ k. k.seen) c.begin_event.ensures.pen ∙ ap (λ k. k.seen) c.take_right-body.ensures.child)
    (ap (λ k. k.mine) c.begin_event.ensures.pen ∙ ap (λ k. k.mine) c.take_right-body.ensures.child)
    made
    (ap (λ k. k.number) c.hand_out.ensures.child ∙ (ap (λ k. k.number) c.end_event.ensures.rest ∙ (ap (λ k. k.number) c.fork_life.ensures.forked)))
    (ap (λ k. k.version) c.hand_out.ensures.child ∙ (ap (λ k. k.version) c.end_event.ensures.rest ∙ (ap (λ k. k.version) c.fork_life.ensures.forked)))
    (ap (λ k. k.seen) c.hand_out.ensures.child ∙ ap (λ k. k.seen) c.end_event.ensures.rest)
    (ap (λ k. k.mine) c.hand_out.ensures.child ∙ ap (λ k. k.mine) c.end_event.ensures.rest)

pub take_right-body-requires-clause-live : goal.take_right-body-requires-clause-live
take_right-body-requires-clause-live g c κs within = c.requires.rest.outside.live

pub returns-clause-apart : goal.returns-clause-apart
returns-clause-apart g c e = c.fork_life.ensures.apart (c.number.ensures ∙ (e ∙ sym (ap (λ k. k.number) c.begin_event.ensures.pen ∙ ap (λ k. k.number) c.take_right-body.ensures.child)))

pub returns-clause-idle : goal.returns-clause-idle
returns-clause-idle g c = λ n s i. idle_again c.args.p.now n s s c.args.me.now c.hand_out.new.me i (rest g (goal.at.returns-clause-idle g c).After-hand_out)
    record { number = ap (λ k. k.number) c.hand_out.ensures.child ∙ (ap (λ k. k.number) c.end_event.ensures.rest ∙ (ap (λ k. k.number) c.fork_life.ensures.forked ∙ (ap (λ k. k.number) c.begin_event.ensures.pen ∙ (ap (λ k. k.number) c.take_right-body.ensures.child)))); world = ap (λ k. k.world) c.hand_out.ensures.child ∙ (ap (λ k. k.world) c.end_event.ensures.rest ∙ (ap (λ k. k.world) c.fork_life.ensures.forked ∙ (ap (λ k. k.world) c.begin_event.ensures.pen ∙ (ap (λ k. k.world) c.take_right-body.ensures.child)))) }
    (ap (λ k. k.held) c.hand_out.ensures.child ∙ (ap (λ k. k.held) c.end_event.ensures.rest ∙ (ap (λ k. k.held) c.fork_life.ensures.forked ∙ (ap (λ k. k.held) c.begin_event.ensures.pen ∙ (ap (λ k. k.held) c.take_right-body.ensures.child))))) ((ap (λ k. k.share) c.hand_out.ensures.child ∙ (ap (λ k. k.share) c.end_event.ensures.rest ∙ (ap (λ k. k.share) c.fork_life.ensures.forked ∙ (ap (λ k. k.share) c.begin_event.ensures.pen ∙ (ap (λ k. k.share) c.take_right-body.ensures.child))))) ∙ i.share)

pub returns-clause-holding : goal.returns-clause-holding
returns-clause-holding g c = λ n m s x i. keeps c.args.p.now n m s x c.args.me.now c.hand_out.new.me i (rest g (goal.at.returns-clause-holding g c).After-hand_out)
    record { number = ap (λ k. k.number) c.hand_out.ensures.child ∙ (ap (λ k. k.number) c.end_event.ensures.rest ∙ (ap (λ k. k.number) c.fork_life.ensures.forked ∙ (ap (λ k. k.number) c.begin_event.ensures.pen ∙ (ap (λ k. k.number) c.take_right-body.ensures.child)))); world = ap (λ k. k.world) c.hand_out.ensures.child ∙ (ap (λ k. k.world) c.end_event.ensures.rest ∙ (ap (λ k. k.world) c.fork_life.ensures.forked ∙ (ap (λ k. k.world) c.begin_event.ensures.pen ∙ (ap (λ k. k.world) c.take_right-body.ensures.child)))) }
    (ap (λ k. k.held) c.hand_out.ensures.child ∙ (ap (λ k. k.held) c.end_event.ensures.rest ∙ (ap (λ k. k.held) c.fork_life.ensures.forked ∙ (ap (λ k. k.held) c.begin_event.ensures.pen ∙ (ap (λ k. k.held) c.take_right-body.ensures.child))))) (ap (λ k. k.share) c.hand_out.ensures.child ∙ (ap (λ k. k.share) c.end_event.ensures.rest ∙ (ap (λ k. k.share) c.fork_life.ensures.forked ∙ (ap (λ k. k.share) c.begin_event.ensures.pen ∙ (ap (λ k. k.share) c.take_right-body.ensures.child)))))

begun : (g : Over) (c : After-hand_out g) → IsBegun c.args.p.now g.U.Uses.begin c.args.child.number c.hand_out.new.me c.hand_out.result
begun g c =
    let h = c.hand_out.ensures.child in
    let body = c.take_right-body.ensures.body ∙ ap (λ k. k.number) c.into_thread.ensures.same in
    let seen = ap (λ k. k.seen) c.end_event.ensures.rest in
    begun_is c.args.p.now g.U.Uses.begin c.args.child.number c.hand_out.new.me c.hand_out.result c.requires.named c.hand_out.ensures.few (rest g c).version
    (c.hand_out.ensures.thread c.fork_life.new.me.seen (forked-at-last g c)
    ∙ (λ j. newborn_known c.args.p.now.table_id (ap (λ k. k.version) (sym h) j) (ap (λ k. k.world) (sym h) j) g.U.Uses.begin (body j) ((sym seen ∙ ap (λ k. k.seen) (sym h)) j) c.hand_out.result.capacity))

pub returns-clause-child : goal.returns-clause-child
returns-clause-child g c = begun g (goal.at.returns-clause-child g c).After-hand_out

pub returns-clause-child_idle : goal.returns-clause-child_idle
returns-clause-child_idle g c = λ world. idle_begun c.args.p.now g.U.Uses.begin c.args.child.number c.hand_out.new.me c.hand_out.result (begun g (goal.at.returns-clause-child_idle g c).After-hand_out) ((ap (λ k. k.world) c.hand_out.ensures.child ∙ (ap (λ k. k.world) c.end_event.ensures.rest ∙ (ap (λ k. k.world) c.fork_life.ensures.forked ∙ (ap (λ k. k.world) c.begin_event.ensures.pen ∙ (ap (λ k. k.world) c.take_right-body.ensures.child))))) ∙ world)
