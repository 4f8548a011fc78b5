use Rattle.std.proofs.Common.{◌≡◌, ◌<◌, Some, refl, sym, ap, subst, ◌∙◌}
use Rattle.std.specs.List.{All}
use Rattle.std.proofs.lemmas.Option.{same_Some}
use Rattle.std.proofs.lemmas.Result.{IfOk-weaker}
use Rattle.nub.proofs.Users.{same_on}
use Rattle.bounded_buffer.specs.declared.did.Did.{Did}
use Rattle.bounded_buffer.specs.declared.did.Did.TheVariants.{Put, SawShut, WaitedFull}
use Rattle.bounded_buffer.specs.declared.side.Side.TheVariants.{Putting}
use Rattle.bounded_buffer.specs.Calls.{Ran}
use Rattle.bounded_buffer.specs.Parts.{IsOfPut, more_full}
use Rattle.bounded_buffer.specs.Rings.{put_count}
use Rattle.bounded_buffer.specs.Waiting.{Visits}
use Rattle.bounded_buffer.proofs.Ending.{clash, knows_still}
use Rattle.bounded_buffer.proofs.puts.put.Given.{Over}
use Rattle.bounded_buffer.proofs.puts.put.Goals.{After-is_ok}
use Rattle.bounded_buffer.proofs.puts.put.Goals as goal

-- who may put the item may do what a put of it does
of_put : {T : Type 0} (may : T → Type 0) (item : T) (d : Did T) → IsOfPut (λ i. i ≡ item) d → may item → IsOfPut may d
of_put may item (Put n i) is ok = subst may (sym is) ok
of_put may item SawShut is ok = tt
of_put may item WaitedFull is ok = tt
of_put may item _ is ok = is

pub enter-entered-requires-clause-lawful : goal.enter-entered-requires-clause-lawful
enter-entered-requires-clause-lawful g c κs within = λ t s x y q p a b does. g.met.B.BufferUse.put_allowed c.args.p.now.world c.args.at.now c.requires.buffer t x y s q p WaitedFull a b does tt

pub returns-in_default-clause-held : goal.returns-in_default-clause-held
returns-in_default-clause-held g c = (c.in_default.ensures.ended c.requires.may.0 c.requires.may.1 0).held

pub returns-in_default-clause-idle : goal.returns-in_default-clause-idle
returns-in_default-clause-idle g c = λ n s r. (c.in_default.ensures.ended c.requires.may.0 c.requires.may.1 0).idle n s r

pub returns-in_default-clause-closed : goal.returns-in_default-clause-closed
returns-in_default-clause-closed g c = λ s share knows. absurd (clash refl (((c.in_default.ensures.ended s share 0).ran.shut knows).1))

pub give-requires-clause-may : goal.give-requires-clause-may
give-requires-clause-may g c κs within =
    let h = (c.in-Some.ensures.ended c.requires.may.0 c.requires.may.1).0 in
    (h.value, h.inn.holds, λ s y share is. g.met.B.BufferUse.stay_allowed c.args.p.now.world c.args.at.now c.requires.buffer c.enter-entered.new.me.number h.value y s c.in-Some.ring h.ring is)

pub offer-answer-requires-clause-room : goal.offer-answer-requires-clause-room
offer-answer-requires-clause-room g c = (c.in-Some.ensures.ended c.requires.may.0 c.requires.may.1).1

visits : (g : Over) (c : After-is_ok g) (s : g.row.B-Share.Denot) → c.args.me.now.share ≡ Some s → Visits g.B.BufferUse.ring_in g.B.BufferUse.part g.B.BufferUse.alike g.B.Uses.fits c.args.p.now c.args.at.now.mutex.0 c.args.at.now.room.0 Putting
    g.B.Uses.allows g.B.Put.Change.after c.is_ok.result s c.in-Some.ring c.offer-answer.new.self c.offer-answer.ensures.did.did c.args.me.now c.enter-entered.new.me
visits g c s own =
    let w = c.args.p.now.world in
    let m = c.args.at.now.mutex.0 in
    let n = c.args.me.now.number in
    let h = (c.in-Some.ensures.ended s own).0 in
    let did = c.offer-answer.ensures.did in
    let may = subst (g.B.BufferUse.may_put w m n c.args.item) (same_Some c.requires.may.0 s (sym c.requires.may.1 ∙ own)) c.requires.may.2 in
    let later = (g.met.B.BufferUse.alike_may_put w m n c.args.item s h.inn.share h.inn.is_alike).0 may in
    record {
      lacks = c.requires.lacks;
      has = h;
      does = did.does;
      lawful = λ x y q p a b does. g.met.B.BufferUse.put_allowed w c.args.at.now c.requires.buffer n x y h.inn.share q p did.did a b does (of_put (λ i. g.B.BufferUse.may_put w m n i h.inn.share) c.args.item did.did did.of later);
      signalled = c.is_ok.ensures.value ∙ did.signalled;
    }

pub leave-requires-clause-visits : goal.leave-requires-clause-visits
leave-requires-clause-visits g c κs within =
    let s = c.requires.may in
    (c.args.at.now.room.0, Putting, s.0, c.in-Some.ring, c.offer-answer.ensures.did.did, c.args.me.now, visits g (goal.at.leave-requires-clause-visits g c).After-is_ok s.0 s.1)

pub returns : goal.returns
returns g c =
    let a = c.args.me.now in
    let m = c.args.at.now.mutex.0 in
    let did = c.offer-answer.ensures.did in
    let ended = λ (s : g.row.B-Share.Denot) (own : a.share ≡ Some s). c.leave.ensures.ended c.args.at.now.room.0 Putting s c.in-Some.ring did.did a (visits g (goal.at.returns g c).After-is_ok s own) in
    let over = ended c.requires.may.0 c.requires.may.1 in
    record {
      rest = c.leave.ensures.rest;
      same = same_on a c.enter-entered.new.me c.leave.new.me c.enter-entered.ensures.same c.leave.ensures.same;
      held = over.held;
      idle = λ n s r. over.idle n s r;
      closed = λ s own knows. let h = (c.in-Some.ensures.ended s own).0 in c.offer-answer.ensures.closed (h.within.shut (knows_still Putting h.waited (g.B.BufferUse.part s m) (g.B.BufferUse.part h.inn.share m) h.inn.here knows));
      back = c.offer-answer.ensures.back;
      ran = λ s own. subst (λ d. Ran g.B.BufferUse.ring_in g.B.BufferUse.part g.B.Put.Change.after g.B.BufferUse.alike c.args.p.now.world m c.args.at.now.room.0 c.args.at.now.more.0 a.number more_full d s a c.leave.new.me) (sym did.is) (ended s own).ran;
      rises = IfOk-weaker c.offer-answer.result (λ n. n ≡ put_count c.in-Some.ring) _ (λ n is s own.
          let h = (c.in-Some.ensures.ended s own).0 in
          subst (λ l. All (λ p. p.0 < n) l) (ap (λ u. u.puts) h.inn.here) (subst (λ k. All (λ p. p.0 < k) (g.B.BufferUse.part h.inn.share m).puts) (sym is) h.within.puts)) c.offer-answer.ensures.number;
    }
