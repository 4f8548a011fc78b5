use Rattle.std.proofs.Common.{◌≡◌, ◌<◌, ◌∷◌, Some, refl, sym, ap, subst, ◌∙◌, inr}
use Rattle.std.specs.List.{All}
use Rattle.std.proofs.lemmas.Result.{IfOk-weaker}
use Rattle.nub.proofs.Users.{same_on}
use Rattle.bounded_buffer.specs.declared.did.Did.TheVariants.{WaitedEmpty}
use Rattle.bounded_buffer.specs.declared.side.Side.TheVariants.{Taking}
use Rattle.bounded_buffer.specs.Calls.{Ran}
use Rattle.bounded_buffer.specs.Parts.{more_empty}
use Rattle.bounded_buffer.specs.Waiting.{Visits}
use Rattle.bounded_buffer.proofs.Ending.{clash}
use Rattle.bounded_buffer.proofs.takes.take.Given.{Over}
use Rattle.bounded_buffer.proofs.takes.take.Goals.{After-is_ok}
use Rattle.bounded_buffer.proofs.takes.take.Goals as goal

pub enter-entered-requires-clause-lawful : goal.enter-entered-requires-clause-lawful
enter-entered-requires-clause-lawful g c κs within = λ t s x y q p a b does. g.met.B.BufferUse.take_allowed c.args.p.now.world c.args.at.now c.requires.buffer t x y s q p WaitedEmpty a b does tt

pub returns-in_default-clause-held : goal.returns-in_default-clause-held
returns-in_default-clause-held g c = (c.in_default.ensures.ended c.requires.share.0 c.requires.share.1 0).held

pub returns-in_default-clause-idle : goal.returns-in_default-clause-idle
returns-in_default-clause-idle g c = λ n s r. (c.in_default.ensures.ended c.requires.share.0 c.requires.share.1 0).idle n s r

pub returns-in_default-clause-over : goal.returns-in_default-clause-over
returns-in_default-clause-over g c = λ s share end. absurd (clash refl (((c.in_default.ensures.ended s share 0).ran.shut (inr (inr end))).1))

pub poll-answer-requires : goal.poll-answer-requires
poll-answer-requires g c = (c.in-Some.ensures.ended c.requires.share.0 c.requires.share.1).1

visits : (g : Over) (c : After-is_ok g) (s : g.row.B-Share.Denot) → c.args.me.now.share ≡ Some s → Visits g.B.BufferUse.ring_in g.B.BufferUse.part g.B.BufferUse.alike g.B.Uses.fits c.args.p.now c.args.at.now.mutex.0 c.args.at.now.more.0 Taking
    g.B.Uses.allows g.B.Take.Change.after c.is_ok.result s c.in-Some.ring c.poll-answer.new.self c.poll-answer.ensures.did.did c.args.me.now c.enter-entered.new.me
visits g c s own =
    let h = (c.in-Some.ensures.ended s own).0 in
    let did = c.poll-answer.ensures.did in
    record {
      lacks = c.requires.lacks;
      has = h;
      does = did.does;
      lawful = λ x y q p a b does. g.met.B.BufferUse.take_allowed c.args.p.now.world c.args.at.now c.requires.buffer c.args.me.now.number x y h.inn.share q p did.did a b does did.of;
      signalled = c.is_ok.ensures.value ∙ did.signalled;
    }

pub leave-requires-clause-visits : goal.leave-requires-clause-visits
leave-requires-clause-visits g c κs within =
    let s = c.requires.share in
    (c.args.at.now.more.0, Taking, s.0, c.in-Some.ring, c.poll-answer.ensures.did.did, c.args.me.now, visits g (goal.at.leave-requires-clause-visits g c).After-is_ok s.0 s.1)

pub returns : goal.returns
returns g c =
    let a = c.args.me.now in
    let w = c.args.p.now.world in
    let m = c.args.at.now.mutex.0 in
    let did = c.poll-answer.ensures.did in
    let ended = λ (s : g.row.B-Share.Denot) (own : a.share ≡ Some s). c.leave.ensures.ended c.args.at.now.more.0 Taking s c.in-Some.ring did.did a (visits g (goal.at.returns g c).After-is_ok s own) in
    let over = ended c.requires.share.0 c.requires.share.1 in
    record {
      rest = c.leave.ensures.rest;
      same = same_on a c.enter-entered.new.me c.leave.new.me c.enter-entered.ensures.same c.leave.ensures.same;
      held = over.held;
      idle = λ n s r. over.idle n s r;
      over = λ s own end. let h = (c.in-Some.ensures.ended s own).0 in c.poll-answer.ensures.over (h.within.end (ap (λ u. u.seen_end) h.inn.here ∙ end));
      ran = λ s own. subst (λ d. Ran g.B.BufferUse.ring_in g.B.BufferUse.part g.B.Take.Change.after g.B.BufferUse.alike w m c.args.at.now.more.0 c.args.at.now.room.0 a.number more_empty d s a c.leave.new.me) (sym did.is) (ended s own).ran;
      rises = IfOk-weaker c.poll-answer.result (λ r. (r.0 ≡ c.in-Some.ring.taken) × (c.in-Some.ring.items ≡ r.1 ∷ c.poll-answer.new.self.items)) _ (λ r is s own.
          let h = (c.in-Some.ensures.ended s own).0 in
          subst (λ l. All (λ p. p.0 < r.0) l) (ap (λ u. u.takes) h.inn.here) (subst (λ k. All (λ p. p.0 < k) (g.B.BufferUse.part h.inn.share m).takes) (sym is.0) h.within.takes)) c.poll-answer.ensures.first;
      fits = IfOk-weaker c.poll-answer.result (λ r. (r.0 ≡ c.in-Some.ring.taken) × (c.in-Some.ring.items ≡ r.1 ∷ c.poll-answer.new.self.items)) _ (λ r is s own.
          let h = (c.in-Some.ensures.ended s own).0 in
          (g.met.B.BufferUse.alike_item_fits w m a.number r.1 s h.inn.share h.inn.is_alike).1
          (g.met.B.BufferUse.fits_first w c.args.at.now c.requires.buffer a.number h.value h.inn.share h.inn.fits c.in-Some.ring h.ring r.1 c.poll-answer.new.self.items is.1)) c.poll-answer.ensures.first;
    }
