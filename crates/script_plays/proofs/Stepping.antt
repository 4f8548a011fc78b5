-- An event of a run leads from a scene of its play to the next.
use Rattle.std.proofs.Common.{◌≡◌, ◌≢◌, inl, inr, ℕ, suc, ◌+◌, ◌<◌, true, false, eqb, List, [], ◌∷◌, drop, take, refl, ap, sym, subst, ◌∙◌, arith}
use Rattle.std.proofs.lemmas.Bool.{eq-eqb}
use Rattle.std.proofs.lemmas.Bool.Decides.{eqb_tells}
use mathlib.Core.Option.{Option, none, some}
use Rattle.larch_actions.specs.declared.event.Event.{Event}
use Rattle.larch_actions.specs.declared.event.Layout.{Layout}
use Rattle.larch_actions.specs.declared.event.Version.{Version}
use Rattle.larch_actions.specs.declared.event.Version.TheVariants.{One, Two}
use Rattle.larch_actions.specs.declared.event.Action.{Action}
use Rattle.larch_actions.specs.declared.event.Action.TheVariants as action
use Rattle.larch_actions.specs.declared.event.MutexId.{MutexId}
use Rattle.larch_actions.specs.declared.event.CondId.{CondId}
use Rattle.larch_actions.specs.declared.event.Pending.{Pending}
use Rattle.larch_actions.specs.declared.event.Pending.TheVariants.{Nothing, Waiting, AlertWaiting}
use Rattle.larch_actions.specs.Actions.{Acts, Leads, MayAct, Spec, acted, by_thread, put}
use Rattle.larch_actions.specs.Layout.{HasNames, IsNamed}
use Rattle.script_text.specs.declared.line.Line.{Line}
use Rattle.script_text.specs.declared.line.Operation.{Operation}
use Rattle.script_text.specs.declared.line.Operation.TheVariants.{Add}
use Rattle.script_text.specs.Runs.{event, lines_of, total}
use Rattle.script_text.specs.Visits.{Hand, Visit, gets, visits_at}
use Rattle.script_plays.specs.declared.choice.Turn.{Turn}
use Rattle.script_plays.specs.declared.choice.Turn.TheVariants.{Stays, Next}
use Rattle.script_plays.specs.declared.choice.Choice.{Choice}
use Rattle.script_plays.specs.Choices.{MayMake, Gives}
use Rattle.script_plays.specs.Plays.{Goes}
use Rattle.script_plays.specs.Scenes.{Scene, number_of, rest_of, settled, turned}
use Rattle.script_plays.proofs.Bounded.{put_here, put_other, turned-other}
use Rattle.script_plays.proofs.Commuting.{own_goes}
use Rattle.script_plays.proofs.Owning.{AllOwn, AreOwn, Mine, holds_after, known, lines_after, mine_by, own_after, rest_turned, waits_on}
use Rattle.script_plays.proofs.Settling.{added, step_adds, sum_alike, turned_adds}
use Rattle.script_plays.proofs.Running.{Apart, Deal, Deals, Giving, IsLoud, MayDeal, Runs, Taking, deal, dealt, quiet_hand, quiet_lines}
use Rattle.script_plays.proofs.Silent.{in_step, loud_hand, quiet_got, quiet_loud}
use Rattle.script_plays.proofs.Dealing.{gives_first, holder_dealt, may_deal, number_held, was_held}
use Rattle.script_plays.proofs.Coming.{Coming, Low, come_after, got_is, valued}

-- the mutex of an event is one of the layout
low_deal : (l : Layout) (a : Action) → IsNamed l a → Low l (deal a)
low_deal l (action.Acquire m) named = named
low_deal l (action.Release m) named = named
low_deal l (action.Enqueue m c) named = named.0
low_deal l (action.Resume m c) named = named.0
low_deal l (action.AlertEnqueue m c) named = named.0
low_deal l (action.AlertReturn m c) named = named.0
low_deal l (action.AlertRaise m c) named = named.0
low_deal l _ named = tt

-- a thread that begins a wait stays at its line
wait_stays : (o : Operation) (m : MutexId) (c : CondId) (turn : Turn) → MayMake o (record { action = action.Enqueue m c; turn = turn }) → turn ≡ Stays
wait_stays (Add k n) m c turn made = absurd made
wait_stays _ m c turn made = grind arith

alert_stays : (o : Operation) (m : MutexId) (c : CondId) (turn : Turn) → MayMake o (record { action = action.AlertEnqueue m c; turn = turn }) → turn ≡ Stays
alert_stays (Add k n) m c turn made = absurd made
alert_stays _ m c turn made = grind arith

line_of : (v : Version) (rest : List Line) (a : Action) (turn : Turn) → a ≢ action.End → Gives v rest (record { action = a; turn = turn })
    → (o : Operation) × MayMake o (record { action = a; turn = turn })
line_of One [] a turn ne gives = absurd gives
line_of Two [] a turn ne gives = absurd (ne (ap (λ (c : Choice). c.action) gives))
line_of One (x ∷ rest) a turn ne gives = (x.operation, gives)
line_of Two (x ∷ rest) a turn ne gives = (x.operation, gives)

-- it has given the mutex back, and stays at its line
pub record Begins (s : Spec) (t m : ℕ) (a : Action) (turn : Turn) : Type 0 where
  pub mutex : MutexId
  pub is : mutex.0 ≡ m
  pub gives : deal a ≡ Giving mutex
  pub held : s.holder m ≡ some t
  pub stays : turn ≡ Stays

module _ (v : Version) (s : Spec) (t m : ℕ) (rest : List Line) (turn : Turn) where
  same_mutex : (k : MutexId) (p : Pending) (f : ℕ → Pending) → waits_on p m ≡ eqb k.0 m → waits_on (put f t p t) m ≡ true → k.0 ≡ m
  same_mutex k p f shape waits = elim (eqb_tells k.0 m) [
    | inl e ↦ e.1
    | inr e ↦ let both : true ≡ false = sym waits ∙ (ap (λ q. waits_on q m) (put_here f t p) ∙ (shape ∙ e.0)) in absurd (cc)
  ]

  not_waiting : (f : ℕ → Pending) → waits_on (put f t Nothing t) m ≡ true → ⊥
  not_waiting f waits = let both : true ≡ false = sym waits ∙ ap (λ q. waits_on q m) (put_here f t Nothing) in cc

  -- a thread that waits after its event has begun the wait by it
  begins : (a : Action) → MayAct s (event t a) → Gives v rest (record { action = a; turn = turn }) → waits_on ((acted t s a).pending t) m ≡ true → Begins s t m a turn
  begins (action.Enqueue k c) may gives waits =
      let is = same_mutex k (Waiting k c) s.pending refl waits in
      let line = line_of v rest (action.Enqueue k c) turn (λ e. absurd (cc)) gives in
      record { mutex = k; is = is; gives = refl; held = ap s.holder (sym is) ∙ may.requires_met; stays = wait_stays line.0 k c turn line.1 }
  begins (action.AlertEnqueue k c) may gives waits =
      let is = same_mutex k (AlertWaiting k c) s.pending refl waits in
      let line = line_of v rest (action.AlertEnqueue k c) turn (λ e. absurd (cc)) gives in
      record { mutex = k; is = is; gives = refl; held = ap s.holder (sym is) ∙ may.requires_met; stays = alert_stays line.0 k c turn line.1 }
  begins (action.Resume k c) may gives waits = absurd (not_waiting s.pending waits)
  begins (action.AlertReturn k c) may gives waits = absurd (not_waiting s.pending waits)
  begins (action.AlertRaise k c) may gives waits = absurd (not_waiting s.pending waits)
  begins _ may gives waits = absurd (let both : true ≡ false = sym waits ∙ ap (λ q. waits_on q m) may.order in cc)

-- a scene of a run: what each thread is still to make from here, with what in its hand, and the number of each mutex
pub record IsOn (l : Layout) (xs : List Line) (s : Scene) (es : List Event) : Type 0 where
  pub hand : ℕ → Hand
  pub of : ℕ → List Visit
  pub at : ℕ → List Visit
  pub value : ℕ → ℕ
  pub coming : Coming l es of at value
  pub runs : (t : ℕ) → t < l.threads → Runs l.version t (rest_of xs s.played t) (hand t) (by_thread t es) (of t)
  pub loud : (t : ℕ) → t < l.threads → IsLoud (rest_of xs s.played t) (hand t)
  pub own : AllOwn xs s
  pub free : (m : ℕ) → s.spec.holder m ≡ none → number_of l.threads xs s.played m ≡ value m
  pub held : (m t : ℕ) → s.spec.holder m ≡ some t → (hand t m).1 ≡ number_of l.threads xs s.played m

by_own : (e : Event) (es : List Event) → by_thread e.thread.0 (e ∷ es) ≡ e ∷ by_thread e.thread.0 es
by_own e es = rw (eq-eqb e.thread.0 e.thread.0 refl) refl

by_other : (e : Event) (es : List Event) (t : ℕ) → t ≢ e.thread.0 → by_thread t (e ∷ es) ≡ by_thread t es
by_other e es t ne = elim (eqb_tells e.thread.0 t) [ inl p ↦ absurd (ne (sym p.1)) | inr p ↦ rw p.0 refl ]

runs_as : (v : Version) (t : ℕ) (r q : List Line) (h k : Hand) (es fs : List Event) (a b : List Visit) → r ≡ q → h ≡ k → es ≡ fs → a ≡ b → Runs v t r h es a → Runs v t q k fs b
runs_as v t r q h k es fs a b x y z w runs =
    subst (λ (n : List Line). Runs v t n k fs b) x (subst (λ (n : Hand). Runs v t r n fs b) y (subst (λ (n : List Event). Runs v t r h n b) z (subst (λ (n : List Visit). Runs v t r h es n) w runs)))

loud_as : (r q : List Line) (h k : Hand) → r ≡ q → h ≡ k → IsLoud r h → IsLoud q k
loud_as r q h k x y loud = subst (λ (n : List Line). IsLoud n k) x (subst (λ (n : Hand). IsLoud r n) y loud)

turned_else : (turn : Turn) (p : ℕ → ℕ) (t w : ℕ) → w ≢ t → turned turn t p w ≡ p w
turned_else Stays p t w ne = refl
turned_else Next p t w ne = put_other p t (suc (p t)) w ne

-- a free mutex has the number that it had, or that with which it was given back
free_after : (t : ℕ) (d : Deal) (f : ℕ → Option ℕ) (hand : Hand) (value number : ℕ → ℕ) → MayDeal t d f → ((k : ℕ) → f k ≡ none → number k ≡ value k) → ((k : ℕ) → f k ≡ some t → (hand k).1 ≡ number k)
    → (m : ℕ) → dealt t d f m ≡ none → number m ≡ valued d hand value m
free_after t (Taking k) f hand value number may free held m is = elim (eqb_tells m k.0) [
  | inl p ↦ let both : some t ≡ none = rw p.0 at is in absurd (cc)
  | inr p ↦ free m (rw p.0 at is)
]
free_after t (Giving k) f hand value number may free held m is = elim (eqb_tells m k.0) [
  | inl p ↦ rw p.0 (ap number p.1 ∙ sym (held k.0 may))
  | inr p ↦ rw p.0 (free m (rw p.0 at is))
]
free_after t Apart f hand value number may free held m is = free m is

-- one event of a run
module _ (l : Layout) (xs : List Line) (s : Scene) (e : Event) (es : List Event) (u z : Spec) (names : HasNames l e) (acts : Acts s.spec e u) (leads : Leads u es z)
    (free : (m : ℕ) → z.holder m ≡ none) (on : IsOn l xs s (e ∷ es)) where
  abbrev t : ℕ
  t = e.thread.0

  abbrev rest : List Line
  rest = rest_of xs s.played t

  abbrev number : ℕ → ℕ
  number = number_of l.threads xs s.played

  made : Runs l.version t rest (on.hand t) (e ∷ by_thread t es) (on.of t)
  made = subst (λ (w : List Event). Runs l.version t rest (on.hand t) w (on.of t)) (by_own e es) (on.runs t names.0)

  abbrev turn : Turn
  turn = made.0

  abbrev after : Hand
  after = made.3

  abbrev moved : ℕ → ℕ
  moved = turned turn t s.played

  abbrev next : Scene
  next = record { spec = u; played = settled l.threads xs t moved }

  abbrev later : Hand
  later = quiet_hand (lines_after turn rest) after

  goes : Goes l xs s e next
  goes = record { thread = names.0; turn = turn; gives = made.4; acts = acts; played = refl }

  abbrev mine : Mine
  mine = mine_by e.action (on.own t).mine

  holder_now : u.holder ≡ dealt t (deal e.action) s.spec.holder
  holder_now = ap (λ (q : Spec). q.holder) acts.1 ∙ holder_dealt s.spec t e.action

  coming : (at : ℕ → List Visit) × Coming l es (put on.of t made.2) at (valued (deal e.action) (on.hand t) on.value)
  coming = come_after l on.of on.at on.value e es (deal e.action) (on.hand t) made.1 made.2 after refl made.5 made.6 names.0 (low_deal l e.action names.1) on.coming

  rest_moved : rest_of xs moved t ≡ lines_after turn rest
  rest_moved = rest_turned xs turn s.played t

  own_moved : AreOwn mine (rest_of xs moved t)
  own_moved = subst (λ (r : List Line). AreOwn mine r) (sym rest_moved) (own_after l.version rest (record { action = e.action; turn = turn }) (on.own t).mine made.4 (on.own t).lines)

  number_moved : (m : ℕ) → number_of l.threads xs moved m ≡ number m
  number_moved m = sum_alike (λ w. added xs moved w m) (λ w. added xs s.played w m) l.threads (λ w. elim (eqb_tells w t) [
    | inl p ↦ subst (λ (i : ℕ). added xs moved i m ≡ added xs s.played i m) (sym p.1) (turned_adds l.threads xs t l.version turn s.played e.action m made.4)
    | inr p ↦ ap (λ k. total (take k (lines_of w xs)) m) (turned_else turn s.played t w p.1)
  ])

  -- what it gets with a mutex is the number of the mutex
  got : (m x : ℕ) → deal e.action ≡ Taking (record { 0 = m }) → after ≡ gets (record { 0 = m }) x (on.hand t) → x ≡ number m
  got m x is with_it =
      let held : u.holder m ≡ some t = ap (λ (f : ℕ → Option ℕ). f m) holder_now ∙ (ap (λ (d : Deal). dealt t d s.spec.holder m) is ∙ put_here s.spec.holder m (some t)) in
      let was : s.spec.holder m ≡ none = subst (λ (d : Deal). MayDeal t d s.spec.holder) is (may_deal s.spec t e.action acts.0) in
      let few : m < l.mutexes = subst (λ (d : Deal). Low l d) is (low_deal l e.action names.1) in
      let first = gives_first l.version t m es u z (quiet_lines (lines_after turn rest) after) later made.2 leads held (free m) made.7 in
      let last = got_is l (put on.of t made.2) coming.0 (valued (deal e.action) (on.hand t) on.value) es t m first.visit first.later first.others coming.1 names.0 few
      (ap (visits_at m) (put_here on.of t made.2) ∙ first.visits) first.givers in
      let x_is : (after m).0 ≡ x = ap (λ (h : Hand). (h m).0) with_it ∙ rw (eq-eqb m m refl) refl in
      sym (first.got ∙ (quiet_got (lines_after turn rest) after m ∙ x_is)) ∙ (last ∙ (ap (λ (d : Deal). valued d (on.hand t) on.value m) is ∙ sym (on.free m was)))

  held_now : (m : ℕ) → u.holder m ≡ some t → (after m).1 ≡ number m
  held_now m held = number_held t (deal e.action) s.spec.holder (on.hand t) made.1 after number made.5 (λ k w. on.held k t w) got m (sym (ap (λ (f : ℕ → Option ℕ). f m) holder_now) ∙ held)

  began : (m : ℕ) → waits_on ((acted t s.spec e.action).pending t) m ≡ true → Begins s.spec t m e.action turn
  began m waits = begins l.version s.spec t m rest turn e.action acts.0 made.4 waits

  same_hand : (m : ℕ) → Begins s.spec t m e.action turn → after ≡ on.hand t
  same_hand m b = (subst (λ (d : Deal). Deals t d (on.hand t) made.1 after) b.gives made.5).1

  holds_now : (m : ℕ) → mine m ≡ true → waits_on ((acted t s.spec e.action).pending t) m ≡ false → u.holder m ≡ some t
  holds_now m has not = ap (λ (q : Spec). q.holder m) acts.1 ∙ holds_after s.spec t (on.own t).mine (on.own t).holds e.action acts.0 m has not

  counted : (m : ℕ) → mine m ≡ true → (after m).1 ≡ number m
  counted m has = elim (known (waits_on ((acted t s.spec e.action).pending t) m)) [
    | inl waits ↦ ap (λ (h : Hand). (h m).1) (same_hand m (began m waits)) ∙ on.held m t (began m waits).held
    | inr not ↦ held_now m (holds_now m has not)
  ]

  stepped : (rest_of xs next.played t ≡ quiet_lines (rest_of xs moved t) after)
      × ((m : ℕ) → number_of l.threads xs next.played m + (after m).1 ≡ number_of l.threads xs moved m + (quiet_hand (rest_of xs moved t) after m).1)
  stepped = in_step l.threads xs t names.0 (rest_of xs moved t) mine moved after refl own_moved (λ m has. counted m has ∙ sym (number_moved m))

  lines : rest_of xs next.played t ≡ quiet_lines (lines_after turn rest) after
  lines = stepped.0 ∙ ap (λ (r : List Line). quiet_lines r after) rest_moved

  sums : (m : ℕ) → number_of l.threads xs next.played m + (after m).1 ≡ number m + (later m).1
  sums m = omega (arith, stepped.1 m, number_moved m, ap (λ (r : List Line). (quiet_hand r after m).1) rest_moved)

  -- the number of a mutex that it doesn't hold then stays
  unmoved : (m : ℕ) → (u.holder m ≡ some t → ⊥) → number_of l.threads xs next.played m ≡ number m
  unmoved m not = elim (known (mine m)) [
    | inl has ↦ elim (known (waits_on ((acted t s.spec e.action).pending t) m)) [
      | inl waits ↦
          let b = began m waits in
          let same : later ≡ after =
          ap (λ (k : Turn). quiet_hand (lines_after k rest) after) b.stays
          ∙ (ap (λ (h : Hand). quiet_hand rest h) (same_hand m b) ∙ (loud_hand rest (on.hand t) (on.loud t names.0) ∙ sym (same_hand m b))) in
          omega (arith, sums m, ap (λ (h : Hand). (h m).1) same)
      | inr idle ↦ absurd (not (holds_now m has idle))
    ]
    | inr other ↦
        sum_alike (λ w. added xs next.played w m) (λ w. added xs s.played w m) l.threads (λ w. step_adds l.threads xs l.version t turn s.played e.action mine made.4 own_moved m w other)
  ]

  played_else : (w : ℕ) → w ≢ t → rest_of xs s.played w ≡ rest_of xs next.played w
  played_else w ne = sym (ap (λ k. drop k (lines_of w xs)) (turned-other l.threads xs t turn s.played w ne))

  goes_on : IsOn l xs next es
  goes_on = record {
    hand = put on.hand t later;
    of = put on.of t made.2;
    at = coming.0;
    value = valued (deal e.action) (on.hand t) on.value;
    coming = coming.1;
    runs = λ w low. elim (eqb_tells w t) [
      | inl p ↦ subst (λ (i : ℕ). Runs l.version i (rest_of xs next.played i) (put on.hand t later i) (by_thread i es) (put on.of t made.2 i)) (sym p.1)
          (runs_as l.version t _ _ _ _ _ _ _ _ (sym lines) (sym (put_here on.hand t later)) refl (sym (put_here on.of t made.2)) made.7)
      | inr p ↦ runs_as l.version w _ _ _ _ _ _ _ _ (played_else w p.1) (sym (put_other on.hand t later w p.1)) (by_other e es w p.1) (sym (put_other on.of t made.2 w p.1)) (on.runs w low)
    ];
    loud = λ w low. elim (eqb_tells w t) [
      | inl p ↦ subst (λ (i : ℕ). IsLoud (rest_of xs next.played i) (put on.hand t later i)) (sym p.1)
          (loud_as _ _ _ _ (sym lines) (sym (put_here on.hand t later)) (quiet_loud (lines_after turn rest) after))
      | inr p ↦ loud_as _ _ _ _ (played_else w p.1) (sym (put_other on.hand t later w p.1)) (on.loud w low)
    ];
    own = own_goes l xs s e next on.own goes;
    free = λ m is. unmoved m (λ held. let both : some t ≡ none = sym held ∙ is in absurd (cc))
        ∙ free_after t (deal e.action) s.spec.holder (on.hand t) on.value number (may_deal s.spec t e.action acts.0) on.free (λ k w. on.held k t w) m (sym (ap (λ (f : ℕ → Option ℕ). f m) holder_now) ∙ is);
    held = λ m w is. elim (eqb_tells w t) [
      | inl p ↦
          let own : u.holder m ≡ some t = is ∙ ap some p.1 in
          let hand : (put on.hand t later w m).1 ≡ (later m).1 = ap (λ (h : Hand). (h m).1) (subst (λ (i : ℕ). put on.hand t later i ≡ later) (sym p.1) (put_here on.hand t later)) in
          omega (arith, hand, sums m, held_now m own)
      | inr p ↦
          ap (λ (h : Hand). (h m).1) (put_other on.hand t later w p.1)
          ∙ (on.held m w (was_held t (deal e.action) s.spec.holder m w p.1 (sym (ap (λ (f : ℕ → Option ℕ). f m) holder_now) ∙ is))
          ∙ sym (unmoved m (λ held. let both : some w ≡ some t = sym is ∙ held in absurd (p.1 (cc)))))
    ];
  }

  pub goes_to : (w : Scene) × Goes l xs s e w × IsOn l xs w es × (w.spec ≡ u)
  goes_to = (next, goes, goes_on, refl)
