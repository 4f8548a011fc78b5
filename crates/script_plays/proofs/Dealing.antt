-- What an event makes of who holds a mutex, and who gives it back first.
use Rattle.std.proofs.Common.{◌≡◌, ◌≢◌, inl, inr, ℕ, true, false, eqb, List, [], ◌∷◌, ◌++◌, refl, ap, sym, subst, ◌∙◌}
use Rattle.std.proofs.lemmas.Bool.{ne_eqb, eq-eqb}
use Rattle.std.proofs.lemmas.Bool.Decides.{eqb_tells}
use mathlib.Core.Option.{Option, none, some}
use Rattle.larch_actions.specs.declared.event.Event.{Event}
use Rattle.larch_actions.specs.declared.event.Version.{Version}
use Rattle.larch_actions.specs.declared.event.Action.{Action}
use Rattle.larch_actions.specs.declared.event.Action.TheVariants as action
use Rattle.larch_actions.specs.Actions.{Leads, MayAct, Spec, acted, by_thread}
use Rattle.larch_actions.specs.Takers.{gives, givers}
use Rattle.script_text.specs.declared.line.Line.{Line}
use Rattle.script_text.specs.Runs.{event}
use Rattle.script_text.specs.Visits.{Hand, Visit, gets, leaves, visits_at}
use Rattle.script_plays.proofs.Owning.{known, lines_after}
use Rattle.script_plays.proofs.Swapping.{holder_stays}
use Rattle.script_plays.proofs.Running.{Apart, Deal, Deals, Giving, MayDeal, Runs, Taking, deal, dealt, given, quiet_hand, quiet_lines}
use Rattle.script_plays.proofs.Silent.{quiet_got}

-- an action is one of three as to mutexes
pub holder_dealt : (s : Spec) (t : ℕ) (a : Action) → (acted t s a).holder ≡ dealt t (deal a) s.holder
holder_dealt s t (action.Acquire m) = refl
holder_dealt s t _ = refl

pub may_deal : (s : Spec) (t : ℕ) (a : Action) → MayAct s (event t a) → MayDeal t (deal a) s.holder
may_deal s t (action.Acquire m) may = may.when_met
may_deal s t (action.Resume m c) may = may.when_met.0
may_deal s t (action.AlertReturn m c) may = may.when_met.0
may_deal s t (action.AlertRaise m c) may = may.when_met.0
may_deal s t (action.Release m) may = may.requires_met
may_deal s t (action.Enqueue m c) may = may.requires_met
may_deal s t (action.AlertEnqueue m c) may = may.requires_met
may_deal s t _ may = tt

pub gives_given : (m : ℕ) (a : Action) → gives m a ≡ given (deal a) m
gives_given m (action.Release k) = refl
gives_given m _ = refl

-- it is given back by who holds it, and is free then
pub given_by : (t : ℕ) (d : Deal) (f : ℕ → Option ℕ) (m : ℕ) → MayDeal t d f → given d m ≡ true → f m ≡ some t
given_by t (Giving k) f m may is = elim (eqb_tells k.0 m) [ inl p ↦ ap f (sym p.1) ∙ may | inr p ↦ let both : true ≡ false = sym is ∙ p.0 in absurd (cc) ]
given_by t _ f m may is = absurd (cc)

-- who holds it after the event of the thread t held it before, or is t that took it
pub was_held : (t : ℕ) (d : Deal) (f : ℕ → Option ℕ) (m u : ℕ) → u ≢ t → dealt t d f m ≡ some u → f m ≡ some u
was_held t (Taking k) f m u ne held = elim (eqb_tells m k.0) [ inl p ↦ let is : some t ≡ some u = rw p.0 at held in absurd (ne (cc)) | inr p ↦ rw p.0 at held ]
was_held t (Giving k) f m u ne held = elim (eqb_tells m k.0) [ inl p ↦ let is : none ≡ some u = rw p.0 at held in absurd (cc) | inr p ↦ rw p.0 at held ]
was_held t Apart f m u ne held = held

-- the number that a thread has with what it holds after its event: the one that it got, or the one that it had
pub number_held : (t : ℕ) (d : Deal) (f : ℕ → Option ℕ) (hand : Hand) (vs : List Visit) (after : Hand) (number : ℕ → ℕ) → Deals t d hand vs after
    → ((m : ℕ) → f m ≡ some t → (hand m).1 ≡ number m) → ((m : ℕ) (x : ℕ) → d ≡ Taking (record { 0 = m }) → after ≡ gets (record { 0 = m }) x hand → x ≡ number m)
    → (m : ℕ) → dealt t d f m ≡ some t → (after m).1 ≡ number m
number_held t (Taking k) f hand vs after number deals old new m held = elim (eqb_tells m k.0) [
  | inl p ↦ ap (λ (h : Hand). (h m).1) deals.2 ∙ (rw p.0 (new k.0 deals.0 refl deals.2) ∙ ap number (sym p.1))
  | inr p ↦ ap (λ (h : Hand). (h m).1) deals.2 ∙ rw p.0 (old m (rw p.0 at held))
]
number_held t (Giving k) f hand vs after number deals old new m held = elim (eqb_tells m k.0) [
  | inl p ↦ let is : none ≡ some t = rw p.0 at held in absurd (cc)
  | inr p ↦ ap (λ (h : Hand). (h m).1) deals.1 ∙ old m (rw p.0 at held)
]
number_held t Apart f hand vs after number deals old new m held = ap (λ (h : Hand). (h m).1) deals.1 ∙ old m held

-- an event that doesn't give m back: what the thread got with m stays, if it holds m, and its visits to m are those to come
record Keeps (t m : ℕ) (d : Deal) (f : ℕ → Option ℕ) (hand : Hand) (vs a b : List Visit) (after : Hand) : Type 0 where
  held : dealt t d f m ≡ some t
  got : (after m).0 ≡ (hand m).0
  visits : visits_at m vs ≡ visits_at m b

keeps : (t m : ℕ) (d : Deal) (f : ℕ → Option ℕ) (hand : Hand) (vs a b : List Visit) (after : Hand) → MayDeal t d f → Deals t d hand a after → vs ≡ a ++ b → f m ≡ some t → given d m ≡ false
    → Keeps t m d f hand vs a b after
keeps t m (Taking k) f hand vs a b after may deals is held not =
    let other : eqb m k.0 ≡ false = ne_eqb m k.0 (λ e. let both : some t ≡ none = sym held ∙ (ap f e ∙ may) in absurd (cc)) in
    record {
      held = rw other held;
      got = ap (λ (h : Hand). (h m).0) deals.2 ∙ rw other refl;
      visits = ap (visits_at m) (is ∙ ap (λ (w : List Visit). w ++ b) deals.1);
    }
keeps t m (Giving k) f hand vs a b after may deals is held not =
    let other : eqb m k.0 ≡ false = ne_eqb m k.0 (λ e. let both : true ≡ false = sym (eq-eqb k.0 m (sym e)) ∙ not in absurd (cc)) in
    record {
      held = rw other held;
      got = ap (λ (h : Hand). (h m).0) deals.1;
      visits = ap (visits_at m) (is ∙ ap (λ (w : List Visit). w ++ b) deals.0) ∙ rw not refl;
    }
keeps t m Apart f hand vs a b after may deals is held not = record {
  held = held;
  got = ap (λ (h : Hand). (h m).0) deals.1;
  visits = ap (visits_at m) (is ∙ ap (λ (w : List Visit). w ++ b) deals.0);
}

-- who holds a mutex gives it back first, with the number that it got
pub record GivesFirst (t m : ℕ) (hand : Hand) (es : List Event) (vs : List Visit) : Type 0 where
  pub visit : Visit
  pub later : List Visit
  pub others : List ℕ
  pub visits : visits_at m vs ≡ visit ∷ later
  pub got : visit.got ≡ (hand m).0
  pub givers : givers m es ≡ t ∷ others

given_now : (t m : ℕ) (d : Deal) (hand : Hand) (vs a b : List Visit) (after : Hand) → Deals t d hand a after → vs ≡ a ++ b → given d m ≡ true → visits_at m vs ≡ leaves t (record { 0 = m }) hand ∷ visits_at m b
given_now t m (Giving k) hand vs a b after deals is now =
    ap (visits_at m) (is ∙ ap (λ (w : List Visit). w ++ b) deals.0) ∙ (rw now refl ∙ ap (λ i. leaves t (record { 0 = i }) hand ∷ visits_at m b) (eqb_is k.0 m now))
  where
    eqb_is : (i j : ℕ) → eqb i j ≡ true → i ≡ j
    eqb_is i j e = elim (eqb_tells i j) [ inl p ↦ p.1 | inr p ↦ let both : true ≡ false = sym e ∙ p.0 in absurd (cc) ]
given_now t m _ hand vs a b after deals is now = absurd (cc)

-- those that give m back, by the first event
pub givers_skip : (m : ℕ) (e : Event) (es : List Event) → gives m e.action ≡ false → givers m (e ∷ es) ≡ givers m es
givers_skip m e es not = rw not refl

pub givers_now : (m : ℕ) (e : Event) (es : List Event) → gives m e.action ≡ true → givers m (e ∷ es) ≡ e.thread.0 ∷ givers m es
givers_now m e es now = rw now refl

module _ (v : Version) (t m : ℕ) where
  pub gives_first : (es : List Event) (s z : Spec) (rest : List Line) (hand : Hand) (vs : List Visit) → Leads s es z → s.holder m ≡ some t → z.holder m ≡ none
      → Runs v t rest hand (by_thread t es) vs → GivesFirst t m hand es vs
  gives_first [] s z rest hand vs leads held free runs = let both : some t ≡ none = sym held ∙ (ap (λ (u : Spec). u.holder m) leads ∙ free) in absurd (cc)
  gives_first (e ∷ es) s z rest hand vs (u, (may, is), leads) held free runs = elim (eqb_tells e.thread.0 t) [
    | inl p ↦
        let turn = rw p.0 at runs in
        elim (known (gives m e.action)) [
          | inl now ↦ record {
            visit = leaves t (record { 0 = m }) hand;
            later = visits_at m turn.2;
            others = givers m es;
            visits = given_now t m (deal e.action) hand vs turn.1 turn.2 turn.3 turn.5 turn.6 (sym (gives_given m e.action) ∙ now);
            got = refl;
            givers = givers_now m e es now ∙ ap (λ k. k ∷ givers m es) p.1;
          }
          | inr not ↦
              let k = keeps t m (deal e.action) s.holder hand vs turn.1 turn.2 turn.3 (subst (λ i. MayDeal i (deal e.action) s.holder) p.1 (may_deal s e.thread.0 e.action may)) turn.5 turn.6 held
              (sym (gives_given m e.action) ∙ not) in
              let next : u.holder m ≡ some t =
              ap (λ (q : Spec). q.holder m) is ∙ (ap (λ (f : ℕ → Option ℕ). f m) (holder_dealt s e.thread.0 e.action) ∙ (ap (λ i. dealt i (deal e.action) s.holder m) p.1 ∙ k.held)) in
              let more = gives_first es u z (quiet_lines (lines_after turn.0 rest) turn.3) (quiet_hand (lines_after turn.0 rest) turn.3) turn.2 leads next free turn.7 in
              record {
                visit = more.visit;
                later = more.later;
                others = more.others;
                visits = k.visits ∙ more.visits;
                got = more.got ∙ (quiet_got (lines_after turn.0 rest) turn.3 m ∙ k.got);
                givers = givers_skip m e es not ∙ more.givers;
              }
        ]
    | inr p ↦
        let not : gives m e.action ≡ false = other_gives p.1 in
        let next : u.holder m ≡ some t = ap (λ (q : Spec). q.holder m) is ∙ holder_stays s e.thread.0 e.action may m t held (λ i. p.1 (sym i)) in
        let more = gives_first es u z rest hand vs leads next free (rw p.0 at runs) in
        record { visit = more.visit; later = more.later; others = more.others; visits = more.visits; got = more.got; givers = givers_skip m e es not ∙ more.givers }
  ]
    where
      other_gives : e.thread.0 ≢ t → gives m e.action ≡ false
      other_gives ne = elim (known (gives m e.action)) [
        | inl now ↦ let both : some e.thread.0 ≡ some t = sym (given_by e.thread.0 (deal e.action) s.holder m (may_deal s e.thread.0 e.action may) (sym (gives_given m e.action) ∙ now)) ∙ held in absurd (ne (cc))
        | inr not ↦ not
      ]
