-- The visits that are still to come, of each thread and to each mutex.
use Rattle.std.proofs.Common.{◌≡◌, ◌≢◌, inl, inr, ℕ, ◌<◌, true, false, List, [], ◌∷◌, ◌++◌, map, refl, ap, sym, subst, ◌∙◌}
use Rattle.std.proofs.lemmas.Bool.{ne_eqb, eq-eqb}
use Rattle.std.proofs.lemmas.Bool.Decides.{eqb_tells}
use Rattle.larch_actions.specs.declared.event.Event.{Event}
use Rattle.larch_actions.specs.declared.event.Layout.{Layout}
use Rattle.larch_actions.specs.Actions.{put}
use Rattle.larch_actions.specs.Takers.{gives, givers}
use Rattle.script_text.specs.Visits.{Hand, LeadTo, Visit, leaves, visits_at, visits_by}
use Rattle.script_plays.proofs.Running.{Apart, Deal, Deals, Giving, Taking, deal, given}
use Rattle.script_plays.proofs.Dealing.{gives_given, givers_now, givers_skip}

-- those of each thread and those to each mutex are the same ones, who gives a mutex back are theirs, and they lead on from the number that it has
pub record Coming (l : Layout) (es : List Event) (of : ℕ → List Visit) (at : ℕ → List Visit) (value : ℕ → ℕ) : Type 0 where
  pub couple : (t m : ℕ) → t < l.threads → visits_at m (of t) ≡ visits_by t (at m)
  pub gives : (m : ℕ) → givers m es ≡ map (λ v. v.thread) (at m)
  pub lead : (m : ℕ) → m < l.mutexes → (y : ℕ) × LeadTo (value m) (at m) y

-- a function that is changed at one place
pub put_all : {A : Type 0} (P : ℕ → A → Type 0) (f : ℕ → A) (k : ℕ) (x : A) (j : ℕ) → P k x → (j ≢ k → P j (f j)) → P j (put f k x j)
put_all P f k x j here other = elim (eqb_tells j k) [
  | inl p ↦ rw p.0 (subst (λ i. P i x) (sym p.1) here)
  | inr p ↦ rw p.0 (other p.1)
]

-- the number of a mutex after it was given back, or wasn't
abbrev pub valued : Deal → Hand → (ℕ → ℕ) → ℕ → ℕ
valued (Giving k) hand value = put value k.0 (hand k.0).1
valued _ hand value = value

abbrev pub Low : Layout → Deal → Type 0
Low l (Giving k) = k.0 < l.mutexes
Low l (Taking k) = k.0 < l.mutexes
Low l Apart = Unit {0}

heads : {A : Type 0} (x y : A) (xs ys : List A) → x ∷ xs ≡ y ∷ ys → (x ≡ y) × (xs ≡ ys)
heads x y xs ys e = (cc, cc)

-- the first visit to a mutex, where its thread gives the mutex back first
first_at : (l : Layout) (value : ℕ → ℕ) (t m : ℕ) (visit : Visit) (later : List Visit) (others : List ℕ) (to : List Visit) → visit ∷ later ≡ visits_by t to → t ∷ others ≡ map (λ v. v.thread) to
    → (q : List Visit) × (to ≡ visit ∷ q) × (later ≡ visits_by t q) × (others ≡ map (λ v. v.thread) q)
first_at l value t m visit later others [] same by = absurd (cc)
first_at l value t m visit later others (v ∷ q) same by =
    let names = heads t v.thread others (map (λ v. v.thread) q) by in
    let both = heads visit v later (visits_by t q) (rw (eq-eqb v.thread t (sym names.0)) at same) in
    (q, ap (λ w. w ∷ q) (sym both.0), both.1, names.1)

module _ (l : Layout) (of at : ℕ → List Visit) (value : ℕ → ℕ) where
  -- what a thread that gives a mutex back first got with it is the number that the mutex has
  pub got_is : (es : List Event) (t m : ℕ) (visit : Visit) (later : List Visit) (others : List ℕ) → Coming l es of at value → t < l.threads → m < l.mutexes → visits_at m (of t) ≡ visit ∷ later
      → givers m es ≡ t ∷ others → visit.got ≡ value m
  got_is es t m visit later others c low few is by =
      let f = first_at l value t m visit later others (at m) (sym is ∙ c.couple t m low) (sym by ∙ c.gives m) in
      (subst (λ (to : List Visit). LeadTo (value m) to (c.lead m few).0) f.1 (c.lead m few).1).0

  none_given : (e : Event) (es : List Event) (d : Deal) (b : List Visit) → deal e.action ≡ d → ((m : ℕ) → given d m ≡ false) → of e.thread.0 ≡ b → Coming l (e ∷ es) of at value
      → Coming l es (put of e.thread.0 b) at value
  none_given e es d b is not same c = record {
    couple = λ t m low. put_all (λ i (w : List Visit). i < l.threads → visits_at m w ≡ visits_by i (at m)) of e.thread.0 b t
        (λ below. ap (visits_at m) (sym same) ∙ c.couple e.thread.0 m below) (λ other below. c.couple t m below) low;
    gives = λ m. sym (givers_skip m e es (gives_given m e.action ∙ (ap (λ x. given x m) is ∙ not m))) ∙ c.gives m;
    lead = c.lead;
  }

  gone : (v : Visit) (q : List Visit) (t : ℕ) → v.thread ≢ t → visits_by t (v ∷ q) ≡ visits_by t q
  gone v q t ne = rw (ne_eqb v.thread t ne) refl

  elsewhere : (v : Visit) (q : List Visit) (m : ℕ) → v.mutex ≢ m → visits_at m (v ∷ q) ≡ visits_at m q
  elsewhere v q m ne = rw (ne_eqb v.mutex m ne) refl

  here : (v : Visit) (q : List Visit) (m : ℕ) → v.mutex ≡ m → visits_at m (v ∷ q) ≡ v ∷ visits_at m q
  here v q m e = rw (eq-eqb v.mutex m e) refl

  -- after an event the visit that it ends is no longer to come
  pub come_after : (e : Event) (es : List Event) (d : Deal) (hand : Hand) (a b : List Visit) (after : Hand) → deal e.action ≡ d → Deals e.thread.0 d hand a after → of e.thread.0 ≡ a ++ b
      → e.thread.0 < l.threads → Low l d → Coming l (e ∷ es) of at value → (rest : ℕ → List Visit) × Coming l es (put of e.thread.0 b) rest (valued d hand value)
  come_after e es (Taking k) hand a b after is deals same low few c = (at, none_given e es (Taking k) b is (λ m. refl) (same ∙ ap (λ (w : List Visit). w ++ b) deals.1) c)
  come_after e es Apart hand a b after is deals same low few c = (at, none_given e es Apart b is (λ m. refl) (same ∙ ap (λ (w : List Visit). w ++ b) deals.0) c)
  come_after e es (Giving k) hand a b after is deals same low few c =
      let t = e.thread.0 in
      let v : Visit = leaves t k hand in
      let mine : of t ≡ v ∷ b = same ∙ ap (λ (w : List Visit). w ++ b) deals.0 in
      let gives_it : gives k.0 e.action ≡ true = gives_given k.0 e.action ∙ (ap (λ x. given x k.0) is ∙ eq-eqb k.0 k.0 refl) in
      let f = first_at l value t k.0 v (visits_at k.0 b) (givers k.0 es) (at k.0) (sym (here v b k.0 refl) ∙ (ap (visits_at k.0) (sym mine) ∙ c.couple t k.0 low)) (sym (givers_now k.0 e es gives_it) ∙ c.gives k.0) in (
        put at k.0 f.0,
        record {
          couple = λ i m below. put_all (λ j (w : List Visit). (i < l.threads) → visits_at j (put of t b i) ≡ visits_by i w) at k.0 f.0 m
              (λ less. put_all (λ n (w : List Visit). n < l.threads → visits_at k.0 w ≡ visits_by n f.0) of t b i
              (λ lower. f.2)
              (λ other lower. c.couple i k.0 lower ∙ (ap (visits_by i) f.1 ∙ gone v f.0 i (λ eq. other (sym eq)))) less)
              (λ apart less. put_all (λ n (w : List Visit). n < l.threads → visits_at m w ≡ visits_by n (at m)) of t b i
              (λ lower. sym (elsewhere v b m (λ eq. apart (sym eq))) ∙ (ap (visits_at m) (sym mine) ∙ c.couple t m lower))
              (λ other lower. c.couple i m lower) less)
              below;
          gives = λ m. put_all (λ j (w : List Visit). givers j es ≡ map (λ v. v.thread) w) at k.0 f.0 m
              f.3
              (λ apart. sym (givers_skip m e es (gives_given m e.action ∙ (ap (λ x. given x m) is ∙ ne_eqb k.0 m (λ eq. apart (sym eq))))) ∙ c.gives m);
          lead = λ m less. elim (eqb_tells m k.0) [
            | inl p ↦ rw p.0 ((c.lead k.0 few).0, (subst (λ (to : List Visit). LeadTo (value k.0) to (c.lead k.0 few).0) f.1 (c.lead k.0 few).1).1)
            | inr p ↦ rw p.0 (c.lead m less)
          ];
        },
      )
