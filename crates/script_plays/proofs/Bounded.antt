-- Each event of a play lowers a rank, so plays are bounded.
use Rattle.std.proofs.Common.{◌≡◌, ◌≢◌, ◌⊎◌, inl, inr, ℕ, zero, suc, ◌+◌, ◌*◌, ◌<◌, ◌≤◌, Bool, true, false, cond, eq-eqb, ne_eqb, List, [], ◌∷◌, ◌++◌, length, length-append, append_assoc, append-nil, refl, ap, sym, subst, ◌∙◌, arith}
use Rattle.std.proofs.lemmas.List.{length-drop}
use Rattle.std.proofs.lemmas.Bool.Decides.{eqb_tells}
use mathlib.Core.Logic.{dite}
use native.Mathlib.Decide.{ℕ_discrete}
use Rattle.std.proofs.Math.Nat.{mul-le-mul_left}
use Rattle.larch_actions.specs.declared.event.Event.{Event}
use Rattle.larch_actions.specs.declared.event.Layout.{Layout}
use Rattle.larch_actions.specs.declared.event.Action.{Action}
use Rattle.larch_actions.specs.declared.event.Action.TheVariants as action
use Rattle.larch_actions.specs.declared.event.Life.{Life}
use Rattle.larch_actions.specs.declared.event.Life.TheVariants.{Unborn, Live, Ended}
use Rattle.larch_actions.specs.declared.event.Pending.{Pending}
use Rattle.larch_actions.specs.declared.event.Pending.TheVariants.{Nothing, Waiting, AlertWaiting}
use Rattle.larch_actions.specs.declared.event.Version.{Version}
use Rattle.larch_actions.specs.declared.event.Version.TheVariants.{One, Two}
use Rattle.larch_actions.specs.Actions.{Spec, MayAct, acted, put, lives_at_first}
use Rattle.script_text.specs.declared.line.Line.{Line}
use Rattle.script_text.specs.declared.line.Operation.{Operation}
use Rattle.script_text.specs.declared.line.Operation.TheVariants.{Wait, AlertWait, Signal, TestAlert, AlertP, Add, Until, AlertUntil}
use Rattle.script_text.specs.Runs.{lines_of}
use Rattle.script_plays.specs.declared.choice.Turn.{Turn}
use Rattle.script_plays.specs.declared.choice.Turn.TheVariants.{Stays, Next}
use Rattle.script_plays.specs.declared.choice.Choice.{Choice}
use Rattle.script_plays.specs.Choices.{MayMake, Gives, is_silent, stays}
use Rattle.script_plays.specs.Scenes.{Scene, first_scene, rest_of, sum_below, number_of, settled_over, settled, turned}
use Rattle.script_plays.specs.Plays.{Goes, Plays, IsPlay, IsWhole, Ends}
use Rattle.script_plays.specs.Laws.{PlaysAreBounded, PlaysCanBeFinished}

-- sums
sum_le : (f g : ℕ → ℕ) (n : ℕ) → ((t : ℕ) → f t ≤ g t) → sum_below f n ≤ sum_below g n
sum_le f g zero all = omega arith
sum_le f g (suc n) all = omega (arith, sum_le f g n all, all n)

sum_lt : (f g : ℕ → ℕ) (n k : ℕ) → k < n → ((t : ℕ) → f t ≤ g t) → f k < g k → sum_below f n < sum_below g n
sum_lt f g zero k low all less = absurd (omega arith)
sum_lt f g (suc n) k low all less = dite (ℕ_discrete k n)
    (λ e. let here : f n < g n = subst (λ (j : ℕ). f j < g j) e less in omega (arith, here, sum_le f g n all))
    (λ ne. omega (arith, sum_lt f g n k (omega (arith, low, ne)) all less, all n))

sum_of : (f : ℕ → ℕ) (n k : ℕ) → ((t : ℕ) → f t ≤ k) → sum_below f n ≤ k * n
sum_of f zero k all = omega arith
sum_of f (suc n) k all = omega (arith, sum_of f n k all, all n)

sum_plus : (f g : ℕ → ℕ) (n : ℕ) → sum_below (λ t. f t + g t) n ≡ sum_below f n + sum_below g n
sum_plus f g zero = omega arith
sum_plus f g (suc n) = omega (arith, sum_plus f g n)

-- an end that is to come, and how far a thread is in a wait: out of its condition, in no wait, in its condition
abbrev pub to_end : Life → ℕ
to_end Ended = 0
to_end _ = 1

abbrev pub phase_of : Pending → (ℕ → Bool) → ℕ
phase_of Nothing inside = 1
phase_of (Waiting m c) inside = cond (inside c.0) 0 2
phase_of (AlertWaiting m c) inside = cond (inside c.0) 0 2

abbrev pub phase : Spec → ℕ → ℕ
phase s t = phase_of (s.pending t) (λ c. s.members c t)

-- the lines and the end that a thread has before it
abbrev pub ahead : List Line → Scene → ℕ → ℕ
ahead xs s t = length (rest_of xs s.played t) + to_end (s.spec.life t)

abbrev pub rank : Layout → List Line → Scene → ℕ
rank l xs s = (2 * l.threads + 1) * sum_below (ahead xs s) l.threads + sum_below (phase s.spec) l.threads

phase_few : (p : Pending) (inside : ℕ → Bool) → phase_of p inside ≤ 2
phase_few Nothing inside = omega arith
phase_few (Waiting m c) inside = elim (inside c.0) as (λ b. cond b 0 2 ≤ 2) [ true ↦ omega arith | false ↦ omega arith ]
phase_few (AlertWaiting m c) inside = elim (inside c.0) as (λ b. cond b 0 2 ≤ 2) [ true ↦ omega arith | false ↦ omega arith ]

-- fewer lines and ends ahead, or as many and less in the phases
rank_ahead : (k a b p q : ℕ) → a < b → p ≤ 2 * k → (2 * k + 1) * a + p < (2 * k + 1) * b + q
rank_ahead k a b p q less few = let more : a + 1 ≤ b = omega arith in let times = mul-le-mul_left (2 * k + 1) more in omega (arith, times)

rank_phase : (k a b p q : ℕ) → a ≤ b → p < q → (2 * k + 1) * a + p < (2 * k + 1) * b + q
rank_phase k a b p q le less = let times = mul-le-mul_left (2 * k + 1) le in omega (arith, times)

-- put
pub put_here : {A : Type 0} (f : ℕ → A) (k : ℕ) (x : A) → put f k x k ≡ x
put_here f k x = ap (λ b. cond b x (f k)) (eq-eqb k k refl)

pub put_other : {A : Type 0} (f : ℕ → A) (k : ℕ) (x : A) (j : ℕ) → j ≢ k → put f k x j ≡ f j
put_other f k x j ne = ap (λ b. cond b x (f j)) (ne_eqb j k ne)

-- settling plays lines of its thread alone
module _ (n : ℕ) (xs : List Line) (t : ℕ) where
  over-other : (rest : List Line) (played : ℕ → ℕ) (u : ℕ) → u ≢ t → settled_over n xs t rest played u ≡ played u
  over-other [] played u ne = refl
  over-other (x ∷ rest) played u ne =
      elim (is_silent x.operation (number_of n xs played)) as (λ b. cond b (settled_over n xs t rest (put played t (suc (played t)))) played u ≡ played u) [
        | true ↦ over-other rest (put played t (suc (played t))) u ne ∙ put_other played t (suc (played t)) u ne
        | false ↦ refl
      ]

  over-grows : (rest : List Line) (played : ℕ → ℕ) → played t ≤ settled_over n xs t rest played t
  over-grows [] played = omega arith
  over-grows (x ∷ rest) played =
      elim (is_silent x.operation (number_of n xs played)) as (λ b. played t ≤ cond b (settled_over n xs t rest (put played t (suc (played t)))) played t) [
        | true ↦ omega (arith, over-grows rest (put played t (suc (played t))), put_here played t (suc (played t)))
        | false ↦ omega arith
      ]

  pub turned-other : (turn : Turn) (played : ℕ → ℕ) (u : ℕ) → u ≢ t → settled n xs t (turned turn t played) u ≡ played u
  turned-other Stays played u ne = over-other (rest_of xs played t) played u ne
  turned-other Next played u ne = over-other (rest_of xs (put played t (suc (played t))) t) (put played t (suc (played t))) u ne ∙ put_other played t (suc (played t)) u ne

  turned-grows : (turn : Turn) (played : ℕ → ℕ) → played t ≤ settled n xs t (turned turn t played) t
  turned-grows Stays played = over-grows (rest_of xs played t) played
  turned-grows Next played = omega (arith, over-grows (rest_of xs (put played t (suc (played t))) t) (put played t (suc (played t))), put_here played t (suc (played t)))

  next-grows : (played : ℕ → ℕ) → played t + 1 ≤ settled n xs t (turned Next t played) t
  next-grows played = omega (arith, over-grows (rest_of xs (put played t (suc (played t))) t) (put played t (suc (played t))), put_here played t (suc (played t)))

-- a thread's lines ahead don't grow, and one that goes on to its next line has fewer
rest_le : (xs : List Line) (p q : ℕ → ℕ) (u : ℕ) → p u ≤ q u → length (rest_of xs q u) ≤ length (rest_of xs p u)
rest_le xs p q u le = omega (arith, length-drop (p u) (lines_of u xs), length-drop (q u) (lines_of u xs))

rest_lt : (xs : List Line) (p q : ℕ → ℕ) (u : ℕ) → p u + 1 ≤ q u → 0 < length (rest_of xs p u) → length (rest_of xs q u) < length (rest_of xs p u)
rest_lt xs p q u le some = omega (arith, length-drop (p u) (lines_of u xs), length-drop (q u) (lines_of u xs))

-- a life that ends isn't ended before, and none begins anew
life_put : (f : ℕ → Life) (k : ℕ) (x : Life) (u : ℕ) → to_end x ≤ to_end (f k) → to_end (put f k x u) ≤ to_end (f u)
life_put f k x u le = elim (eqb_tells u k) [
  | inl p ↦ rw p.0 (subst (λ (j : ℕ). to_end x ≤ to_end (f j)) (sym p.1) le)
  | inr p ↦ rw p.0 (omega arith)
]

life_le : (s : Spec) (t : ℕ) (a : Action) → MayAct s (record { thread = record { 0 = t }; action = a }) → (u : ℕ) → to_end ((acted t s a).life u) ≤ to_end (s.life u)
life_le s t (action.Fork who) may u = life_put s.life who.0 Live u (subst (λ (z : Life). 1 ≤ to_end z) (sym may.requires_met) (omega arith))
life_le s t action.End may u = life_put s.life t Ended u (omega arith)
life_le s t _ may u = omega arith

end_lt : (s : Spec) (t : ℕ) → s.life t ≡ Live → to_end (put s.life t Ended t) < to_end (s.life t)
end_lt s t live = subst (λ (z : Life). to_end z < to_end (s.life t)) (sym (put_here s.life t Ended)) (subst (λ (z : Life). 0 < to_end z) (sym live) (omega arith))

-- a choice after which the thread stays at its line is its end or a part of a wait
abbrev IsWaitPart : Action → Type 0
IsWaitPart (action.Enqueue m c) = Unit {0}
IsWaitPart (action.Resume m c) = Unit {0}
IsWaitPart (action.AlertEnqueue m c) = Unit {0}
IsWaitPart (action.AlertReturn m c) = Unit {0}
IsWaitPart _ = ⊥

turns_differ : Stays ≡ Next → ⊥
turns_differ e = cc

no_next : (a b : Action) (A : Type 0) → (let x : Choice = record { action = a; turn = Stays } in x ≡ record { action = b; turn = Next }) → A
no_next a b A e = absurd (turns_differ (ap (λ (z : Choice). z.turn) e))

one_stays : (a b : Action) → (let x : Choice = record { action = a; turn = Stays } in x ≡ stays b) → IsWaitPart b → IsWaitPart a
one_stays a b e part = subst IsWaitPart (sym (ap (λ (z : Choice). z.action) e)) part

stays_made : (o : Operation) (a : Action) → MayMake o (record { action = a; turn = Stays }) → IsWaitPart a
stays_made (Wait m c) a h = elim h [ inl e ↦ one_stays a (action.Enqueue m c) e tt | inr k ↦ elim k [ inl e ↦ no_next a _ _ e | inr n ↦ absurd n ] ]
stays_made (AlertWait m c) a h = elim h [
  | inl e ↦ one_stays a (action.AlertEnqueue m c) e tt
  | inr k ↦ elim k [ inl e ↦ no_next a _ _ e | inr j ↦ elim j [ inl e ↦ no_next a _ _ e | inr n ↦ absurd n ] ]
]
stays_made (Signal c) a h = no_next a (action.Signal c h.0) _ h.1
stays_made TestAlert a h = elim h [ inl e ↦ no_next a _ _ e | inr k ↦ elim k [ inl e ↦ no_next a _ _ e | inr n ↦ absurd n ] ]
stays_made (AlertP s) a h = elim h [ inl e ↦ no_next a _ _ e | inr k ↦ elim k [ inl e ↦ no_next a _ _ e | inr n ↦ absurd n ] ]
stays_made (Add m n) a h = absurd h
stays_made (Until m c n) a h = elim h [ inl e ↦ one_stays a (action.Enqueue m c) e tt | inr k ↦ elim k [ inl e ↦ one_stays a (action.Resume m c) e tt | inr z ↦ absurd z ] ]
stays_made (AlertUntil m c n) a h = elim h [
  | inl e ↦ one_stays a (action.AlertEnqueue m c) e tt
  | inr k ↦ elim k [ inl e ↦ one_stays a (action.AlertReturn m c) e tt | inr j ↦ elim j [ inl e ↦ no_next a _ _ e | inr z ↦ absurd z ] ]
]
stays_made _ a h = elim h [ inl e ↦ no_next a _ _ e | inr n ↦ absurd n ]

stays_given : (v : Version) (rest : List Line) (a : Action) → Gives v rest (record { action = a; turn = Stays }) → (a ≡ action.End) ⊎ IsWaitPart a
stays_given One [] a h = absurd h
stays_given Two [] a h = inl (ap (λ (z : Choice). z.action) h)
stays_given One (x ∷ rest) a h = inr (stays_made x.operation a h)
stays_given Two (x ∷ rest) a h = inr (stays_made x.operation a h)

-- one after which it goes on is that of a line
next_given : (v : Version) (rest : List Line) (a : Action) → Gives v rest (record { action = a; turn = Next }) → 0 < length rest
next_given One [] a h = absurd h
next_given Two [] a h = absurd (turns_differ (sym (ap (λ (z : Choice). z.turn) h)))
next_given One (x ∷ rest) a h = omega arith
next_given Two (x ∷ rest) a h = omega arith

-- the phase of the thread falls, and that of any other stays
phase_alike : (p q : Pending) (f g : ℕ → Bool) → p ≡ q → ((k : ℕ) → f k ≡ g k) → phase_of p f ≡ phase_of q g
phase_alike p q f g e same = λ i. phase_of (e i) (λ k. same k i)

inside_phase : (p q : Pending) (f : ℕ → Bool) (k : ℕ) (b : Bool) → p ≡ q → ((g : ℕ → Bool) → phase_of q g ≡ cond (g k) 0 2) → f k ≡ b → phase_of p f ≡ cond b 0 2
inside_phase p q f k b e shape here = ap (λ z. phase_of z f) e ∙ (shape f ∙ ap (λ z. cond z 0 2) here)

no_phase : (p : Pending) (f : ℕ → Bool) → p ≡ Nothing → phase_of p f ≡ 1
no_phase p f e = ap (λ z. phase_of z f) e

member_put : (members : ℕ → ℕ → Bool) (c t : ℕ) (b : Bool) → put members c (put (members c) t b) c t ≡ b
member_put members c t b = ap (λ (f : ℕ → Bool). f t) (put_here members c (put (members c) t b)) ∙ put_here (members c) t b

member_other : (members : ℕ → ℕ → Bool) (c t : ℕ) (b : Bool) (u : ℕ) → u ≢ t → (k : ℕ) → put members c (put (members c) t b) k u ≡ members k u
member_other members c t b u ne k = elim (eqb_tells k c) [
  | inl p ↦ ap (λ z. cond z (put (members c) t b) (members k) u) p.0 ∙ (put_other (members c) t b u ne ∙ ap (λ j. members j u) (sym p.1))
  | inr p ↦ ap (λ z. cond z (put (members c) t b) (members k) u) p.0
]

phase_lt : (s : Spec) (t : ℕ) (a : Action) → MayAct s (record { thread = record { 0 = t }; action = a }) → IsWaitPart a → phase (acted t s a) t < phase s t
phase_lt s t (action.Enqueue m c) may part =
    omega (
      arith,
      no_phase (s.pending t) (λ k. s.members k t) may.order,
      inside_phase (put s.pending t (Waiting m c) t) (Waiting m c) (λ k. put s.members c.0 (put (s.members c.0) t true) k t) c.0 true (put_here s.pending t (Waiting m c)) (λ g. refl) (member_put s.members c.0 t true),
    )
phase_lt s t (action.Resume m c) may part =
    omega (
      arith,
      inside_phase (s.pending t) (Waiting m c) (λ k. s.members k t) c.0 false may.order (λ g. refl) may.when_met.1,
      no_phase (put s.pending t Nothing t) (λ k. s.members k t) (put_here s.pending t Nothing),
    )
phase_lt s t (action.AlertEnqueue m c) may part =
    omega (
      arith,
      no_phase (s.pending t) (λ k. s.members k t) may.order,
      inside_phase (put s.pending t (AlertWaiting m c) t) (AlertWaiting m c) (λ k. put s.members c.0 (put (s.members c.0) t true) k t) c.0 true (put_here s.pending t (AlertWaiting m c)) (λ g. refl) (member_put s.members c.0 t true),
    )
phase_lt s t (action.AlertReturn m c) may part =
    omega (
      arith,
      inside_phase (s.pending t) (AlertWaiting m c) (λ k. s.members k t) c.0 false may.order (λ g. refl) may.when_met.1,
      no_phase (put s.pending t Nothing t) (λ k. s.members k t) (put_here s.pending t Nothing),
    )
phase_lt s t _ may part = absurd part

phase_same : (s : Spec) (t : ℕ) (a : Action) → IsWaitPart a → (u : ℕ) → u ≢ t → phase (acted t s a) u ≡ phase s u
phase_same s t (action.Enqueue m c) part u ne = phase_alike (put s.pending t (Waiting m c) u) (s.pending u) (λ k. put s.members c.0 (put (s.members c.0) t true) k u) (λ k. s.members k u)
    (put_other s.pending t (Waiting m c) u ne) (member_other s.members c.0 t true u ne)
phase_same s t (action.Resume m c) part u ne = ap (λ p. phase_of p (λ k. s.members k u)) (put_other s.pending t Nothing u ne)
phase_same s t (action.AlertEnqueue m c) part u ne = phase_alike (put s.pending t (AlertWaiting m c) u) (s.pending u) (λ k. put s.members c.0 (put (s.members c.0) t true) k u) (λ k. s.members k u)
    (put_other s.pending t (AlertWaiting m c) u ne) (member_other s.members c.0 t true u ne)
phase_same s t (action.AlertReturn m c) part u ne = ap (λ p. phase_of p (λ k. s.members k u)) (put_other s.pending t Nothing u ne)
phase_same s t _ part u ne = absurd part

phases_few : (s : Spec) (n : ℕ) → sum_below (phase s) n ≤ 2 * n
phases_few s n = sum_of (phase s) n 2 (λ t. phase_few (s.pending t) (λ c. s.members c t))

-- each event lowers the rank
module _ (l : Layout) (xs : List Line) (s : Scene) (t : ℕ) (a : Action) (low : t < l.threads) (may : MayAct s.spec (record { thread = record { 0 = t }; action = a })) where
  after : Turn → Scene
  after turn = record { spec = acted t s.spec a; played = settled l.threads xs t (turned turn t s.played) }

  ahead_le : (turn : Turn) (u : ℕ) → ahead xs (after turn) u ≤ ahead xs s u
  unfolding after
  ahead_le turn u =
      let grows : s.played u ≤ settled l.threads xs t (turned turn t s.played) u
      = dite (ℕ_discrete u t)
      (λ e. subst (λ j. s.played j ≤ settled l.threads xs t (turned turn t s.played) j) (sym e) (turned-grows l.threads xs t turn s.played))
      (λ ne. omega (arith, turned-other l.threads xs t turn s.played u ne)) in
      omega (arith, rest_le xs s.played (settled l.threads xs t (turned turn t s.played)) u grows, life_le s.spec t a may u)

  falls_ahead : (turn : Turn) → ahead xs (after turn) t < ahead xs s t → rank l xs (after turn) < rank l xs s
  unfolding after
  falls_ahead turn less =
      rank_ahead l.threads (sum_below (ahead xs (after turn)) l.threads) (sum_below (ahead xs s) l.threads) (sum_below (phase (acted t s.spec a)) l.threads) (sum_below (phase s.spec) l.threads)
      (sum_lt (ahead xs (after turn)) (ahead xs s) l.threads t low (ahead_le turn) less) (phases_few (acted t s.spec a) l.threads)

  falls_next : 0 < length (rest_of xs s.played t) → rank l xs (after Next) < rank l xs s
  unfolding after
  falls_next some =
      let rest = rest_lt xs s.played (settled l.threads xs t (turned Next t s.played)) t (next-grows l.threads xs t s.played) some in
      falls_ahead Next (omega (arith, rest, life_le s.spec t a may t))

  falls_end : a ≡ action.End → rank l xs (after Stays) < rank l xs s
  unfolding after
  falls_end is =
      let rest = rest_le xs s.played (settled l.threads xs t (turned Stays t s.played)) t (turned-grows l.threads xs t Stays s.played) in
      let life : to_end ((acted t s.spec a).life t) < to_end (s.spec.life t) = subst (λ (z : Action). to_end ((acted t s.spec z).life t) < to_end (s.spec.life t)) (sym is) (end_lt s.spec t may.live) in
      falls_ahead Stays (omega (arith, rest, life))

  falls_wait : IsWaitPart a → rank l xs (after Stays) < rank l xs s
  unfolding after
  falls_wait part =
      rank_phase l.threads (sum_below (ahead xs (after Stays)) l.threads) (sum_below (ahead xs s) l.threads) (sum_below (phase (acted t s.spec a)) l.threads) (sum_below (phase s.spec) l.threads)
      (sum_le (ahead xs (after Stays)) (ahead xs s) l.threads (ahead_le Stays))
      (sum_lt (phase (acted t s.spec a)) (phase s.spec) l.threads t low
      (λ u. dite (ℕ_discrete u t)
      (λ e. subst (λ j. phase (acted t s.spec a) j ≤ phase s.spec j) (sym e) (omega (arith, phase_lt s.spec t a may part)))
      (λ ne. omega (arith, phase_same s.spec t a part u ne)))
      (phase_lt s.spec t a may part))

  falls_by : (turn : Turn) → Gives l.version (rest_of xs s.played t) (record { action = a; turn = turn }) → rank l xs (after turn) < rank l xs s
  falls_by Next gives = falls_next (next_given l.version (rest_of xs s.played t) a gives)
  falls_by Stays gives = elim (stays_given l.version (rest_of xs s.played t) a gives) [ inl is ↦ falls_end is | inr part ↦ falls_wait part ]

  falls_to : (turn : Turn) (u : Scene) → Gives l.version (rest_of xs s.played t) (record { action = a; turn = turn }) → u.spec ≡ acted t s.spec a → u.played ≡ settled l.threads xs t (turned turn t s.played)
      → rank l xs u < rank l xs s
  unfolding after
  falls_to turn u gives spec played = subst (λ (z : Scene). rank l xs z < rank l xs s) (λ i. record { spec = sym spec i; played = sym played i }) (falls_by turn gives)

pub goes_falls : (l : Layout) (xs : List Line) (s : Scene) (e : Event) (u : Scene) → Goes l xs s e u → rank l xs u < rank l xs s
goes_falls l xs s e u g = falls_to l xs s e.thread.0 e.action g.thread g.acts.0 g.turn u g.gives g.acts.1 g.played

plays_fall : (l : Layout) (xs : List Line) (s : Scene) (h : List Event) (u : Scene) → Plays l xs s h u → length h + rank l xs u ≤ rank l xs s
plays_fall l xs s [] u p = subst (λ (z : Scene). 0 + rank l xs z ≤ rank l xs s) p (omega arith)
plays_fall l xs s (e ∷ h) u p = omega (arith, goes_falls l xs s e p.0 p.1, plays_fall l xs p.0 h u p.2)

-- the rank of the first scene
sum_more : (f g : ℕ → ℕ) (k : ℕ) → ((t : ℕ) → t ≢ k → g t ≤ f t) → g k ≤ f k + 1 → (n : ℕ) → sum_below g n ≤ sum_below f n + 1
sum_more f g k same one zero = omega arith
sum_more f g k same one (suc n) = dite (ℕ_discrete n k)
    (λ e. let here : g n ≤ f n + 1 = subst (λ j. g j ≤ f j + 1) (sym e) one in omega (arith, here, before n (omega (arith, e))))
    (λ ne. omega (arith, sum_more f g k same one n, same n ne))
  where
    before : (n : ℕ) → n ≤ k → sum_below g n ≤ sum_below f n
    before zero low = omega arith
    before (suc n) low = omega (arith, before n (omega arith), same n (omega arith))

lines_in_all : (n : ℕ) (xs : List Line) → sum_below (λ t. length (lines_of t xs)) n ≤ length xs
lines_in_all n [] = omega (arith, sum_of (λ t. 0) n 0 (λ t. omega arith))
lines_in_all n (x ∷ xs) =
    omega (
      arith,
      lines_in_all n xs,
      sum_more (λ t. length (lines_of t xs)) (λ t. length (lines_of t (x ∷ xs))) x.thread.0
          (λ t ne. omega (arith, ap (λ b. length (cond b (x ∷ lines_of t xs) (lines_of t xs))) (ne_eqb x.thread.0 t (λ e. ne (sym e)))))
          (omega (arith, ap (λ b. length (cond b (x ∷ lines_of x.thread.0 xs) (lines_of x.thread.0 xs))) (eq-eqb x.thread.0 x.thread.0 refl))) n,
    )

end_few : (x : Life) → to_end x ≤ 1
end_few Unborn = omega arith
end_few _ = omega arith

rank_first : (l : Layout) (xs : List Line) → rank l xs (first_scene l.version) ≤ (2 * l.threads + 1) * (length xs + l.threads) + l.threads
rank_first l xs =
    let lines = λ (t : ℕ). length (lines_of t xs) in
    let few = sum_le (ahead xs (first_scene l.version)) (λ t. lines t + 1) l.threads
    (λ t. omega (arith, length-drop 0 (lines_of t xs), end_few (lives_at_first l.version t))) in
    let both = sum_plus lines (λ t. 1) l.threads in
    let ones = sum_of (λ t. 1) l.threads 1 (λ t. omega arith) in
    let all : sum_below (ahead xs (first_scene l.version)) l.threads ≤ length xs + l.threads = omega (arith, few, both, ones, lines_in_all l.threads xs) in
    let times = mul-le-mul_left (2 * l.threads + 1) all in
    omega (arith, times, ones)

pub plays_are_bounded : PlaysAreBounded
plays_are_bounded l xs h play = omega (arith, plays_fall l xs (first_scene l.version) h play.0 play.1, rank_first l xs)

-- where no play gets stuck each can be finished
finish : (l : Layout) (xs : List Line) → Ends l xs → (n : ℕ) (h : List Event) → (2 * l.threads + 1) * (length xs + l.threads) + l.threads < length h + n → IsPlay l xs h → (g : List Event) × IsWhole l xs (h ++ g)
finish l xs ends zero h past play = absurd (omega (arith, plays_are_bounded l xs h play))
finish l xs ends (suc n) h past play = elim (ends h play) [
  | inl whole ↦ ([], subst (λ (g : List Event). IsWhole l xs g) (sym (append-nil h)) whole)
  | inr on ↦
      let more = finish l xs ends n (h ++ on.0 ∷ []) (omega (arith, past, length-append h (on.0 ∷ []))) on.1 in
      (on.0 ∷ more.0, subst (λ (g : List Event). IsWhole l xs g) (append_assoc h (on.0 ∷ []) more.0) more.1)
]

pub plays_can_be_finished : PlaysCanBeFinished
plays_can_be_finished l xs h ends play = finish l xs ends (suc ((2 * l.threads + 1) * (length xs + l.threads) + l.threads)) h (omega arith) play
