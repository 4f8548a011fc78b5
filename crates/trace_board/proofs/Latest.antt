-- The latest event of each thread.
use Rattle.std.proofs.Common.{◌≡◌, ◌≢◌, ℕ, ◌≤◌, true, false, cond, List, [], ◌∷◌, ◌++◌, length, length-append, refl, ap, sym, subst, ◌∙◌, Some, None, eq-eqb, ne_eqb, arith}
use Rattle.std.specs.Prelude.{nat_le}
use mathlib.Core.Logic.{dite}
use native.Mathlib.Decide.{ℕ_discrete}
use Rattle.std.specs.declared.option.Option.{Option}
use Rattle.std.proofs.lemmas.Bool.Decides.{nat_tests}
use Rattle.larch_actions.specs.declared.event.Event.{Event}
use Rattle.trace_board.specs.declared.history.Origin.{Origin}
use Rattle.trace_board.specs.History.{origin_of}
use Rattle.trace_board.specs.Tracked.{tracked_since, is_from}
use Rattle.trace_board.specs.Laws.{HasEvent, RunsAreSeen}

-- the event is the latest of the thread, or it had none
abbrev Latest : ℕ → List Event → Option Origin → Type 0
Latest t past None = (start : ℕ) → HasEvent t start past → ⊥
Latest t past (Some o) = HasEvent t o.place past × ((start : ℕ) → HasEvent t start past → start ≤ o.place)

head_same : (x y : Event) (xs ys : List Event) → x ∷ xs ≡ y ∷ ys → x ≡ y
head_same x y xs ys e = cc

tail_same : (x y : Event) (xs ys : List Event) → x ∷ xs ≡ y ∷ ys → xs ≡ ys
tail_same x y xs ys e = cc

-- an event more after it
event_on : (t start : ℕ) (e : Event) (past : List Event) → HasEvent t start past → HasEvent t start (e ∷ past)
event_on t start e past h = record { later = e ∷ h.later; event = h.event; earlier = h.earlier; split = ap (λ l. e ∷ l) h.split; by = h.by; from = h.from }

-- where the latest event is another thread's
event_before : (t start : ℕ) (e : Event) (past : List Event) → t ≢ e.thread.0 → HasEvent t start (e ∷ past) → HasEvent t start past
event_before t start e past ne h = at h.later h.split
  where
    at : (later : List Event) → e ∷ past ≡ later ++ h.event ∷ h.earlier → HasEvent t start past
    at [] s = absurd (ne (sym h.by ∙ ap (λ (x : Event). x.thread.0) (sym (head_same e h.event past h.earlier s))))
    at (x ∷ later) s = record { later = later; event = h.event; earlier = h.earlier; split = tail_same e x past (later ++ h.event ∷ h.earlier) s; by = h.by; from = h.from }

event_now : (t : ℕ) (e : Event) (past : List Event) → t ≡ e.thread.0 → Latest t (e ∷ past) (Some (origin_of (length past) e))
event_now t e past same = (
  record { later = []; event = e; earlier = past; split = refl; by = sym same; from = omega arith },
  λ start h. let counted = ap length h.split ∙ length-append h.later (h.event ∷ h.earlier) in omega (arith, counted, h.from),
)

stays : (t : ℕ) (e : Event) (past : List Event) (x : Option Origin) → t ≢ e.thread.0 → Latest t past x → Latest t (e ∷ past) x
stays t e past None ne l = λ start h. l start (event_before t start e past ne h)
stays t e past (Some o) ne l = (event_on t o.place e past l.0, λ start h. l.1 start (event_before t start e past ne h))

latest : (t : ℕ) (past : List Event) → Latest t past ((tracked_since past).latest t)
latest t [] = λ start h. let counted = ap length h.split ∙ length-append h.later (h.event ∷ h.earlier) in absurd (omega (arith, counted))
latest t (e ∷ past) = dite (ℕ_discrete t e.thread.0)
    (λ same. subst (λ b. Latest t (e ∷ past) (cond b (Some (origin_of (length past) e)) ((tracked_since past).latest t))) (sym (eq-eqb t e.thread.0 same)) (event_now t e past same))
    (λ ne. subst (λ b. Latest t (e ∷ past) (cond b (Some (origin_of (length past) e)) ((tracked_since past).latest t))) (sym (ne_eqb t e.thread.0 ne)) (stays t e past ((tracked_since past).latest t) ne (latest t past)))

is_le : (i k : ℕ) → nat_le i k ≡ true → i ≤ k
is_le i k e = grind (arith, nat_tests)

le_is : (i k : ℕ) → i ≤ k → nat_le i k ≡ true
le_is i k e = grind (arith, nat_tests)

seen : (t start : ℕ) (past : List Event) (x : Option Origin) → Latest t past x → is_from start x ≡ true → HasEvent t start past
seen t start past None l e = let bad : false ≡ true = e in cc
seen t start past (Some o) l e = let le = is_le start o.place e in record { later = l.0.later; event = l.0.event; earlier = l.0.earlier; split = l.0.split; by = l.0.by; from = omega (arith, l.0.from, le) }

reported : (t start : ℕ) (past : List Event) (x : Option Origin) → Latest t past x → HasEvent t start past → is_from start x ≡ true
reported t start past None l h = absurd (l start h)
reported t start past (Some o) l h = le_is start o.place (l.1 start h)

pub runs_are_seen : RunsAreSeen
runs_are_seen = λ past start t. (seen t start past ((tracked_since past).latest t) (latest t past), reported t start past ((tracked_since past).latest t) (latest t past))
