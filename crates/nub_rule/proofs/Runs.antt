-- What one more event at the end does to a run and to the parts of the threads.
use Rattle.std.proofs.Common.{◌≡◌, ◌≢◌, ℕ, ◌+◌, true, false, eqb, List, [], ◌∷◌, ◌++◌, length, refl, sym, ap, ◌∙◌, subst, append_assoc, eq-eqb, ne_eqb, cond, arith}
use Rattle.larch_actions.specs.declared.event.Event.{Event}
use Rattle.larch_actions.specs.declared.event.Version.{Version}
use Rattle.larch_actions.specs.Actions.{Spec, Acts, IsRun, Leads, by_thread, StartsWith}
use Rattle.nub_rule.specs.Items.{places_from}

pub leads-snoc : (s : Spec) (es : List Event) (t : Spec) (e : Event) (u : Spec) → Leads s es t → Acts t e u → Leads s (es ++ e ∷ []) u
leads-snoc s [] t e u r a = (u, subst (λ (z : Spec). Acts z e u) (sym r) a, refl)
leads-snoc s (x ∷ xs) t e u r a = (r.0, r.1, leads-snoc r.0 xs t e u r.2 a)

pub by_thread-other : (t : ℕ) (es : List Event) (e : Event) → e.thread.0 ≢ t → by_thread t (es ++ e ∷ []) ≡ by_thread t es
by_thread-other t [] e ne = ap (λ b. cond b (e ∷ []) []) (ne_eqb e.thread.0 t ne)
by_thread-other t (x ∷ xs) e ne = ap (λ l. cond (eqb x.thread.0 t) (x ∷ l) l) (by_thread-other t xs e ne)

pub by_thread-own : (t : ℕ) (es : List Event) (e : Event) → e.thread.0 ≡ t → by_thread t (es ++ e ∷ []) ≡ by_thread t es ++ e ∷ []
by_thread-own t [] e is = ap (λ b. cond b (e ∷ []) []) (eq-eqb e.thread.0 t is)
by_thread-own t (x ∷ xs) e is = elim (eqb x.thread.0 t) as (λ b. cond b (x ∷ by_thread t (xs ++ e ∷ [])) (by_thread t (xs ++ e ∷ [])) ≡ cond b (x ∷ by_thread t xs) (by_thread t xs) ++ e ∷ [])
    [ true ↦ ap (λ l. x ∷ l) (by_thread-own t xs e is) | false ↦ by_thread-own t xs e is ]

pub places-other : (i t : ℕ) (es : List Event) (e : Event) → e.thread.0 ≢ t → places_from i t (es ++ e ∷ []) ≡ places_from i t es
places-other i t [] e ne = ap (λ b. cond b (i ∷ []) []) (ne_eqb e.thread.0 t ne)
places-other i t (x ∷ xs) e ne = ap (λ l. cond (eqb x.thread.0 t) (i ∷ l) l) (places-other (i + 1) t xs e ne)

pub places-own : (i t : ℕ) (es : List Event) (e : Event) → e.thread.0 ≡ t → places_from i t (es ++ e ∷ []) ≡ places_from i t es ++ (i + length es) ∷ []
places-own i t [] e is = let h : i ≡ i + 0 = omega arith in ap (λ b. cond b (i ∷ []) []) (eq-eqb e.thread.0 t is) ∙ ap (λ (z : ℕ). z ∷ []) h
places-own i t (x ∷ xs) e is = let h : (i + 1) + length xs ≡ i + length (x ∷ xs) = omega arith in
    let r : places_from (i + 1) t (xs ++ e ∷ []) ≡ places_from (i + 1) t xs ++ (i + length (x ∷ xs)) ∷ [] = places-own (i + 1) t xs e is ∙ ap (λ (z : ℕ). places_from (i + 1) t xs ++ z ∷ []) h in
    elim (eqb x.thread.0 t) as (λ b. cond b (i ∷ places_from (i + 1) t (xs ++ e ∷ [])) (places_from (i + 1) t (xs ++ e ∷ [])) ≡ cond b (i ∷ places_from (i + 1) t xs) (places_from (i + 1) t xs) ++ (i + length (x ∷ xs)) ∷ [])
    [ true ↦ ap (λ l. i ∷ l) r | false ↦ r ]

pub starts-more : (xs ys : List Event) (e : Event) → StartsWith xs ys → StartsWith (xs ++ e ∷ []) ys
starts-more xs ys e s = (s.0 ++ e ∷ [], ap (λ l. l ++ e ∷ []) s.1 ∙ append_assoc ys s.0 (e ∷ []))

-- a run of one version, as that of the same list by another name
pub run-of : (v w : Version) → w ≡ v → (t : Spec) {xs ys : List Event} → xs ≡ ys → IsRun v xs t → IsRun w ys t
run-of v w ev t e run = subst (λ (z : Version × List Event). IsRun z.0 z.1 t) (λ i. (sym ev i, e i)) run
