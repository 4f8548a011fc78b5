-- Words and views determine the history and the state, and a step adds to them what it adds to its thread's own events.
use Rattle.std.proofs.Common.{true, false, cond, eqb, ◌≡◌, ◌≢◌, ℕ, suc, ◌+◌, ◌<◌, List, [], ◌∷◌, ◌++◌, length, refl, sym, ap, ◌∙◌, subst, ⊎_elim, arith, append_assoc, append-nil, length-append, eq-eqb, ne_eqb}
use mathlib.Core.Logic.{dite}
use mathlib.Core.Option.{some}
use native.Mathlib.Decide.{ℕ_discrete}
use lib.ListN.{get_elem?}
use Rattle.larch_actions.specs.declared.event.Event.{Event}
use Rattle.larch_actions.specs.declared.event.Version.{Version}
use Rattle.larch_actions.specs.declared.event.Layout.{Layout}
use Rattle.larch_actions.specs.Actions.{Spec, Leads, IsRun, StartsWith, at_first, by_thread}
use Rattle.nub_rule.specs.declared.view.Part.{Part}
use Rattle.nub_rule.specs.Items.{Each}
use Rattle.nub_rule.specs.PackageRule.{History, IsStepOf}
use Rattle.nub_rule.proofs.Each.{at_below, at_within, same_at}

-- a list leads from a state to one state
pub leads-one : (s t u : Spec) (es : List Event) → Leads s es t → Leads s es u → t ≡ u
leads-one s t u [] a b = sym a ∙ b
leads-one s t u (e ∷ es) a b = leads-one b.0 t u es (subst (λ (z : Spec). Leads z es t) (a.1.1 ∙ sym b.1.1) a.2) b.2

leads-split : (s t : Spec) (es fs : List Event) → Leads s (es ++ fs) t → (u : Spec) × Leads s es u × Leads u fs t
leads-split s t [] fs a = (s, refl, a)
leads-split s t (e ∷ es) fs a = let r = leads-split a.0 t es fs a.2 in (r.0, (a.0, a.1, r.1), r.2)

empty : {A : Type 0} (xs : List A) → length xs ≡ 0 → xs ≡ []
empty [] e = refl
empty (x ∷ xs) e = absurd (omega arith)

-- lists that begin with each other
same-lists : (h h' : List Event) → StartsWith h h' → StartsWith h' h → h' ≡ h
same-lists h h' a b =
    let x = ap length a.1 ∙ length-append h' a.0 in
    let y = ap length b.1 ∙ length-append h b.0 in
    b.1 ∙ (ap (λ (l : List Event). h ++ l) (empty b.0 (omega arith)) ∙ append-nil h)

by_thread-append : (t : ℕ) (xs ys : List Event) → by_thread t (xs ++ ys) ≡ by_thread t xs ++ by_thread t ys
by_thread-append t [] ys = refl
by_thread-append t (x ∷ xs) ys = elim (eqb x.thread.0 t) as (λ b. cond b (x ∷ by_thread t (xs ++ ys)) (by_thread t (xs ++ ys)) ≡ cond b (x ∷ by_thread t xs) (by_thread t xs) ++ by_thread t ys)
    [ true ↦ ap (λ l. x ∷ l) (by_thread-append t xs ys) | false ↦ by_thread-append t xs ys ]

-- what follows the same front is the same
tail_of-same : (xs ys zs : List Event) → xs ++ ys ≡ xs ++ zs → ys ≡ zs
tail_of-same [] ys zs e = e
tail_of-same (x ∷ xs) ys zs e = tail_of-same xs ys zs (let f : xs ++ ys ≡ xs ++ zs = cc in f)

nothing : (x : Event) (xs : List Event) → x ∷ xs ≡ [] → ⊥
nothing x xs e = let f = ap length e in absurd (omega arith)

-- events of which no other thread has any are all by this thread
only-by : (zs : List Event) (n many : ℕ) → Each (λ i e. e.thread.0 < many) zs → ((j : ℕ) → j < many → j ≢ n → by_thread j zs ≡ []) → by_thread n zs ≡ zs
only-by [] n many low none = refl
only-by (e ∷ zs) n many low none = dite (ℕ_discrete e.thread.0 n)
    (λ is. ap (λ b. cond b (e ∷ by_thread n zs) (by_thread n zs)) (eq-eqb e.thread.0 n is)
    ∙ ap (λ l. e ∷ l) (only-by zs n many (λ i f at. low (suc i) f at) (λ j lo ne. sym (ap (λ b. cond b (e ∷ by_thread j zs) (by_thread j zs)) (ne_eqb e.thread.0 j (λ x. ne (sym x ∙ is)))) ∙ none j lo ne)))
    (λ ne. let t = e.thread.0 in absurd (nothing e (by_thread t zs) (sym (ap (λ b. cond b (e ∷ by_thread t zs) (by_thread t zs)) (eq-eqb t t refl)) ∙ none t (low 0 e refl) ne)))

at-tail_of : (xs ys : List Event) (i : ℕ) → get_elem? (xs ++ ys) (length xs + i) ≡ get_elem? ys i
at-tail_of [] ys i = ap (get_elem? ys) (let z : 0 + i ≡ i = omega arith in z)
at-tail_of (x ∷ xs) ys i = ap (get_elem? (x ∷ xs ++ ys)) (let z : suc (length xs) + i ≡ suc (length xs + i) = omega arith in z) ∙ at-tail_of xs ys i

module _ {T H : Type 0} where
  -- whoever has seen what some thread has, has the whole of a history that is the longest
  begun-by : (l : Layout) (log log' : List Event) (views views' : List (Part T H)) → ((k : ℕ) (r : Part T H) → get_elem? views k ≡ some r → StartsWith log' r.seen) → History l log views → StartsWith log' log
  begun-by l log log' views views' begins h = ⊎_elim
      (λ (e : log ≡ []). (log', ap (λ (l : List Event). l ++ log') (sym e)))
      (λ (t : (k : ℕ) × (r : Part T H) × (get_elem? views k ≡ some r) × (r.seen ≡ log)). subst (StartsWith log') t.3 (begins t.0 t.1 t.2)) h.longest

  pub one-log : (l : Layout) (log log' : List Event) (views : List (Part T H)) → History l log views → History l log' views → log' ≡ log
  one-log l log log' views h h' = same-lists log log' (begun-by l log' log views views h.begins h') (begun-by l log log' views views h'.begins h)

  pub step-log : (l : Layout) (log log' : List Event) (views views' : List (Part T H)) (n : ℕ) (p q : Part T H) (es : List Event) → IsStepOf n p q es views views'
      → History l log views → History l log' views' → log' ≡ log ++ es
  step-log l log log' views views' n p q es s h h' =
      let grown : StartsWith log' log = begun-by l log log' views views' (λ k r at'. dite (ℕ_discrete k n)
      (λ e. let same : p ≡ r = same_at views n p r s.before (ap (get_elem? views) (sym e) ∙ at') in let own = h'.begins n q s.after in
      (s.seen.0 ++ own.0, own.1 ∙ (ap (λ (l : List Event). l ++ own.0) (s.seen.1 ∙ ap (λ (z : Part T H). z.seen ++ s.seen.0) same) ∙ append_assoc r.seen s.seen.0 own.0)))
      (λ ne. let v = view k (at_within views k r at') in let o = s.others k v.0 v.1 ne in let same : o.0 ≡ r = same_at views k o.0 r o.1 at' in let own = h'.begins k v.0 v.1 in
      (o.2.seen.0 ++ own.0, own.1 ∙ (ap (λ (l : List Event). l ++ own.0) (o.2.seen.1 ∙ ap (λ (z : Part T H). z.seen ++ o.2.seen.0) same) ∙ append_assoc r.seen o.2.seen.0 own.0)))) h in
      let zs = grown.0 in
      let others : (j : ℕ) → j < length views → j ≢ n → by_thread j zs ≡ [] = λ j low ne. let v = view j low in let o = s.others j v.0 v.1 ne in
      tail_of-same (by_thread j log) (by_thread j zs) [] (sym (by_thread-append j log zs) ∙ (ap (by_thread j) (sym grown.1) ∙ (h'.own j v.0 v.1 ∙ (o.2.mine ∙ (sym (h.own j o.0 o.1) ∙ sym (append-nil (by_thread j log))))))) in
      let own : by_thread n zs ≡ es =
      tail_of-same (by_thread n log) (by_thread n zs) es (sym (by_thread-append n log zs) ∙ (ap (by_thread n) (sym grown.1) ∙ (h'.own n q s.after ∙ (s.mine ∙ ap (λ (l : List Event). l ++ es) (sym (h.own n p s.before)))))) in
      let people : Each (λ i e. e.thread.0 < length views) zs = λ i e there. subst (λ (z : ℕ). e.thread.0 < z) s.count
      (h'.people (length log + i) e (ap (λ (l : List Event). get_elem? l (length log + i)) grown.1 ∙ (at-tail_of log zs i ∙ there))) in
      grown.1 ∙ ap (λ (l : List Event). log ++ l) (sym (only-by zs n (length views) people others) ∙ own)
    where
      view : (j : ℕ) → j < length views → (r : Part T H) × (get_elem? views' j ≡ some r)
      view j low = let many = s.count in at_below views' j (omega arith)

pub step-state : (v : Version) (log log' : List Event) (state state' : Spec) (es : List Event) → IsRun v log state → IsRun v log' state' → log' ≡ log ++ es → Leads state es state'
step-state v log log' state state' es run run' is =
    let t = leads-split (at_first v) state' log es (subst (λ (l : List Event). Leads (at_first v) l state') is run') in
    subst (λ (z : Spec). Leads z es state') (leads-one (at_first v) t.0 state log t.1 run) t.2

module _ {T H : Type 0} where
  pub same-history : (l : Layout) (log log' : List Event) (state state' : Spec) (views : List (Part T H)) → History l log views → History l log' views → IsRun l.version log state → IsRun l.version log' state' → (log' ≡ log) × (state' ≡ state)
  same-history l log log' state state' views h h' run run' = let e = one-log l log log' views h h' in (e, leads-one (at_first l.version) state' state log (subst (λ (es : List Event). Leads (at_first l.version) es state') e run') run)
