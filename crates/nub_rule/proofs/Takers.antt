-- In a run those who take a mutex are those who give it back, and then its holder.
use Rattle.std.proofs.Common.{Bool, true, false, cond, eqb, ◌≡◌, ℕ, List, [], ◌∷◌, ◌++◌, map, refl, sym, ap, ◌∙◌, append-nil, append_assoc, eq-eqb, ne_eqb}
use Rattle.std.specs.Prelude.{filter}
use mathlib.Core.Logic.{dite}
use mathlib.Core.Option.{Option, some, none}
use native.Mathlib.Decide.{ℕ_discrete}
use Rattle.larch_actions.specs.declared.event.Event.{Event}
use Rattle.larch_actions.specs.declared.event.Version.{Version}
use Rattle.larch_actions.specs.declared.event.Action.{Action}
use Rattle.larch_actions.specs.declared.event.Action.TheVariants.{Acquire, Release, Enqueue, Resume, AlertEnqueue, AlertReturn, AlertRaise}
use Rattle.larch_actions.specs.Actions.{Spec, IsClosed, Leads, MeetsRequires, MeetsWhen, acted, at_first, put}
use Rattle.larch_actions.specs.Takers.{gives, givers, takes, takers}
use Rattle.nub_rule.proofs.Each.{put-at, put-else}

abbrev listed : Option ℕ → List ℕ
listed none = []
listed (some n) = n ∷ []

-- the mutex x, which nobody holds, is taken
taking : (holder : ℕ → Option ℕ) (m x t : ℕ) → holder x ≡ none → listed (holder m) ++ cond (eqb x m) (t ∷ []) [] ≡ listed (put holder x (some t) m)
taking holder m x t free = dite (ℕ_discrete x m)
    (λ e. (λ i. listed ((ap holder (sym e) ∙ free) i) ++ cond (eq-eqb x m e i) (t ∷ []) []) ∙ ap listed (sym (put-at holder x (some t) m (sym e))))
    (λ ne. ap (λ b. listed (holder m) ++ cond b (t ∷ []) []) (ne_eqb x m ne) ∙ (append-nil (listed (holder m)) ∙ ap listed (sym (put-else holder x m (some t) (λ e. ne (sym e))))))

-- the mutex x is given back by its holder
giving : (holder : ℕ → Option ℕ) (m x t : ℕ) → holder x ≡ some t → listed (holder m) ++ [] ≡ cond (eqb x m) (t ∷ []) [] ++ listed (put holder x none m)
giving holder m x t has = append-nil (listed (holder m)) ∙ dite (ℕ_discrete x m)
    (λ e. ap listed (ap holder (sym e) ∙ has) ∙ (λ i. cond (sym (eq-eqb x m e) i) (t ∷ []) [] ++ listed (sym (put-at holder x none m (sym e)) i)))
    (λ ne. (λ i. cond (sym (ne_eqb x m ne) i) (t ∷ []) [] ++ listed (sym (put-else holder x m none (λ e. ne (sym e))) i)))

one-taken : (m t : ℕ) (s : Spec) (a : Action) → MeetsRequires t s a → MeetsWhen t s a → listed (s.holder m) ++ cond (takes m a) (t ∷ []) [] ≡ cond (gives m a) (t ∷ []) [] ++ listed ((acted t s a).holder m)
one-taken m t s (Acquire x) must when = taking s.holder m x.0 t when
one-taken m t s (Release x) must when = giving s.holder m x.0 t must
one-taken m t s (Enqueue x c) must when = giving s.holder m x.0 t must
one-taken m t s (Resume x c) must when = taking s.holder m x.0 t when.0
one-taken m t s (AlertEnqueue x c) must when = giving s.holder m x.0 t must
one-taken m t s (AlertReturn x c) must when = taking s.holder m x.0 t when.0
one-taken m t s (AlertRaise x c) must when = taking s.holder m x.0 t when.0
one-taken m t s _ must when = append-nil (listed (s.holder m))

-- one event more at the front
front : (test : Action → Bool) (e : Event) (es : List Event) → map (λ (e : Event). e.thread.0) (filter (λ (e : Event). test e.action) (e ∷ es)) ≡ cond (test e.action) (e.thread.0 ∷ []) [] ++ map (λ (e : Event). e.thread.0) (filter (λ (e : Event). test e.action) es)
front test e es = elim (test e.action) as (λ b. map (λ (e : Event). e.thread.0) (cond b (e ∷ filter (λ (e : Event). test e.action) es) (filter (λ (e : Event). test e.action) es)) ≡ cond b (e.thread.0 ∷ []) [] ++ map (λ (e : Event). e.thread.0) (filter (λ (e : Event). test e.action) es)) [ true ↦ refl | false ↦ refl ]

all-taken : (m : ℕ) (s t : Spec) (es : List Event) → Leads s es t → listed (s.holder m) ++ takers m es ≡ givers m es ++ listed (t.holder m)
all-taken m s t [] is = append-nil (listed (s.holder m)) ∙ ap (λ (z : Spec). listed (z.holder m)) is
all-taken m s t (e ∷ es) is = let u : Spec = is.0 in let n : ℕ = e.thread.0 in let h : List ℕ = listed (s.holder m) in
    let took : List ℕ = cond (takes m e.action) (n ∷ []) [] in let gave : List ℕ = cond (gives m e.action) (n ∷ []) [] in
    let now : h ++ took ≡ gave ++ listed (u.holder m) = one-taken m n s e.action is.1.0.requires_met is.1.0.when_met ∙ ap (λ (z : Spec). gave ++ listed (z.holder m)) (sym is.1.1) in
    ap (λ l. h ++ l) (front (takes m) e es) ∙ (sym (append_assoc h took (takers m es)) ∙ (ap (λ l. l ++ takers m es) now ∙ (append_assoc gave (listed (u.holder m)) (takers m es)
    ∙ (ap (λ l. gave ++ l) (all-taken m u t es is.2) ∙ (sym (append_assoc gave (givers m es) (listed (t.holder m))) ∙ ap (λ l. l ++ listed (t.holder m)) (sym (front (gives m) e es)))))))

-- in a closed list those who take a mutex are those who give it back
pub takers-are : (version : Version) (h : List Event) → IsClosed version h → (m : ℕ) → takers m h ≡ givers m h
takers-are version h is m = all-taken m (at_first version) is.0 h is.1 ∙ (ap (λ (o : Option ℕ). givers m h ++ listed o) (is.2 m) ∙ append-nil (givers m h))
