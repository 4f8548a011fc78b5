-- The printed text under equal names.
use Rattle.std.proofs.Common.{◌≡◌, ℕ, ◌≤◌, List, [], ◌∷◌, Option, Some, ap, subst, ◌∙◌, arith}
use Rattle.larch_actions.specs.declared.event.Event.{Event}
use Rattle.larch_actions.specs.declared.event.Layout.{Layout}
use Rattle.larch_actions.specs.Layout.{IsLawful, layout_of}
use Rattle.trace_core.specs.Text.{ReadsAs, trace_text}
use Rattle.trace_core.specs.Whole.{numbered}

pub same_some : {A : Type 0} (o : Option A) (x y : A) → o ≡ Some x → o ≡ Some y → x ≡ y
same_some o x y p q = cc

-- what holds of the trace holds of the history
pub at_trace : {A : Type 0} (P : A → Type 0) (trace : Option A) (h : A) → trace ≡ Some h → (x : A) × (trace ≡ Some x) × P x → P h
at_trace P trace h is x = subst P (same_some trace x.0 h x.1 is) x.2

pub three_same : (a b c x y z : ℕ) → (a ≡ x) × (b ≡ y) × (c ≡ z) → a ∷ b ∷ c ∷ [] ≡ x ∷ y ∷ z ∷ []
three_same a b c x y z e = ap (λ k. k ∷ b ∷ c ∷ []) e.0 ∙ (ap (λ k. x ∷ k ∷ c ∷ []) e.1 ∙ ap (λ k. x ∷ y ∷ k ∷ []) e.2)

pub under_names : (P : List ℕ → Type 0) (k l : Layout) (es h : List Event) (vs ws : List ℕ) → k ≡ l → es ≡ h → vs ≡ ws → P (trace_text k es (numbered 0 vs)) → P (trace_text l h (numbered 0 ws))
under_names P k l es h vs ws el eh ev p =
    subst (λ z. P (trace_text z h (numbered 0 ws))) el (subst (λ z. P (trace_text k z (numbered 0 ws))) eh (subst (λ z. P (trace_text k es (numbered 0 z))) ev p))

pub reads_names : (k l : Layout) (es h : List Event) (vs ws : List ℕ) → k ≡ l → es ≡ h → vs ≡ ws → ReadsAs (trace_text k es (numbered 0 vs)) k es (numbered 0 vs) → ReadsAs (trace_text l h (numbered 0 ws)) l h (numbered 0 ws)
reads_names k l es h vs ws el eh ev p =
    subst (λ z. ReadsAs (trace_text z h (numbered 0 ws)) z h (numbered 0 ws)) el
    (subst (λ z. ReadsAs (trace_text k z (numbered 0 ws)) k z (numbered 0 ws)) eh (subst (λ z. ReadsAs (trace_text k es (numbered 0 z)) k es (numbered 0 z)) ev p))

pub lawful : (n : ℕ) → 1 ≤ n → n ≤ 64 → IsLawful (layout_of n 3 1 0)
lawful n some few = record { some = some; threads = few; mutexes = omega arith; conditions = omega arith; semaphores = omega arith }
