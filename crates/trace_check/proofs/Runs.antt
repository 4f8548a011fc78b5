-- Runs: one more event, and parts.
use Rattle.std.proofs.Common.{◌≡◌, List, [], ◌∷◌, ◌++◌, refl, sym, subst, ◌∙◌}
use Rattle.larch_actions.specs.declared.event.Event.{Event}
use Rattle.larch_actions.specs.declared.event.Broken.{Broken}
use Rattle.larch_actions.specs.declared.event.Broken.TheVariants as broken
use Rattle.larch_actions.specs.Actions.{Spec, Acts, Fails, Leads}

pub leads-push : (s t u : Spec) (es : List Event) (e : Event) → Leads s es t → Acts t e u → Leads s (es ++ e ∷ []) u
leads-push s t u [] e r a = (u, subst (λ (z : Spec). Acts z e u) (sym r) a, refl)
leads-push s t u (x ∷ xs) e r a = (r.0, r.1, leads-push r.0 t u xs e r.2 a)

pub leads-split : (s u : Spec) (es tail : List Event) → Leads s (es ++ tail) u → (t : Spec) × Leads s es t × Leads t tail u
leads-split s u [] tail r = (s, refl, r)
leads-split s u (e ∷ es) tail r = let p = leads-split r.0 u es tail r.2 in (p.0, (r.0, r.1, p.1), p.2)

acts_same : (s t u : Spec) (e : Event) → Acts s e t → Acts s e u → t ≡ u
acts_same s t u e h k = h.1 ∙ sym k.1

-- events carry their choices, so a list leads to one state
pub leads_same : (s t u : Spec) (es : List Event) → Leads s es t → Leads s es u → t ≡ u
leads_same s t u [] r q = sym r ∙ q
leads_same s t u (e ∷ es) r q =
    let same = acts_same s r.0 q.0 e r.1 q.1 in
    leads_same q.0 t u es (subst (λ (z : Spec). Leads z es t) same r.2) q.2

fails_acts : (s t : Spec) (e : Event) (why : Broken) → Fails s e why → Acts s e t → ⊥
fails_acts s t e broken.Order f a = f (a.0.live, a.0.order)
fails_acts s t e broken.Requires f a = f.1 a.0.requires_met
fails_acts s t e broken.When f a = f.2 a.0.when_met
fails_acts s t e broken.Ensures f a = f.3 a.0.choice_met

-- an event has one clause that it fails first
pub fails_same : (s : Spec) (e : Event) (v w : Broken) → Fails s e v → Fails s e w → v ≡ w
fails_same s e broken.Order broken.Order f g = refl
fails_same s e broken.Order broken.Requires f g = absurd (f g.0)
fails_same s e broken.Order broken.When f g = absurd (f g.0)
fails_same s e broken.Order broken.Ensures f g = absurd (f g.0)
fails_same s e broken.Requires broken.Order f g = absurd (g f.0)
fails_same s e broken.Requires broken.Requires f g = refl
fails_same s e broken.Requires broken.When f g = absurd (f.1 g.1)
fails_same s e broken.Requires broken.Ensures f g = absurd (f.1 g.1)
fails_same s e broken.When broken.Order f g = absurd (g f.0)
fails_same s e broken.When broken.Requires f g = absurd (g.1 f.1)
fails_same s e broken.When broken.When f g = refl
fails_same s e broken.When broken.Ensures f g = absurd (f.2 g.2)
fails_same s e broken.Ensures broken.Order f g = absurd (g f.0)
fails_same s e broken.Ensures broken.Requires f g = absurd (g.1 f.1)
fails_same s e broken.Ensures broken.When f g = absurd (g.2 f.2)
fails_same s e broken.Ensures broken.Ensures f g = refl

-- a run to the state in which an event fails doesn't go on with it
pub no_run : (s last u : Spec) (es : List Event) (e : Event) (why : Broken) → Leads s (es ++ e ∷ []) u → Leads s es last → Fails last e why → ⊥
no_run s last u es e why r q f =
    let p = leads-split s u es (e ∷ []) r in
    let same : p.0 ≡ last = leads_same s p.0 last es p.1 q in
    let step : Acts last e p.2.0 = subst (λ (z : Spec). Acts z e p.2.0) same p.2.1 in
    fails_acts last p.2.0 e why f step
