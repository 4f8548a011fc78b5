-- An event of a run that made a test hold, which has held since.
use Rattle.std.proofs.Common.{◌≡◌, Bool, true, false, ◌⊎◌, inl, inr, List, [], ◌∷◌, ◌++◌, length, refl, ap, sym, subst, ◌∙◌, append_assoc}
use Rattle.larch_actions.specs.declared.event.Version.{Version}
use Rattle.larch_actions.specs.declared.event.Event.{Event}
use Rattle.larch_actions.specs.Actions.{Spec, acted, Acts, Leads, IsRun}
use Rattle.trace_board.specs.declared.history.Origin.{Origin}
use Rattle.trace_board.specs.History.{origin_of}
use Rattle.trace_board.specs.Laws.{HoldsAlong, IsMadeBy}

pub leads_push : (es : List Event) (s t : Spec) (e : Event) (u : Spec) → Leads s es t → Acts t e u → Leads s (es ++ e ∷ []) u
leads_push [] s t e u l a = (u, subst (λ x. Acts x e u) (sym l) a, refl)
leads_push (x ∷ es) s t e u l a = (l.0, l.1, leads_push es l.0 t e u l.2 a)

holds_push : (test : Spec → Bool) (es : List Event) (s t : Spec) (e : Event) (u : Spec) → Leads s es t → Acts t e u → test u ≡ true → HoldsAlong test s es → HoldsAlong test s (es ++ e ∷ [])
holds_push test [] s t e u l a y h = (h, ap (λ x. test (acted e.thread.0 x e.action)) l ∙ ap test (sym a.1) ∙ y)
holds_push test (x ∷ es) s t e u l a y h = (h.0, holds_push test es (acted x.thread.0 s x.action) t e u (subst (λ v. Leads v es t) l.1.1 l.2) a y h.1)

module _ (version : Version) (test : Spec → Bool) (es : List Event) (s : Spec) (e : Event) (u : Spec) (a : Acts s e u) (holds : test u ≡ true) where
  -- it was made to hold by this event
  made_new : IsRun version es s → test s ≡ false → IsMadeBy version test (es ++ e ∷ []) u (origin_of (length es) e)
  made_new r was = record { before = es; cause = e; since = []; old = s; new = u; split = refl; is = refl; ran = r; acts = a; leads = refl; was = was; holds = holds }

  -- it holds still
  made_on : (o : Origin) → IsMadeBy version test es s o → IsMadeBy version test (es ++ e ∷ []) u o
  made_on o m = record {
    before = m.before;
    cause = m.cause;
    since = m.since ++ e ∷ [];
    old = m.old;
    new = m.new;
    split = ap (λ x. x ++ e ∷ []) m.split ∙ append_assoc m.before (m.cause ∷ m.since) (e ∷ []);
    is = m.is;
    ran = m.ran;
    acts = m.acts;
    leads = leads_push m.since m.new s e u m.leads a;
    was = m.was;
    holds = holds_push test m.since m.new s e u m.leads a holds m.holds;
  }

  -- either
  pub made : (o : Origin) → IsRun version es s → (IsMadeBy version test es s o) ⊎ ((o ≡ origin_of (length es) e) × (test s ≡ false)) → IsMadeBy version test (es ++ e ∷ []) u o
  made o r (inl m) = made_on o m
  made o r (inr (same, was)) = subst (IsMadeBy version test (es ++ e ∷ []) u) (sym same) (made_new r was)
