-- Events whose sets of threads are kept in another way nest the same.
use Rattle.std.proofs.Common.{◌≡◌, ℕ, List, [], ◌∷◌, ◌++◌, length, refl, ap, sym, subst, ◌∙◌}
use Rattle.std.specs.List.{AllByRecursion}
use Rattle.larch_actions.specs.declared.event.Layout.{Layout}
use Rattle.larch_actions.specs.declared.event.Event.{Event}
use Rattle.larch_actions.specs.declared.event.Action.{Action}
use Rattle.larch_actions.specs.declared.event.Action.TheVariants.{Signal}
use Rattle.larch_actions.specs.Layout.{IsLawful, HasNames}
use Rattle.larch_actions.specs.Actions.{IsRun, at_first}
use Rattle.trace_core.proofs.Plain.{plain, plain_event}
use Rattle.trace_check.proofs.Alike.{plain_all, plain_append, length-plain_all, leads_plain, leads_back}
use Rattle.trace_check.proofs.Prefixes.{names-first}
use Rattle.lock_order.specs.Order.{got, Nests, StandsBefore, HasCycle}
use Rattle.lock_order.proofs.Linked.{cycle-map}

got_plain : (a : Action) → got (plain a) ≡ got a
got_plain (Signal c left) = refl
got_plain _ = refl

-- a split of what is made anew is one of the list
split_back : (es before : List Event) (x : Event) (after : List Event) → plain_all es ≡ before ++ x ∷ after
    → (b : List Event) × (y : Event) × (a : List Event) × (es ≡ b ++ y ∷ a) × (before ≡ plain_all b) × (x ≡ plain_event y)
split_back [] [] x after h = absurd (cc)
split_back [] (b ∷ bs) x after h = absurd (cc)
split_back (e ∷ es) [] x after h = let same : plain_event e ≡ x = cc in ([], e, es, refl, refl, sym same)
split_back (e ∷ es) (b ∷ bs) x after h =
    let same : plain_event e ≡ b = cc in
    let rest : plain_all es ≡ bs ++ x ∷ after = cc in
    let r = split_back es bs x after rest in
    (e ∷ r.0, r.1, r.2, ap (λ l. e ∷ l) r.3, ap (λ z. z ∷ bs) (sym same) ∙ ap (λ l. plain_event e ∷ l) r.4, r.5)

module _ (l : Layout) (ok : IsLawful l) (es : List Event) (named : AllByRecursion (HasNames l) es) where
  nests_plain : (m n t p : ℕ) → Nests es m n t p → Nests (plain_all es) m n t p
  nests_plain m n t p h =
      let names = names-first l h.before (h.event ∷ h.after) (subst (AllByRecursion (HasNames l)) h.split named) in record {
        before = plain_all h.before;
        event = plain_event h.event;
        after = plain_all h.after;
        version = h.version;
        state = h.state;
        split = ap plain_all h.split ∙ plain_append h.before (h.event ∷ h.after);
        run = leads_plain l ok (at_first h.version) h.state h.before names h.run;
        counted = h.counted ∙ sym (length-plain_all h.before);
        actor = h.actor;
        gets = got_plain h.event.action ∙ h.gets;
        holds = h.holds;
      }

  nests_back : (m n t p : ℕ) → Nests (plain_all es) m n t p → Nests es m n t p
  nests_back m n t p h =
      let s = split_back es h.before h.event h.after h.split in
      let names = names-first l s.0 (s.1 ∷ s.2) (subst (AllByRecursion (HasNames l)) s.3 named) in record {
        before = s.0;
        event = s.1;
        after = s.2;
        version = h.version;
        state = h.state;
        split = s.3;
        run = leads_back l ok (at_first h.version) h.state s.0 names (subst (λ b. IsRun h.version b h.state) s.4 h.run);
        counted = h.counted ∙ ap length s.4 ∙ length-plain_all s.0;
        actor = ap (λ (e : Event). e.thread.0) (sym s.5) ∙ h.actor;
        gets = sym (got_plain s.1.action) ∙ ap (λ (e : Event). got e.action) (sym s.5) ∙ h.gets;
        holds = h.holds;
      }

  pub cycle_plain : HasCycle es → HasCycle (plain_all es)
  cycle_plain c = (c.0, cycle-map (StandsBefore es) (StandsBefore (plain_all es)) (λ m n s. (s.0, s.1, nests_plain m n s.0 s.1 s.2)) c.0 c.1)

  pub cycle_back : HasCycle (plain_all es) → HasCycle es
  cycle_back c = (c.0, cycle-map (StandsBefore (plain_all es)) (StandsBefore es) (λ m n s. (s.0, s.1, nests_back m n s.0 s.1 s.2)) c.0 c.1)
