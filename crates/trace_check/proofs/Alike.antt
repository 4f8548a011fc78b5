-- Events whose sets of threads are kept in another way are as good: their lines, and what they do.
use Rattle.std.proofs.Common.{◌≡◌, ℕ, suc, ◌+◌, Bool, List, [], ◌∷◌, ◌++◌, length, refl, ap, sym, subst, ◌∙◌}
use Rattle.std.specs.List.{AllByRecursion}
use Rattle.larch_actions.specs.declared.event.Layout.{Layout}
use Rattle.larch_actions.specs.declared.event.Event.{Event}
use Rattle.larch_actions.specs.declared.event.ThreadId.{ThreadId}
use Rattle.larch_actions.specs.declared.event.CondId.{CondId}
use Rattle.larch_actions.specs.declared.event.Action.{Action}
use Rattle.larch_actions.specs.declared.event.Action.TheVariants.{Signal}
use Rattle.larch_actions.specs.declared.event.Broken.{Broken}
use Rattle.larch_actions.specs.declared.event.Broken.TheVariants as broken
use Rattle.larch_actions.specs.declared.thread_set.ThreadSet.{ThreadSet}
use Rattle.larch_actions.specs.Layout.{IsLawful, IsNamed, HasNames}
use Rattle.larch_actions.specs.Sets.{in_set}
use Rattle.larch_actions.specs.Actions.{Spec, MayLeave, Acts, Fails, Leads, put}
use Rattle.trace_core.specs.Made.{IsMade}
use Rattle.trace_core.specs.Whole.{event_lines}
use Rattle.trace_core.specs.Text.{event_line}
use Rattle.trace_core.proofs.Plain.{plain, plain_event, plain_is_read, plain_line, same_threads}

-- an event with lawful names as reading makes it
abbrev pub IsReadable : Layout → Event → Type 0
IsReadable l e = HasNames l e × IsMade e.action

abbrev pub AreReadable : Layout → List Event → Type 0
AreReadable l es = AllByRecursion (IsReadable l) es

pub readable : (l : Layout) (es : List Event) → AllByRecursion (HasNames l) es → AllByRecursion (λ (e : Event). IsMade e.action) es → AreReadable l es
readable l [] named made = tt
readable l (e ∷ es) named made = ((named.0, made.0), readable l es named.1 made.1)

abbrev pub plain_all : List Event → List Event
plain_all [] = []
plain_all (e ∷ es) = plain_event e ∷ plain_all es

pub plain_append : (es ds : List Event) → plain_all (es ++ ds) ≡ plain_all es ++ plain_all ds
plain_append [] ds = refl
plain_append (e ∷ es) ds = ap (λ l. plain_event e ∷ l) (plain_append es ds)

pub length-plain_all : (es : List Event) → length (plain_all es) ≡ length es
length-plain_all [] = refl
length-plain_all (e ∷ es) = ap suc (length-plain_all es)

module _ (l : Layout) (ok : IsLawful l) where
  pub plain_readable : (es : List Event) → AllByRecursion (HasNames l) es → AreReadable l (plain_all es)
  plain_readable [] h = tt
  plain_readable (e ∷ es) h = (plain_is_read l ok e h.0, plain_readable es h.1)

  pub plain_names : (es : List Event) → AllByRecursion (HasNames l) es → AllByRecursion (HasNames l) (plain_all es)
  plain_names [] h = tt
  plain_names (e ∷ es) h = ((plain_is_read l ok e h.0).0, plain_names es h.1)

  pub plain_lines : (n : ℕ) (es : List Event) → AllByRecursion (HasNames l) es → event_lines n (plain_all es) ≡ event_lines n es
  plain_lines n [] h = refl
  plain_lines n (e ∷ es) h = ap (λ t. t ++ event_lines (n + 1) (plain_all es)) (plain_line l ok n e h.0) ∙ ap (λ t. event_line n e ++ t) (plain_lines (n + 1) es h.1)

-- a Signal by its thread, its condition and the threads that stay
abbrev signal : ThreadId → CondId → ThreadSet → Event
signal t c left = record { thread = t; action = Signal c left }

signal_acts : (s u : Spec) (t : ThreadId) (c : CondId) (x y : ThreadSet) → in_set x ≡ in_set y → Acts s (signal t c x) u → Acts s (signal t c y) u
signal_acts s u t c x y same (may, is) = (
  record {
    live = may.live;
    order = may.order;
    requires_met = may.requires_met;
    when_met = may.when_met;
    choice_met = subst (MayLeave (s.members c.0)) same may.choice_met;
  },
  is ∙ ap (λ (left : ℕ → Bool). record s { members = put s.members c.0 left }) same,
)

signal_fails : (s : Spec) (t : ThreadId) (c : CondId) (x y : ThreadSet) (why : Broken) → in_set x ≡ in_set y → Fails s (signal t c x) why → Fails s (signal t c y) why
signal_fails s t c x y broken.Ensures same f = (f.0, f.1, f.2, λ m. f.3 (subst (MayLeave (s.members c.0)) (sym same) m))
signal_fails s t c x y _ same f = f

module _ (l : Layout) (ok : IsLawful l) where
  acts_plain : (s u : Spec) (t : ThreadId) (a : Action) → IsNamed l a → Acts s (record { thread = t; action = a }) u → Acts s (record { thread = t; action = plain a }) u
  acts_plain s u t (Signal c left) h k = signal_acts s u t c left _ (sym (same_threads l ok left h.1)) k
  acts_plain s u t _ h k = k

  acts_back : (s u : Spec) (t : ThreadId) (a : Action) → IsNamed l a → Acts s (record { thread = t; action = plain a }) u → Acts s (record { thread = t; action = a }) u
  acts_back s u t (Signal c left) h k = signal_acts s u t c _ left (same_threads l ok left h.1) k
  acts_back s u t _ h k = k

  fails_plain_at : (s : Spec) (t : ThreadId) (a : Action) (why : Broken) → IsNamed l a → Fails s (record { thread = t; action = a }) why → Fails s (record { thread = t; action = plain a }) why
  fails_plain_at s t (Signal c left) why h k = signal_fails s t c left _ why (sym (same_threads l ok left h.1)) k
  fails_plain_at s t _ why h k = k

  pub fails_plain : (s : Spec) (e : Event) (why : Broken) → HasNames l e → Fails s e why → Fails s (plain_event e) why
  fails_plain s e why h k = fails_plain_at s e.thread e.action why h.1 k

  pub leads_plain : (s u : Spec) (es : List Event) → AllByRecursion (HasNames l) es → Leads s es u → Leads s (plain_all es) u
  leads_plain s u [] h r = r
  leads_plain s u (e ∷ es) h r = (r.0, acts_plain s r.0 e.thread e.action h.0.1 r.1, leads_plain r.0 u es h.1 r.2)

  pub leads_back : (s u : Spec) (es : List Event) → AllByRecursion (HasNames l) es → Leads s (plain_all es) u → Leads s es u
  leads_back s u [] h r = r
  leads_back s u (e ∷ es) h r = (r.0, acts_back s r.0 e.thread e.action h.0.1 r.1, leads_back r.0 u es h.1 r.2)
