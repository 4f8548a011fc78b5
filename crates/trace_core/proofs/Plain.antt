-- An action as reading its text gives it: a set of threads that is kept in another way is made anew.
use Rattle.std.proofs.Common.{◌≡◌, ℕ, ◌<◌, ◌++◌, refl, ap, sym, ◌∙◌, true, false}
use Rattle.std.specs.Prelude.{codes, decimal}
use Rattle.larch_actions.specs.declared.event.Layout.{Layout}
use Rattle.larch_actions.specs.declared.event.Event.{Event}
use Rattle.larch_actions.specs.declared.event.Action.{Action}
use Rattle.larch_actions.specs.declared.event.Action.TheVariants.{Signal, TestAlert}
use Rattle.larch_actions.specs.declared.kind.Kind.TheVariants.{Condition, Thread}
use Rattle.larch_actions.specs.declared.thread_set.ThreadSet.{ThreadSet}
use Rattle.larch_actions.specs.Layout.{IsLawful, IsNamed, HasNames}
use Rattle.larch_actions.specs.Sets.{in_set}
use Rattle.larch_actions.proofs.Names.{few_of}
use Rattle.trace_core.specs.Made.{IsMade}
use Rattle.trace_core.specs.Names.{set_from}
use Rattle.trace_core.specs.Text.{action_text, event_line, newline, names_text, with_name, members}
use Rattle.trace_core.proofs.Members.{rising-members, in_set-members, members-set_from}

abbrev pub plain : Action → Action
plain (Signal c left) = Signal c (set_from (members left))
plain a = a

abbrev pub plain_event : Event → Event
plain_event e = record { thread = e.thread; action = plain e.action }

-- the names are those of the set that is made anew
names_again : (l : Layout) → IsLawful l → (left : ThreadSet) → ((t : ℕ) → in_set left t ≡ true → t < l.threads) → members (set_from (members left)) ≡ members left
names_again l ok left low = members-set_from l.threads (members left) (few_of l ok Thread) (rising-members left l.threads low)

made_so : (l : Layout) → IsLawful l → (a : Action) → IsNamed l a → IsMade (plain a)
made_so l ok (Signal c left) h = ap set_from (sym (names_again l ok left h.1))
made_so l ok (TestAlert true) h = tt
made_so l ok (TestAlert false) h = tt
made_so l ok _ h = tt

-- the set that is made anew has the same threads
pub same_threads : (l : Layout) → IsLawful l → (left : ThreadSet) → ((t : ℕ) → in_set left t ≡ true → t < l.threads) → in_set (set_from (members left)) ≡ in_set left
same_threads l ok left low = λ i t. in_set-members left l.threads (few_of l ok Thread) low t i

named_so : (l : Layout) → IsLawful l → (a : Action) → IsNamed l a → IsNamed l (plain a)
named_so l ok (Signal c left) h = (h.0, λ t is. h.1 t (sym (in_set-members left l.threads (few_of l ok Thread) h.1 t) ∙ is))
named_so l ok _ h = h

text_so : (l : Layout) → IsLawful l → (a : Action) → IsNamed l a → action_text (plain a) ≡ action_text a
text_so l ok (Signal c left) h = ap (λ ns. with_name (codes "signal") Condition c.0 ++ codes " left" ++ names_text ns) (names_again l ok left h.1)
text_so l ok _ h = refl

-- so it is as the lines that are read have it
pub plain_is_read : (l : Layout) → IsLawful l → (e : Event) → HasNames l e → HasNames l (plain_event e) × IsMade (plain e.action)
plain_is_read l ok e h = ((h.0, named_so l ok e.action h.1), made_so l ok e.action h.1)

pub plain_line : (l : Layout) → IsLawful l → (n : ℕ) (e : Event) → HasNames l e → event_line n (plain_event e) ≡ event_line n e
plain_line l ok n e h = ap (λ t. decimal n ++ codes " t" ++ decimal e.thread.0 ++ codes " " ++ t ++ newline) (text_so l ok e.action h.1)
