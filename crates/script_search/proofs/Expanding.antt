-- All that a thread may do next, by the line that it has before it.
use Rattle.std.proofs.Common.{◌≡◌, ◌⊎◌, inl, inr, ℕ, ◌+◌, ◌<◌, ◌≤◌, ◌||◌, Bool, true, false, List, refl, ap, subst, arith, Some, None}
use Rattle.std.specs.List.{slice_get}
use Rattle.larch_actions.specs.declared.event.Version.TheVariants.{One, Two}
use Rattle.larch_actions.specs.declared.event.Layout.{Layout}
use Rattle.larch_actions.specs.declared.event.Action.{Action}
use Rattle.larch_actions.specs.declared.event.Action.TheVariants as action
use Rattle.larch_actions.specs.declared.event.CondId.{CondId}
use Rattle.larch_actions.specs.declared.thread_set.ThreadSet.{ThreadSet}
use Rattle.larch_actions.specs.Sets.{in_set}
use Rattle.larch_actions.specs.Actions.{MeetsChoice, MayLeave}
use Rattle.script_text.specs.declared.line.Operation.{Operation}
use Rattle.script_text.specs.declared.line.Operation.TheVariants.{Signal}
use Rattle.script_text.specs.declared.line.Line.{Line}
use Rattle.script_text.specs.Runs.{event, lines_of}
use Rattle.script_plays.specs.declared.choice.Choice.{Choice}
use Rattle.script_plays.specs.Choices.{choices, three, MayMake}
use Rattle.script_search.specs.declared.found.Found.{Found}
use Rattle.script_search.specs.Boards.{Moment, spec_of, played_of, IsBoard}
use Rattle.script_search.specs.Tries.{IsSound, Tries, AreTried, Leaves}
use Rattle.script_search.proofs.Rows.{member_low}
use Rattle.script_search.proofs.Trying.{tries_none, tries_less, tries_both}
use Rattle.script_search.proofs.Choosing.{one_made, is_three, choices_few, event_is, made, over_none, only_end}

module _ (l : Layout) (xs : List Line) (m : Moment) (f g : Found) (t : ℕ) where
  -- after its last line a thread of version one does nothing, and one of version two ends
  pub tries_over : IsSound l xs f → slice_get (lines_of t xs) (played_of m t) ≡ None → l.version ≡ One → Tries l xs f f m (λ e. e.thread.0 ≡ t) false
  tries_over sound past one =
      tries_less l xs m f f (λ e. ⊥) (λ e. e.thread.0 ≡ t) false
      (λ e s own goes. over_none l xs m t past one e s own goes)
      (tries_none l xs m f sound)

  pub tries_end : (r : Bool) → slice_get (lines_of t xs) (played_of m t) ≡ None → l.version ≡ Two → Tries l xs f g m (λ e. e ≡ event t action.End) r → Tries l xs f g m (λ e. e.thread.0 ≡ t) r
  tries_end r past two tries =
      tries_less l xs m f g (λ e. e ≡ event t action.End) (λ e. e.thread.0 ≡ t) r
      (λ e s own goes. only_end l xs m t past two e s own goes)
      tries

  module _ (x : Line) (there : slice_get (lines_of t xs) (played_of m t) ≡ Some x) where
    -- at a line that is no signal it has the choices of the line
    pub tries_line : (r : Bool) → ((c : CondId) → x.operation ≡ Signal c → ⊥) → Tries l xs f g m (AreTried t (three (choices x.operation))) r → Tries l xs f g m (λ e. e.thread.0 ≡ t) r
    tries_line r other tries =
        tries_less l xs m f g (AreTried t (three (choices x.operation))) (λ e. e.thread.0 ≡ t) r
        (λ e s own goes.
        let choice : Choice = record { action = e.action; turn = goes.turn } in
        let place = is_three (choices x.operation) choice (choices_few x.operation) (one_made x.operation choice (made l xs m t x there e s own goes) other) in
        (place.0, choice, place.1, event_is e t e.action own refl))
        tries

    -- at a signal each set that it may leave
    pub tries_signal : (r : Bool) (c : CondId) (empty : ThreadSet) → IsBoard l m → x.operation ≡ Signal c → Tries l xs f g m (Leaves m l.threads t c empty 0) r → Tries l xs f g m (λ e. e.thread.0 ≡ t) r
    tries_signal r c empty board is tries =
        tries_less l xs m f g (Leaves m l.threads t c empty 0) (λ e. e.thread.0 ≡ t) r
        (λ e s own goes.
        let choice : Choice = record { action = e.action; turn = goes.turn } in
        let make = subst (λ (o : Operation). MayMake o choice) is (made l xs m t x there e s own goes) in
        let act = ap (λ (z : Choice). z.action) make.1 in
        let left = subst (λ (a : Action). MeetsChoice e.thread.0 (spec_of m) a) act goes.acts.0.choice_met in
        record {
          set = make.0;
          event_is = event_is e t (action.Signal c make.0) own act;
          agrees = λ u below. absurd (omega arith);
          within = λ u has.
              let inside = inside_of u make.0 left has in
              let low = member_low m.threads c.0 u inside in
              let size = board.threads in
              (omega (arith, low, size), inside);
        })
        tries
      where
        inside_of : (u : ℕ) (set : ThreadSet) → MayLeave ((spec_of m).members c.0) (in_set set) → in_set set u ≡ true → (spec_of m).members c.0 u ≡ true
        inside_of u set may has = elim may [ inl bare ↦ absurd (cc (bare u)) | inr part ↦ part.0 u has ]

-- one thread more
pub tries_further : (l : Layout) (xs : List Line) (m : Moment) (f g h : Found) (t : ℕ) (r q : Bool) → Tries l xs f g m (λ e. e.thread.0 < t) r → Tries l xs g h m (λ e. e.thread.0 ≡ t) q
    → Tries l xs f h m (λ e. e.thread.0 < t + 1) (r || q)
tries_further l xs m f g h t r q x y =
    tries_less l xs m f h (λ e. e.thread.0 < t ⊎ e.thread.0 ≡ t) (λ e. e.thread.0 < t + 1) (r || q) (λ e s low goes. by e.thread.0 low)
    (tries_both l xs m f g h (λ e. e.thread.0 < t) (λ e. e.thread.0 ≡ t) r q x y)
  where
    by : (u : ℕ) → u < t + 1 → (u < t) ⊎ (u ≡ t)
    by u low = grind arith

-- no thread at first, and all at the end
pub tries_first : (l : Layout) (xs : List Line) (m : Moment) (f : Found) → IsSound l xs f → Tries l xs f f m (λ e. e.thread.0 < 0) false
tries_first l xs m f sound = tries_less l xs m f f (λ e. ⊥) (λ e. e.thread.0 < 0) false (λ e s low goes. omega arith) (tries_none l xs m f sound)

pub tries_all : (l : Layout) (xs : List Line) (m : Moment) (f g : Found) (t : ℕ) (r : Bool) → l.threads ≤ t → Tries l xs f g m (λ e. e.thread.0 < t) r → Tries l xs f g m (λ e. Unit {0}) r
tries_all l xs m f g t r all x = tries_less l xs m f g (λ e. e.thread.0 < t) (λ e. Unit {0}) r (λ e s u goes. let low = goes.thread in omega (arith, all, low)) x
