-- The event with whose chain one board leads to another is among those that are tried again.
use Rattle.std.proofs.Common.{Vec, Global, ◌++◌, ◌≡◌, ◌↔◌, IsTrue, inl, inr, ℕ, ◌+◌, ◌<◌, ◌≤◌, Bool, true, false, cond, eq-eqb, List, [], ◌∷◌, length, get_or, refl, sym, ap, subst, ◌∙◌, arith, Some, None, Option}
use Rattle.std.specs.List.{slice_get}
use Rattle.std.proofs.lemmas.Option.{slice_get-get_or}
use mathlib.Core.Logic.{dite}
use native.Mathlib.Decide.{ℕ_discrete}
use Rattle.larch_actions.specs.declared.event.Version.{Version}
use Rattle.larch_actions.specs.declared.event.Version.TheVariants.{One, Two}
use Rattle.larch_actions.specs.declared.event.Layout.{Layout}
use Rattle.larch_actions.specs.declared.event.Event.{Event}
use Rattle.larch_actions.specs.declared.event.Action.{Action}
use Rattle.larch_actions.specs.declared.event.Action.TheVariants as action
use Rattle.larch_actions.specs.declared.event.CondId.{CondId}
use Rattle.larch_actions.specs.declared.thread_set.ThreadSet.{ThreadSet}
use Rattle.larch_actions.specs.Sets.{in_set}
use Rattle.larch_actions.specs.Actions.{Spec, acted}
use Rattle.script_text.specs.declared.line.Operation.{Operation}
use Rattle.script_text.specs.declared.line.Operation.TheVariants.{Signal}
use Rattle.script_text.specs.declared.line.Line.{Line}
use Rattle.script_text.specs.Text.{IsScript}
use Rattle.script_text.specs.Runs.{event, lines_of}
use Rattle.script_plays.specs.declared.choice.Choice.{Choice}
use Rattle.script_plays.specs.Choices.{choices, three, next, stays, MayMake, IsOneOf}
use Rattle.script_plays.specs.Scenes.{Scene}
use Rattle.script_plays.specs.Plays.{Goes}
use Rattle.script_plays.proofs.Scened.{goes_one}
use Rattle.script_search.specs.declared.board.Board.{Board}
use Rattle.script_search.specs.Boards.{Moment, moment_of, spec_of, scene_of, played_of, IsBoard}
use Rattle.script_search.specs.Chains.{IsChain, Chains}
use Rattle.script_search.specs.Keys.{key_of}
use Rattle.script_search.specs.Moves.{Moves}
use Rattle.script_search.specs.Tries.{MayTry}
use Rattle.script_search.specs.Ways.{Leads, LeadsBy, IsStep, IsWay, AreWays, last_choices}
use Rattle.script_search.proofs.Unpacked.{same_key}
use Rattle.script_search.proofs.Growing.{same_scene}
use Rattle.script_search.proofs.Tells.{fails, below}
use Rattle.script_search.proofs.Planning.{before_end}
use Rattle.script_search.proofs.Rows.{member_low}
use Rattle.script_search.proofs.Trying.{goes_alike, some_same, moved_goes}
use Rattle.script_search.proofs.Chaining.{chain_plays, chain_members, chain_one}
use Rattle.script_search.proofs.Choosing.{one_made, is_three, three_is, choices_few, event_is, made, may_choices, may_signal, may_end, over_none, only_end}

-- below the thread n the set has those that are in the condition, and from it on none
pub record Gathers (m : Moment) (c : ℕ) (set : ThreadSet) (n : ℕ) : Type 0 where
  pub within : (u : ℕ) → u < n → in_set set u ≡ (spec_of m).members c u
  pub beyond : (u : ℕ) → n ≤ u → in_set set u ≡ false

-- no thread past the last is in a condition
not_beyond : (m : Moment) (c u : ℕ) (b : Bool) → length m.threads ≤ u → (spec_of m).members c u ≡ b → (spec_of m).members c u ≡ false
not_beyond m c u true past is = absurd (omega (arith, past, member_low m.threads c u is))
not_beyond m c u false past is = is

pub gathers_all : (l : Layout) (m : Moment) (c n : ℕ) (set : ThreadSet) → IsBoard l m → l.threads ≤ n → Gathers m c set n → (u : ℕ) → in_set set u ≡ (spec_of m).members c u
gathers_all l m c n set board all g u = elim (below u n) [
  | inl low ↦ g.within u low
  | inr past ↦ g.beyond u past ∙ sym (not_beyond m c u ((spec_of m).members c u) (omega (arith, past, all, board.threads)) refl)
]

-- an event that may not come leads nowhere
pub leads_none : (l : Layout) (xs : List Line) (m n : Moment) (e : Event) (o : Option Board) → Moves l xs m e o → o ≡ None → (f : Event) → f ≡ e → Leads l xs m n f → ⊥
leads_none l xs m n e o moves is f same leads =
    let none = subst (λ (z : Option Board). Moves l xs m e z) is moves in
    none leads.0 (subst (λ (z : Event). Goes l xs (scene_of m) z leads.0) same leads.2)

-- one that may come leads to the other moment if the board at the end of its chain has the other's numbers, and only then
module _ (l : Layout) (xs : List Line) (m n : Moment) (e : Event) (o : Option Board) (b : Board) (end : Moment) (first events : List Event) (same : Bool)
    (board : IsBoard l n) (moves : Moves l xs m e o) (is : o ≡ Some b) (chains : Chains l xs (moment_of b) first events end) (tells : IsTrue same ↔ (key_of end ≡ key_of n)) where
  pub leads_there : first ≡ e ∷ [] → same ≡ true → LeadsBy l xs m n events
  leads_there one on =
      let there = same_key l end n chains.3 board (tells.0 on) in
      let all = chains.1 ∙ ap (λ (z : List Event). z ++ chains.0) one in
      subst (λ (z : List Event). LeadsBy l xs m n z) (sym all)
      (subst (λ (z : Moment). LeadsBy l xs m z (e ∷ chains.0)) there
      (scene_of (moment_of b), (moved_goes l xs m e o b moves is).0, chain_plays l xs (scene_of (moment_of b)) chains.0 (scene_of end) chains.2))

  pub leads_elsewhere : IsScript l xs → same ≡ false → (f : Event) → f ≡ e → Leads l xs m n f → ⊥
  leads_elsewhere script off f is_e leads =
      let goes = subst (λ (z : Event). Goes l xs (scene_of m) z leads.0) is_e leads.2 in
      let between = goes_one l xs (scene_of m) e leads.0 (scene_of (moment_of b)) goes (moved_goes l xs m e o b moves is).0 in
      let chain = subst (λ (z : Scene). IsChain l xs z leads.1 (scene_of n)) between leads.3 in
      let there = chain_one l xs script (scene_of (moment_of b)) chains.0 leads.1 (scene_of end) (scene_of n) chains.2 chain in
      fails same (key_of end ≡ key_of n) tells off (ap key_of (same_scene l end n chains.3 board there))

three_long : (cs : List Choice) → length (three cs) ≡ 3
three_long [] = refl
three_long (a ∷ []) = refl
three_long (a ∷ b ∷ []) = refl
three_long (a ∷ b ∷ c ∷ rest) = refl

only_one : (x c : Choice) → IsOneOf (x ∷ []) c → c ≡ x
only_one x c one = elim one [ inl is ↦ is | inr none ↦ absurd none ]

module _ (l : Layout) (xs : List Line) (m n : Moment) (t : ℕ) where
  -- each choice of which there are few is one of three
  way_of : (cs : List Choice) (c : Choice) → length cs ≤ 3 → IsOneOf cs c → Leads l xs m n (event t c.action) → (k : ℕ) × (d : Choice) × IsWay l xs m n t (three cs) k d
  way_of cs c few one goes = let place = is_three cs c few one in (place.0, c, (place.1, goes))

  leads_at : (e : Event) (a : Action) → e ≡ event t a → Leads l xs m n e → Leads l xs m n (event t a)
  leads_at e a is goes = subst (λ (z : Event). Leads l xs m n z) is goes

  module _ (past : slice_get (lines_of t xs) (played_of m t) ≡ None) where
    pub ways_last : t < l.threads → (v : Version) → l.version ≡ v → AreWays l xs m n t (three (last_choices v))
    ways_last low One is = record {
      size = refl;
      may = λ k c at. absurd (three_is [] k c at);
      all = λ e own goes. absurd (over_none l xs m t past is e goes.0 own goes.2);
    }
    ways_last low Two is = record {
      size = refl;
      may = λ k c at. subst (λ (z : Choice). MayTry l xs m t z) (sym (only_one (stays action.End) c (three_is (stays action.End ∷ []) k c at))) (may_end l xs m t past low is);
      all = λ e own goes. way_of (stays action.End ∷ []) (stays action.End) (omega arith) (inl refl) (leads_at e action.End (only_end l xs m t past is e goes.0 own goes.2) goes);
    }

  module _ (x : Line) (script : IsScript l xs) (there : slice_get (lines_of t xs) (played_of m t) ≡ Some x) where
    pub ways_line : ((c : CondId) → x.operation ≡ Signal c → ⊥) → AreWays l xs m n t (three (choices x.operation))
    ways_line other = record {
      size = three_long (choices x.operation);
      may = may_choices l xs m t x script there;
      all = λ e own goes.
          let choice : Choice = record { action = e.action; turn = goes.2.turn } in
          way_of (choices x.operation) choice (choices_few x.operation) (one_made x.operation choice (made l xs m t x there e goes.0 own goes.2) other)
          (leads_at e e.action (event_is e t e.action own refl) goes);
    }

    -- a signal that leads there leaves those that are in the condition then
    pub ways_signal : (c : CondId) (left : ThreadSet) → IsBoard l n → x.operation ≡ Signal c → ((u : ℕ) → in_set left u ≡ (spec_of n).members c.0 u) → AreWays l xs m n t (three (next (action.Signal c left) ∷ []))
    ways_signal c left board is left_is = record {
      size = refl;
      may = λ k d at. subst (λ (z : Choice). MayTry l xs m t z) (sym (only_one (next (action.Signal c left)) d (three_is (next (action.Signal c left) ∷ []) k d at))) may_left;
      all = λ e own goes.
          let choice : Choice = record { action = e.action; turn = goes.2.turn } in
          let make = subst (λ (o : Operation). MayMake o choice) is (made l xs m t x there e goes.0 own goes.2) in
          let set = make.0 in
          let here = leads_at e (action.Signal c set) (event_is e t (action.Signal c set) own (ap (λ (z : Choice). z.action) make.1)) goes in
          let same = set_is set here.0 here.1 here.2.acts.1 here.3 in
          let may_set = may_signal l xs m t x script there c is set (λ u has. low u (same u ∙ has)) in
          way_of (next (action.Signal c left) ∷ []) (next (action.Signal c left)) (omega arith) (inl refl) (here.0, here.1, goes_alike l xs m t c set left (λ u. sym (same u)) may_set may_left here.0 here.2, here.3);
    }
      where
        low : (u : ℕ) → in_set left u ≡ true → u < l.threads
        low u has = omega (arith, member_low n.threads c.0 u (sym (left_is u) ∙ has), board.threads)

        may_left : MayTry l xs m t (next (action.Signal c left))
        may_left = may_signal l xs m t x script there c is left low

        set_is : (set : ThreadSet) (v : Scene) (h : List Event) → v.spec ≡ acted t (spec_of m) (action.Signal c set) → IsChain l xs v h (scene_of n) → (u : ℕ) → in_set left u ≡ in_set set u
        set_is set v h now chain u =
            left_is u
            ∙ (ap (λ (f : ℕ → ℕ → Bool). f c.0 u) (chain_members l xs v h (scene_of n) chain)
            ∙ (ap (λ (s : Spec). s.members c.0 u) now
            ∙ ap (λ (b : Bool). cond b (in_set set) ((spec_of m).members c.0) u) (eq-eqb c.0 c.0 refl)))

  -- an event that isn't there was not found
  pub step_none : (here : Event → Type 0) (o : Option (Vec Event Global)) → ((v : Vec Event Global) → o ≡ Some v → ⊥) → IsStep l xs m n here o → IsStep l xs m n here None
  step_none here None other step = step
  step_none here (Some v) other step = absurd (other v refl)

  -- none of the first choices leads there
  abbrev pub NoneBelow : List (Option Choice) → ℕ → Type 0
  NoneBelow cs k = (j : ℕ) (c : Choice) → j < k → IsWay l xs m n t cs j c → ⊥

  -- a choice that stands there
  pub choice_there : (cs : List (Option Choice)) (k : ℕ) (c : Choice) → AreWays l xs m n t cs → k < 3 → get_or cs k None ≡ Some c → slice_get cs k ≡ Some (Some c)
  choice_there cs k c ways low is = slice_get-get_or cs k None (omega (arith, ways.size)) ∙ ap (λ (z : Option Choice). Some z) is

  pub way_there : (cs : List (Option Choice)) (k : ℕ) (c : Choice) → AreWays l xs m n t cs → k < 3 → IsWay l xs m n t cs k c → get_or cs k None ≡ Some c
  way_there cs k c ways low way = some_same (get_or cs k None) (Some c) (slice_get cs k) (slice_get-get_or cs k None (omega (arith, ways.size))) way.0

  pub none_more : (cs : List (Option Choice)) (k : ℕ) → NoneBelow cs k → ((c : Choice) → IsWay l xs m n t cs k c → ⊥) → NoneBelow cs (k + 1)
  none_more cs k none here j c low way = dite (ℕ_discrete j k)
      (λ e. here c (ap (slice_get cs) (sym e) ∙ way.0, way.1))
      (λ ne. none j c (omega (arith, ne)) way)

  pub no_step : (cs : List (Option Choice)) (k : ℕ) → AreWays l xs m n t cs → 3 ≤ k → NoneBelow cs k → IsStep l xs m n (λ e. e.thread.0 ≡ t) None
  no_step cs k ways all none e own goes =
      let way = ways.all e own goes in
      none way.0 way.1 (omega (arith, before_end cs way.0 (Some way.1) way.2.0, all, ways.size)) way.2
