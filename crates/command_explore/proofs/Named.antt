-- The events of a play have lawful names.
use Rattle.std.proofs.Common.{◌≡◌, ◌⊎◌, inl, inr, ℕ, zero, suc, ◌<◌, Bool, true, false, cond, eqb, List, [], ◌∷◌, drop, refl, sym, ap, subst, ◌∙◌, Some}
use Rattle.std.specs.List.{AllByRecursion, slice_get}
use Rattle.std.proofs.lemmas.Bool.Decides.{eqb_tells}
use Rattle.larch_actions.specs.declared.event.Event.{Event}
use Rattle.larch_actions.specs.declared.event.Layout.{Layout}
use Rattle.larch_actions.specs.declared.event.Version.{Version}
use Rattle.larch_actions.specs.declared.event.Version.TheVariants.{One, Two}
use Rattle.larch_actions.specs.declared.event.Action.{Action}
use Rattle.larch_actions.specs.declared.event.Action.TheVariants as action
use Rattle.larch_actions.specs.Actions.{Spec, MeetsChoice, acted, put}
use Rattle.larch_actions.specs.Layout.{HasNames, IsNamed}
use Rattle.larch_actions.specs.Sets.{in_set}
use Rattle.script_text.specs.declared.line.Operation.{Operation}
use Rattle.script_text.specs.declared.line.Operation.TheVariants.{Signal}
use Rattle.script_text.specs.declared.line.Line.{Line}
use Rattle.script_text.specs.Runs.{event, lines_of}
use Rattle.script_text.specs.Text.{IsScript}
use Rattle.script_plays.specs.declared.choice.Choice.{Choice}
use Rattle.script_plays.specs.Choices.{Gives, MayMake, choices, next, three}
use Rattle.script_plays.specs.Scenes.{Scene, first_scene, rest_of}
use Rattle.script_plays.specs.Plays.{Goes, Plays, IsPlayTo}
use Rattle.script_search.specs.declared.board.Place.TheVariants.{Running}
use Rattle.script_search.specs.declared.board.Thread.{Thread}
use Rattle.script_search.specs.Boards.{Moment, played_of}
use Rattle.script_search.proofs.Choosing.{may_choices, may_signal, one_made, is_three, choices_few}

-- each thread in a condition is one of the layout's
abbrev AreBelow : Layout → Spec → Type 0
AreBelow l s = (c t : ℕ) → s.members c t ≡ true → t < l.threads

put_row : (f : ℕ → ℕ → Bool) (k : ℕ) (g : ℕ → Bool) (j u : ℕ) → put f k g j u ≡ true → (g u ≡ true) ⊎ (f j u ≡ true)
put_row f k g j u h = elim (eqb_tells j k) [
  | inl e ↦ inl (subst (λ (b : Bool). cond b g (f j) u ≡ true) e.0 h)
  | inr e ↦ inr (subst (λ (b : Bool). cond b g (f j) u ≡ true) e.0 h)
]

put_true : (f : ℕ → Bool) (k j : ℕ) → put f k true j ≡ true → (j ≡ k) ⊎ (f j ≡ true)
put_true f k j h = elim (eqb_tells j k) [
  | inl e ↦ inl e.1
  | inr e ↦ inr (subst (λ (b : Bool). cond b true (f j) ≡ true) e.0 h)
]

put_false : (f : ℕ → Bool) (k j : ℕ) → put f k false j ≡ true → f j ≡ true
put_false f k j h = elim (eqb_tells j k) [
  | inl e ↦ let no : false ≡ true = subst (λ (b : Bool). cond b false (f j) ≡ true) e.0 h in absurd (cc)
  | inr e ↦ subst (λ (b : Bool). cond b false (f j) ≡ true) e.0 h
]

module _ (l : Layout) (old : Spec) (t : ℕ) (low : t < l.threads) (below : AreBelow l old) where
  enters : (c k u : ℕ) → put old.members c (put (old.members c) t true) k u ≡ true → u < l.threads
  enters c k u h = elim (put_row old.members c (put (old.members c) t true) k u h) [
    | inl g ↦ elim (put_true (old.members c) t u g) [ inl e ↦ subst (λ (z : ℕ). z < l.threads) (sym e) low | inr f ↦ below c u f ]
    | inr f ↦ below k u f
  ]

  leaves : (c k u : ℕ) → put old.members c (put (old.members c) t false) k u ≡ true → u < l.threads
  leaves c k u h = elim (put_row old.members c (put (old.members c) t false) k u h) [
    | inl g ↦ below c u (put_false (old.members c) t u g)
    | inr f ↦ below k u f
  ]

  kept : (a : Action) → MeetsChoice t old a → AreBelow l (acted t old a)
  kept (action.Enqueue m c) choice k u h = enters c.0 k u h
  kept (action.AlertEnqueue m c) choice k u h = enters c.0 k u h
  kept (action.AlertRaise m c) choice k u h = leaves c.0 k u h
  kept (action.Signal c left) choice k u h = elim (put_row old.members c.0 (in_set left) k u h) [
    | inl g ↦ elim choice [ inl none ↦ let no : false ≡ true = sym (none u) ∙ g in absurd (cc) | inr some ↦ below c.0 u (some.0 u g) ]
    | inr f ↦ below k u f
  ]
  kept (action.Broadcast c) choice k u h = elim (put_row old.members c.0 (λ _. false) k u h) [
    | inl g ↦ absurd (cc)
    | inr f ↦ below k u f
  ]
  kept _ choice k u h = below k u h

first_of : (k : ℕ) (ys : List Line) (x : Line) (rest : List Line) → drop k ys ≡ x ∷ rest → slice_get ys k ≡ Some x
first_of zero [] x rest e = absurd (cc)
first_of zero (y ∷ ys) x rest e = let same : y ≡ x = cc in ap (λ (z : Line). Some z) same
first_of (suc k) [] x rest e = absurd (cc)
first_of (suc k) (y ∷ ys) x rest e = first_of k ys x rest e

-- a moment at which the thread t has played n lines
abbrev copies : ℕ → Thread → List Thread
copies zero x = x ∷ []
copies (suc n) x = x ∷ copies n x

abbrev played_by : ℕ → ℕ → Moment
played_by t n = record { second = false; threads = copies t (record { played = n; place = Running; alerted = false }); holders = []; available = [] }

has_played : (t n : ℕ) → played_of (played_by t n) t ≡ n
has_played zero n = refl
has_played (suc t) n = has_played t n

module _ (l : Layout) (xs : List Line) (script : IsScript l xs) (t n : ℕ) (x : Line) (there : slice_get (lines_of t xs) n ≡ Some x) where
  here : slice_get (lines_of t xs) (played_of (played_by t n) t) ≡ Some x
  here = subst (λ (z : ℕ). slice_get (lines_of t xs) z ≡ Some x) (sym (has_played t n)) there

  quiet : (o : Operation) (c : Choice) → x.operation ≡ o → ((k : ℕ) × (slice_get (three (choices o)) k ≡ Some (Some c))) → HasNames l (event t c.action)
  quiet o c is at = (may_choices l xs (played_by t n) t x script here at.0 c (subst (λ (z : Operation). slice_get (three (choices z)) at.0 ≡ Some (Some c)) (sym is) at.1)).named

  names : (o : Operation) (c : Choice) (old : Spec) → x.operation ≡ o → MayMake o c → AreBelow l old → MeetsChoice t old c.action → HasNames l (event t c.action)
  names (Signal k) c old is (left, e) below choice =
      let meets = subst (λ (z : Choice). MeetsChoice t old z.action) e choice in
      let within : (u : ℕ) → in_set left u ≡ true → u < l.threads = λ u g. elim meets [ inl none ↦ let no : false ≡ true = sym (none u) ∙ g in absurd (cc) | inr some ↦ below k.0 u (some.0 u g) ] in
      subst (λ (z : Choice). HasNames l (event t z.action)) (sym e) (may_signal l xs (played_by t n) t x script here k is left within).named
  names o c old is made below choice = quiet o c is (is_three (choices o) c (choices_few o) (one_made o c made (λ k q. absurd (cc))))

at_end : (l : Layout) (t : ℕ) (c : Choice) → t < l.threads → Gives l.version [] c → HasNames l (event t c.action)
at_end l t c low gives = by_version l.version refl gives
  where
    by_version : (v : Version) → l.version ≡ v → Gives v [] c → HasNames l (event t c.action)
    by_version One is g = absurd g
    by_version Two is g = subst (λ (z : Choice). HasNames l (event t z.action)) (sym g) (low, (is, tt))

line_gives : (v : Version) (x : Line) (rest : List Line) (c : Choice) → Gives v (x ∷ rest) c → MayMake x.operation c
line_gives One x rest c h = h
line_gives Two x rest c h = h

module _ (l : Layout) (xs : List Line) (script : IsScript l xs) where
  gives_named : (s : Scene) (t : ℕ) (c : Choice) (rest : List Line) → rest_of xs s.played t ≡ rest → Gives l.version rest c → t < l.threads → AreBelow l s.spec → MeetsChoice t s.spec c.action → HasNames l (event t c.action)
  gives_named s t c [] is gives low below choice = at_end l t c low gives
  gives_named s t c (x ∷ rest) is gives low below choice =
      names l xs script t (s.played t) x (first_of (s.played t) (lines_of t xs) x rest is) x.operation c s.spec refl (line_gives l.version x rest c gives) below choice

  event_named : (s : Scene) (e : Event) (u : Scene) → Goes l xs s e u → AreBelow l s.spec → HasNames l e
  event_named s e u g below = gives_named s e.thread.0 (record { action = e.action; turn = g.turn }) (rest_of xs s.played e.thread.0) refl g.gives g.thread below g.acts.0.choice_met

  events_named : (s : Scene) (h : List Event) (u : Scene) → AreBelow l s.spec → Plays l xs s h u → AllByRecursion (HasNames l) h
  events_named s [] u below p = tt
  events_named s (e ∷ h) u below p =
      let after = subst (AreBelow l) (sym p.1.acts.1) (kept l s.spec e.thread.0 p.1.thread below e.action p.1.acts.0.choice_met) in
      (event_named s e p.0 p.1 below, events_named p.0 h u after p.2)

  pub play_named : (h : List Event) (u : Scene) → IsPlayTo l xs h u → AllByRecursion (HasNames l) h
  play_named h u p = events_named (first_scene l.version) h u (λ c t e. absurd (cc)) p
