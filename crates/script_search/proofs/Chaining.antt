-- A chain leads to one scene, takes no thread out of a condition, and is part of a play.
use Rattle.std.proofs.Common.{◌≡◌, inl, inr, ℕ, ◌+◌, ◌<◌, Bool, true, false, List, [], ◌∷◌, ◌++◌, append_assoc, append-nil, length, get_or, refl, sym, ap, subst, ◌∙◌, arith, Option, Some, None}
use Rattle.std.proofs.lemmas.Option.{slice_get-get_or}
use Rattle.std.specs.List.{slice_get}
use mathlib.Core.Logic.{dite}
use native.Mathlib.Decide.{ℕ_discrete}
use Rattle.larch_actions.specs.declared.event.Event.{Event}
use Rattle.larch_actions.specs.declared.event.Layout.{Layout}
use Rattle.larch_actions.specs.declared.event.Version.{Version}
use Rattle.larch_actions.specs.declared.event.Version.TheVariants.{One, Two}
use Rattle.larch_actions.specs.declared.event.Action.{Action}
use Rattle.larch_actions.specs.declared.event.Action.TheVariants as action
use Rattle.larch_actions.specs.Actions.{Spec, acted}
use Rattle.script_text.specs.declared.line.Line.{Line}
use Rattle.script_text.specs.declared.line.Operation.{Operation}
use Rattle.script_text.specs.declared.line.Operation.TheVariants.{Acquire, Release, Wait, AlertWait, Signal, Broadcast, P, V, Alert, TestAlert, AlertP, Add, Until, AlertUntil, Fork, Join}
use Rattle.script_text.specs.Text.{IsScript}
use Rattle.script_text.specs.Runs.{event, lines_of}
use Rattle.script_plays.specs.declared.choice.Choice.{Choice}
use Rattle.script_plays.specs.Choices.{choices, three, stays, MayMake}
use Rattle.script_plays.specs.Scenes.{Scene}
use Rattle.script_plays.specs.Plays.{Goes, Plays}
use Rattle.script_plays.specs.Reduced.{is_alone, GoesAlone}
use Rattle.script_plays.proofs.Scened.{goes_one}
use Rattle.script_plays.proofs.Bounded.{rank, goes_falls}
use Rattle.script_plays.proofs.Reduced.{same_event}
use Rattle.script_search.specs.Boards.{Moment, moment_of, scene_of, played_of}
use Rattle.script_search.specs.declared.board.Board.{Board}
use Rattle.script_search.specs.Moves.{Moves}
use Rattle.script_search.specs.Chains.{GoesFirst, HasNoneAlone, IsChain, IsAloneOf, IsNext}
use Rattle.script_search.specs.Tries.{MayTry, MayTryAll}
use Rattle.script_search.specs.Ways.{last_choices}
use Rattle.script_search.proofs.Tells.{never, below}
use Rattle.script_search.proofs.Choosing.{event_is, made, over_none, only_end}

-- a play after another
pub plays_append : (l : Layout) (xs : List Line) (s : Scene) (h : List Event) (u : Scene) (g : List Event) (w : Scene) → Plays l xs s h u → Plays l xs u g w → Plays l xs s (h ++ g) w
plays_append l xs s [] u g w p q = subst (λ (z : Scene). Plays l xs z g w) (sym p) q
plays_append l xs s (e ∷ h) u g w p q = (p.0, p.1, plays_append l xs p.0 h u g w p.2 q)

alone_members : (t : ℕ) (s : Spec) (a : Action) → is_alone a ≡ true → (acted t s a).members ≡ s.members
alone_members t s (action.Release m) alone = refl
alone_members t s (action.Fork who) alone = refl
alone_members t s action.End alone = refl
alone_members t s (action.Join who) alone = refl
alone_members t s _ alone = absurd (cc)

module _ (l : Layout) (xs : List Line) where
  pub chain_plays : (s : Scene) (h : List Event) (u : Scene) → IsChain l xs s h u → Plays l xs s h u
  chain_plays s [] u p = p.0
  chain_plays s (e ∷ h) u p = (p.0, p.1.0.1, chain_plays p.0 h u p.2)

  pub chain_members : (s : Scene) (h : List Event) (u : Scene) → IsChain l xs s h u → u.spec.members ≡ s.spec.members
  chain_members s [] u p = ap (λ (z : Scene). z.spec.members) (sym p.0)
  chain_members s (e ∷ h) u p =
      chain_members p.0 h u p.2 ∙ (ap (λ (z : Spec). z.members) p.1.0.1.acts.1 ∙ alone_members e.thread.0 s.spec e.action p.1.0.0)

  -- chains from a scene lead to one scene
  pub chain_one : IsScript l xs → (s : Scene) (h g : List Event) (u v : Scene) → IsChain l xs s h u → IsChain l xs s g v → u ≡ v
  chain_one script s [] [] u v p q = sym p.0 ∙ q.0
  chain_one script s [] (f ∷ g) u v p q = absurd (p.1 f q.0 q.1.0)
  chain_one script s (e ∷ h) [] u v p q = absurd (q.1 e p.0 p.1.0)
  chain_one script s (e ∷ h) (f ∷ g) u v p q =
      let at : e.thread.0 ≡ f.thread.0 = omega (arith, p.1.1 f q.0 q.1.0, q.1.1 e p.0 p.1.0) in
      let is = same_event l xs script s e f p.0 q.0 p.1.0 q.1.0.1 at in
      let there = goes_one l xs s e q.0 p.0 (subst (λ (z : Event). Goes l xs s z q.0) is q.1.0.1) p.1.0.1 in
      chain_one script p.0 h g u v p.2 (subst (λ (z : Scene). IsChain l xs z g v) there q.2)

  -- the events of a chain from s of which these are the first, and lead to u
  pub record Begins (s : Scene) (old new : List Event) (u : Scene) : Type 0 where
    pub part : List Event
    pub added : new ≡ old ++ part
    pub further : (g : List Event) (w : Scene) → IsChain l xs u g w → IsChain l xs s (part ++ g) w

  pub begins_none : (s : Scene) (old : List Event) → Begins s old old s
  begins_none s old = record { part = []; added = sym (append-nil old); further = λ g w p. p }

  pub begins_more : (s u v : Scene) (old now new : List Event) (e : Event) → Begins s old now u → GoesFirst l xs u e v → new ≡ now ++ e ∷ [] → Begins s old new v
  begins_more s u v old now new e begins goes is = record {
    part = begins.part ++ e ∷ [];
    added = is ∙ (ap (λ (z : List Event). z ++ e ∷ []) begins.added ∙ append_assoc old begins.part (e ∷ []));
    further = λ g w p. subst (λ (z : List Event). IsChain l xs s z w) (sym (append_assoc begins.part (e ∷ []) g)) (begins.further (e ∷ g) w (v, goes, p));
  }

  pub begins_all : (s u : Scene) (old new : List Event) → Begins s old new u → HasNoneAlone l xs u → (h : List Event) × (new ≡ old ++ h) × IsChain l xs s h u
  begins_all s u old new begins none =
      (begins.part, begins.added, subst (λ (z : List Event). IsChain l xs s z u) (append-nil begins.part) (begins.further [] u (refl, none)))

-- the first of a thread's choices
three_size : (cs : List Choice) → length (three cs) ≡ 3
three_size [] = refl
three_size (a ∷ []) = refl
three_size (a ∷ b ∷ []) = refl
three_size (a ∷ b ∷ c ∷ rest) = refl

pub first_may : (l : Layout) (xs : List Line) (m : Moment) (t : ℕ) (cs : List Choice) (os : List (Option Choice)) → os ≡ three cs → MayTryAll l xs m t (three cs) → (c : Choice) → get_or os 0 None ≡ Some c → MayTry l xs m t c
first_may l xs m t cs os is may c here =
    let size = three_size cs in
    let at : get_or (three cs) 0 None ≡ Some c = ap (λ (z : List (Option Choice)). get_or z 0 None) (sym is) ∙ here in
    may 0 c (slice_get-get_or (three cs) 0 None (omega (arith, size)) ∙ ap (λ (z : Option Choice). Some z) at)

-- no other may be looked at alone
not_alone : (c d : Choice) → c ≡ d → is_alone d.action ≡ false → is_alone c.action ≡ true → ⊥
not_alone c d is hinders alone = never (sym hinders ∙ (ap (λ (z : Choice). is_alone z.action) (sym is) ∙ alone))

alone_first : (o : Operation) (c : Choice) → MayMake o c → is_alone c.action ≡ true → get_or (three (choices o)) 0 None ≡ Some c
alone_first (Release m) c (inl is) alone = ap Some (sym is)
alone_first (Release m) c (inr h) alone = absurd h
alone_first (Fork u) c (inl is) alone = ap Some (sym is)
alone_first (Fork u) c (inr h) alone = absurd h
alone_first (Join u) c (inl is) alone = ap Some (sym is)
alone_first (Join u) c (inr h) alone = absurd h
alone_first (Acquire m) c (inl is) alone = absurd (not_alone c _ is refl alone)
alone_first (Acquire m) c (inr h) alone = absurd h
alone_first (Wait m k) c (inl is) alone = absurd (not_alone c _ is refl alone)
alone_first (Wait m k) c (inr (inl is)) alone = absurd (not_alone c _ is refl alone)
alone_first (Wait m k) c (inr (inr h)) alone = absurd h
alone_first (AlertWait m k) c (inl is) alone = absurd (not_alone c _ is refl alone)
alone_first (AlertWait m k) c (inr (inl is)) alone = absurd (not_alone c _ is refl alone)
alone_first (AlertWait m k) c (inr (inr (inl is))) alone = absurd (not_alone c _ is refl alone)
alone_first (AlertWait m k) c (inr (inr (inr h))) alone = absurd h
alone_first (Signal k) c make alone = absurd (not_alone c _ make.1 refl alone)
alone_first (Broadcast k) c (inl is) alone = absurd (not_alone c _ is refl alone)
alone_first (Broadcast k) c (inr h) alone = absurd h
alone_first (P s) c (inl is) alone = absurd (not_alone c _ is refl alone)
alone_first (P s) c (inr h) alone = absurd h
alone_first (V s) c (inl is) alone = absurd (not_alone c _ is refl alone)
alone_first (V s) c (inr h) alone = absurd h
alone_first (Alert u) c (inl is) alone = absurd (not_alone c _ is refl alone)
alone_first (Alert u) c (inr h) alone = absurd h
alone_first TestAlert c (inl is) alone = absurd (not_alone c _ is refl alone)
alone_first TestAlert c (inr (inl is)) alone = absurd (not_alone c _ is refl alone)
alone_first TestAlert c (inr (inr h)) alone = absurd h
alone_first (AlertP s) c (inl is) alone = absurd (not_alone c _ is refl alone)
alone_first (AlertP s) c (inr (inl is)) alone = absurd (not_alone c _ is refl alone)
alone_first (AlertP s) c (inr (inr h)) alone = absurd h
alone_first (Add m n) c h alone = absurd h
alone_first (Until m k n) c (inl is) alone = absurd (not_alone c _ is refl alone)
alone_first (Until m k n) c (inr (inl is)) alone = absurd (not_alone c _ is refl alone)
alone_first (Until m k n) c (inr (inr h)) alone = absurd h
alone_first (AlertUntil m k n) c (inl is) alone = absurd (not_alone c _ is refl alone)
alone_first (AlertUntil m k n) c (inr (inl is)) alone = absurd (not_alone c _ is refl alone)
alone_first (AlertUntil m k n) c (inr (inr (inl is))) alone = absurd (not_alone c _ is refl alone)
alone_first (AlertUntil m k n) c (inr (inr (inr h))) alone = absurd h

module _ (l : Layout) (xs : List Line) (m : Moment) (t : ℕ) (e : Event) (s : Scene) (own : e.thread.0 ≡ t) (goes : GoesAlone l xs (scene_of m) e s) (os : List (Option Choice)) where
  abbrev IsFirst : Type 0
  IsFirst = (c : Choice) × (get_or os 0 None ≡ Some c) × (e ≡ event t c.action)

  pub only_line : (x : Line) → slice_get (lines_of t xs) (played_of m t) ≡ Some x → os ≡ three (choices x.operation) → IsFirst
  only_line x there is =
      let choice : Choice = record { action = e.action; turn = goes.1.turn } in (
        choice,
        ap (λ (z : List (Option Choice)). get_or z 0 None) is ∙ alone_first x.operation choice (made l xs m t x there e s own goes.1) goes.0,
        event_is e t e.action own refl,
      )

  pub only_last : slice_get (lines_of t xs) (played_of m t) ≡ None → (v : Version) → l.version ≡ v → os ≡ three (last_choices v) → IsFirst
  only_last past One one is = absurd (over_none l xs m t past one e s own goes.1)
  only_last past Two two is = (stays action.End, ap (λ (z : List (Option Choice)). get_or z 0 None) is, only_end l xs m t past two e s own goes.1)

some_is : (c d : Choice) → Some c ≡ Some d → c ≡ d
some_is c d e = cc

-- a thread that has no first choice, one whose first may not be looked at alone, and one whose first isn't possible
pub alone_none : (e : Event) (t : ℕ) (o : Option Choice) → o ≡ None → (c : Choice) × (o ≡ Some c) × (e ≡ event t c.action) → ⊥
alone_none e t o is only = let both : None ≡ Some only.0 = sym is ∙ only.1 in absurd (cc)

pub alone_not : (e : Event) (t : ℕ) (o : Option Choice) (d : Choice) (b : Bool) → o ≡ Some d → b ≡ is_alone d.action → b ≡ false → is_alone e.action ≡ true → (c : Choice) × (o ≡ Some c) × (e ≡ event t c.action) → ⊥
alone_not e t o d b is answer off alone only =
    let same : only.0 ≡ d = some_is only.0 d (sym only.1 ∙ is) in
    never (sym off ∙ (answer ∙ (ap (λ (z : Choice). is_alone z.action) (sym same) ∙ (ap (λ (z : Event). is_alone z.action) (sym only.2) ∙ alone))))

pub alone_refused : (l : Layout) (xs : List Line) (m : Moment) (e : Event) (t : ℕ) (o : Option Choice) (d : Choice) (b : Option Board) (s : Scene) → o ≡ Some d
    → (c : Choice) × (o ≡ Some c) × (e ≡ event t c.action) → Moves l xs m (event t d.action) b → b ≡ None → Goes l xs (scene_of m) e s → ⊥
alone_refused l xs m e t o d b s is only moves none goes =
    let same : only.0 ≡ d = some_is only.0 d (sym only.1 ∙ is) in
    let refused = subst (λ (z : Option Board). Moves l xs m (event t d.action) z) none moves in
    refused s (subst (λ (z : Choice). Goes l xs (scene_of m) (event t z.action) s) same (subst (λ (z : Event). Goes l xs (scene_of m) z s) only.2 goes))

-- no thread below t has an event that may be looked at alone
abbrev pub NoneBefore : Layout → List Line → Scene → ℕ → Type 0
NoneBefore l xs s t = (e : Event) (u : Scene) → GoesAlone l xs s e u → e.thread.0 < t → ⊥

pub alone_next : (l : Layout) (xs : List Line) (m : Moment) (t : ℕ) (o : Option (Event × Board)) (x : Event × Board) → IsAloneOf l xs m t o → o ≡ Some x → NoneBefore l xs (scene_of m) t → IsNext l xs m (Some x)
alone_next l xs m t o x alone is none =
    let own = subst (λ (z : Option (Event × Board)). IsAloneOf l xs m t z) is alone in
    ((own.1, λ f v goes. elim (below f.thread.0 t) [ inl low ↦ absurd (none f v goes low) | inr past ↦ omega (arith, own.0, past) ]), own.2)

pub none_further : (l : Layout) (xs : List Line) (m : Moment) (t : ℕ) (o : Option (Event × Board)) → IsAloneOf l xs m t o → ((x : Event × Board) → o ≡ Some x → ⊥) → NoneBefore l xs (scene_of m) t
    → NoneBefore l xs (scene_of m) (t + 1)
none_further l xs m t None alone other none e u goes low = dite (ℕ_discrete e.thread.0 t)
    (λ own. alone e u own goes)
    (λ ne. none e u goes (omega (arith, low, ne)))
none_further l xs m t (Some x) alone other none e u goes low = other x refl

-- where a thread has such an event, the rank falls; where none has, the chain is over
pub next_falls : (l : Layout) (xs : List Line) (m : Moment) (o : Option (Event × Board)) (x : Event × Board) → IsNext l xs m o → o ≡ Some x → rank l xs (scene_of (moment_of x.1)) < rank l xs (scene_of m)
next_falls l xs m o x next is =
    let own = subst (λ (z : Option (Event × Board)). IsNext l xs m z) is next in
    goes_falls l xs (scene_of m) x.0 (scene_of (moment_of x.1)) own.0.0.1

pub next_over : (l : Layout) (xs : List Line) (m : Moment) (o : Option (Event × Board)) → IsNext l xs m o → ((x : Event × Board) → o ≡ Some x → ⊥) → HasNoneAlone l xs (scene_of m)
next_over l xs m None next other = next
next_over l xs m (Some x) next other = absurd (other x refl)
