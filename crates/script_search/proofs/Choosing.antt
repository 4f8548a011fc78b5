-- The choices of a script's line are lawful, and are those that its thread has.
use Rattle.std.proofs.Common.{◌≡◌, ◌≢◌, inl, inr, ℕ, zero, suc, ◌<◌, ◌≤◌, Bool, cond, List, [], ◌∷◌, length, drop, refl, sym, ap, subst, ◌∙◌, arith, Some, None}
use Rattle.std.specs.List.{slice_get}
use Rattle.std.proofs.lemmas.Bool.Decides.{eqb_tells}
use Rattle.larch_actions.specs.declared.event.Version.{Version}
use Rattle.larch_actions.specs.declared.event.Version.TheVariants.{One, Two}
use Rattle.larch_actions.specs.declared.event.Layout.{Layout}
use Rattle.larch_actions.specs.declared.event.CondId.{CondId}
use Rattle.larch_actions.specs.declared.event.Event.{Event}
use Rattle.larch_actions.specs.declared.event.Action.{Action}
use Rattle.larch_actions.specs.declared.event.Action.TheVariants as action
use Rattle.larch_actions.specs.Layout.{IsNamed as HasNamedAction}
use Rattle.script_text.specs.declared.line.Operation.{Operation}
use Rattle.script_text.specs.declared.line.Operation.TheVariants.{Acquire, Release, Wait, AlertWait, Signal, Broadcast, P, V, Alert, TestAlert, AlertP, Add, Until, AlertUntil, Fork, Join}
use Rattle.script_text.specs.declared.line.Line.{Line}
use Rattle.script_text.specs.declared.table.Fate.{Fate}
use Rattle.script_text.specs.declared.table.Fate.TheVariants as fate
use Rattle.script_text.specs.Table.{fate_of}
use Rattle.script_text.specs.Operations.{IsNamed, Holding, Forked, MayCome, MayFollow, MayLive, holding_after, forked_with, none_held, none_forked}
use Rattle.script_text.specs.Text.{IsScript}
use Rattle.script_text.specs.Runs.{event, lines_of}
use Rattle.script_plays.specs.declared.choice.Choice.{Choice}
use Rattle.script_plays.specs.Choices.{choices, three, next, stays, IsOneOf, MayMake, Gives}
use Rattle.script_plays.specs.Scenes.{Scene, rest_of}
use Rattle.script_plays.specs.Plays.{Goes}
use Rattle.script_search.specs.Boards.{Moment, played_of, scene_of}
use Rattle.script_search.specs.Tries.{MayTry, MayTryAll, MaySignal}
use Rattle.script_search.proofs.Planning.{rest_here, rest_past}

-- a line of a thread may come where it stands
record Came (l : Layout) (t : ℕ) (x : Line) : Type 0 where
  held : Holding
  forked : Forked
  may : MayCome l held forked x
  own : x.thread.0 ≡ t

line_came : (l : Layout) (h : Holding) (f : Forked) (t : ℕ) (xs : List Line) (k : ℕ) (x : Line) → MayFollow l h f xs → slice_get (lines_of t xs) k ≡ Some x → Came l t x
line_came l h f t [] k x follow there = absurd (cc)
line_came l h f t (y ∷ ys) k x follow there =
    let rest : (j : ℕ) → slice_get (lines_of t ys) j ≡ Some x → Came l t x = λ j at. line_came l (holding_after h y.thread.0 y.operation) (forked_with f (fate_of y.operation)) t ys j x follow.1 at in
    elim (eqb_tells y.thread.0 t) [
      | inl own ↦
          let at = subst (λ (b : Bool). slice_get (cond b (y ∷ lines_of t ys) (lines_of t ys)) k ≡ Some x) own.0 there in
          first k at own.1 rest
      | inr other ↦
          let at = subst (λ (b : Bool). slice_get (cond b (y ∷ lines_of t ys) (lines_of t ys)) k ≡ Some x) other.0 there in
          rest k at
    ]
  where
    first : (j : ℕ) → slice_get (y ∷ lines_of t ys) j ≡ Some x → y.thread.0 ≡ t → ((j : ℕ) → slice_get (lines_of t ys) j ≡ Some x → Came l t x) → Came l t x
    first zero at own rest = let same : y ≡ x = cc in record { held = h; forked = f; may = subst (λ (z : Line). MayCome l h f z) same follow.0; own = ap (λ (z : Line). z.thread.0) (sym same) ∙ own }
    first (suc j) at own rest = rest j at

two_of : (v : Version) (f : Forked) (t : ℕ) (x : Fate) → MayLive v f t x → x ≢ fate.Nothing → v ≡ Two
two_of One f t x h ne = absurd (ne h)
two_of Two f t x h ne = refl

-- each choice of a lawful operation has lawful names
module _ (l : Layout) where
  at_choice : (x y : Choice) → x ≡ y → HasNamedAction l y.action → HasNamedAction l x.action
  at_choice x y e n = subst (λ (z : Choice). HasNamedAction l z.action) (sym e) n

  named : (o : Operation) (x : Choice) → IsNamed l o → (fate_of o ≢ fate.Nothing → l.version ≡ Two) → IsOneOf (choices o) x → HasNamedAction l x.action
  named (Acquire m) x n two (inl e) = at_choice x _ e n.0
  named (Acquire m) x n two (inr h) = absurd h
  named (Release m) x n two (inl e) = at_choice x _ e n.0
  named (Release m) x n two (inr h) = absurd h
  named (Wait m c) x n two (inl e) = at_choice x _ e (n.0, n.1.0)
  named (Wait m c) x n two (inr (inl e)) = at_choice x _ e (n.0, n.1.0)
  named (Wait m c) x n two (inr (inr h)) = absurd h
  named (AlertWait m c) x n two (inl e) = at_choice x _ e (n.0, n.1.0)
  named (AlertWait m c) x n two (inr (inl e)) = at_choice x _ e (n.0, n.1.0)
  named (AlertWait m c) x n two (inr (inr (inl e))) = at_choice x _ e (n.0, n.1.0)
  named (AlertWait m c) x n two (inr (inr (inr h))) = absurd h
  named (Signal c) x n two h = absurd h
  named (Broadcast c) x n two (inl e) = at_choice x _ e n.0
  named (Broadcast c) x n two (inr h) = absurd h
  named (P s) x n two (inl e) = at_choice x _ e n.0
  named (P s) x n two (inr h) = absurd h
  named (V s) x n two (inl e) = at_choice x _ e n.0
  named (V s) x n two (inr h) = absurd h
  named (Alert u) x n two (inl e) = at_choice x _ e n.0
  named (Alert u) x n two (inr h) = absurd h
  named TestAlert x n two (inl e) = at_choice x _ e tt
  named TestAlert x n two (inr (inl e)) = at_choice x _ e tt
  named TestAlert x n two (inr (inr h)) = absurd h
  named (AlertP s) x n two (inl e) = at_choice x _ e n.0
  named (AlertP s) x n two (inr (inl e)) = at_choice x _ e n.0
  named (AlertP s) x n two (inr (inr h)) = absurd h
  named (Add m k) x n two h = absurd h
  named (Until m c k) x n two (inl e) = at_choice x _ e (n.0, n.1.0)
  named (Until m c k) x n two (inr (inl e)) = at_choice x _ e (n.0, n.1.0)
  named (Until m c k) x n two (inr (inr h)) = absurd h
  named (AlertUntil m c k) x n two (inl e) = at_choice x _ e (n.0, n.1.0)
  named (AlertUntil m c k) x n two (inr (inl e)) = at_choice x _ e (n.0, n.1.0)
  named (AlertUntil m c k) x n two (inr (inr (inl e))) = at_choice x _ e (n.0, n.1.0)
  named (AlertUntil m c k) x n two (inr (inr (inr h))) = absurd h
  named (Fork u) x n two (inl e) = at_choice x _ e (two (λ q. absurd (cc)), n.0)
  named (Fork u) x n two (inr h) = absurd h
  named (Join u) x n two (inl e) = at_choice x _ e (two (λ q. absurd (cc)), n.0)
  named (Join u) x n two (inr h) = absurd h

makes_one : (o : Operation) (x : Choice) → IsOneOf (choices o) x → MayMake o x
makes_one (Signal c) x h = absurd h
makes_one _ x h = h

pub one_made : (o : Operation) (x : Choice) → MayMake o x → ((c : CondId) → o ≡ Signal c → ⊥) → IsOneOf (choices o) x
one_made (Signal c) x h not = absurd (not c refl)
one_made _ x h not = h

-- in three places stand these choices and no others
pub three_is : (cs : List Choice) (k : ℕ) (x : Choice) → slice_get (three cs) k ≡ Some (Some x) → IsOneOf cs x
three_is [] zero x e = absurd (cc)
three_is [] (suc zero) x e = absurd (cc)
three_is [] (suc (suc zero)) x e = absurd (cc)
three_is [] (suc (suc (suc k))) x e = absurd (cc)
three_is (a ∷ []) zero x e = inl (cc)
three_is (a ∷ []) (suc zero) x e = absurd (cc)
three_is (a ∷ []) (suc (suc zero)) x e = absurd (cc)
three_is (a ∷ []) (suc (suc (suc k))) x e = absurd (cc)
three_is (a ∷ b ∷ []) zero x e = inl (cc)
three_is (a ∷ b ∷ []) (suc zero) x e = inr (inl (cc))
three_is (a ∷ b ∷ []) (suc (suc zero)) x e = absurd (cc)
three_is (a ∷ b ∷ []) (suc (suc (suc k))) x e = absurd (cc)
three_is (a ∷ b ∷ c ∷ rest) zero x e = inl (cc)
three_is (a ∷ b ∷ c ∷ rest) (suc zero) x e = inr (inl (cc))
three_is (a ∷ b ∷ c ∷ rest) (suc (suc zero)) x e = inr (inr (inl (cc)))
three_is (a ∷ b ∷ c ∷ rest) (suc (suc (suc k))) x e = absurd (cc)

pub is_three : (cs : List Choice) (x : Choice) → length cs ≤ 3 → IsOneOf cs x → (k : ℕ) × (slice_get (three cs) k ≡ Some (Some x))
is_three [] x few h = absurd h
is_three (a ∷ []) x few (inl e) = (zero, ap (λ z. Some (Some z)) (sym e))
is_three (a ∷ []) x few (inr h) = absurd h
is_three (a ∷ b ∷ []) x few (inl e) = (zero, ap (λ z. Some (Some z)) (sym e))
is_three (a ∷ b ∷ []) x few (inr (inl e)) = (suc zero, ap (λ z. Some (Some z)) (sym e))
is_three (a ∷ b ∷ []) x few (inr (inr h)) = absurd h
is_three (a ∷ b ∷ c ∷ rest) x few (inl e) = (zero, ap (λ z. Some (Some z)) (sym e))
is_three (a ∷ b ∷ c ∷ rest) x few (inr (inl e)) = (suc zero, ap (λ z. Some (Some z)) (sym e))
is_three (a ∷ b ∷ c ∷ rest) x few (inr (inr (inl e))) = (suc (suc zero), ap (λ z. Some (Some z)) (sym e))
is_three (a ∷ b ∷ c ∷ []) x few (inr (inr (inr h))) = absurd h
is_three (a ∷ b ∷ c ∷ d ∷ rest) x few (inr (inr (inr h))) = absurd (omega arith)

pub choices_few : (o : Operation) → length (choices o) ≤ 3
choices_few (Acquire m) = omega arith
choices_few _ = omega arith

gives_line : (v : Version) (x : Line) (rest : List Line) (c : Choice) → MayMake x.operation c → Gives v (x ∷ rest) c
gives_line One x rest c h = h
gives_line Two x rest c h = h

line_gives : (v : Version) (x : Line) (rest : List Line) (c : Choice) → Gives v (x ∷ rest) c → MayMake x.operation c
line_gives One x rest c h = h
line_gives Two x rest c h = h

module _ (l : Layout) (xs : List Line) (m : Moment) (t : ℕ) (x : Line) (script : IsScript l xs) (there : slice_get (lines_of t xs) (played_of m t) ≡ Some x) where
  came : Came l t x
  came = line_came l none_held none_forked t xs (played_of m t) x script.follow there

  gives_here : (c : Choice) → MayMake x.operation c → Gives l.version (rest_of xs (played_of m) t) c
  gives_here c h = subst (λ (rest : List Line). Gives l.version rest c) (sym (rest_here l.threads xs t (played_of m) x there)) (gives_line l.version x (drop (suc (played_of m t)) (lines_of t xs)) c h)

  low : t < l.threads
  low = let c = came in omega (arith, c.may.thread, c.own)

  -- the choices of the line are lawful
  pub may_choices : MayTryAll l xs m t (three (choices x.operation))
  may_choices k c at =
      let is = three_is (choices x.operation) k c at in
      let here = came in
      record {
        named = (low, named l x.operation c here.may.named (two_of l.version here.forked x.thread.0 (fate_of x.operation) here.may.live) is);
        gives = gives_here c (makes_one x.operation c is);
      }

  -- so is a signal of its condition
  pub may_signal : (c : CondId) → x.operation ≡ Signal c → MaySignal l xs m t c
  may_signal c is left within =
      let here = came in
      let n = subst (λ (o : Operation). IsNamed l o) is here.may.named in
      record {
        named = (low, (n.0, within));
        gives = gives_here (next (action.Signal c left)) (subst (λ (o : Operation). MayMake o (next (action.Signal c left))) (sym is) (left, refl));
      }

-- an event is its thread and its action
pub event_is : (e : Event) (t : ℕ) (a : Action) → e.thread.0 ≡ t → e.action ≡ a → e ≡ event t a
event_is e t a p q = λ i. record { thread = record { 0 = p i }; action = q i }

ends_in : (v : Version) (rest : List Line) (x : Choice) → rest ≡ [] → v ≡ Two → Gives v rest x → x ≡ stays action.End
ends_in v rest x e two g = subst (λ (w : Version). Gives w [] x) two (subst (λ (r : List Line). Gives v r x) e g)

not_one : (v : Version) (rest : List Line) (x : Choice) → rest ≡ [] → v ≡ One → Gives v rest x → ⊥
not_one v rest x e one g = subst (λ (w : Version). Gives w [] x) one (subst (λ (r : List Line). Gives v r x) e g)

module _ (l : Layout) (xs : List Line) (m : Moment) (t : ℕ) where
  module _ (past : slice_get (lines_of t xs) (played_of m t) ≡ None) where
    none_before : (e : Event) → e.thread.0 ≡ t → rest_of xs (played_of m) e.thread.0 ≡ []
    none_before e own = ap (λ u. rest_of xs (played_of m) u) own ∙ rest_past l.threads xs t (played_of m) past

    -- after its last line a thread of version one does nothing, and one of version two ends
    pub over_none : l.version ≡ One → (e : Event) (s : Scene) → e.thread.0 ≡ t → Goes l xs (scene_of m) e s → ⊥
    over_none one e s own goes = not_one l.version (rest_of xs (played_of m) e.thread.0) (record { action = e.action; turn = goes.turn }) (none_before e own) one goes.gives

    pub only_end : l.version ≡ Two → (e : Event) (s : Scene) → e.thread.0 ≡ t → Goes l xs (scene_of m) e s → e ≡ event t action.End
    only_end two e s own goes =
        let is = ends_in l.version (rest_of xs (played_of m) e.thread.0) (record { action = e.action; turn = goes.turn }) (none_before e own) two goes.gives in
        event_is e t action.End own (ap (λ (z : Choice). z.action) is)

    pub may_end : t < l.threads → l.version ≡ Two → MayTry l xs m t (stays action.End)
    may_end low two = record {
      named = (low, (two, tt));
      gives = subst (λ (r : List Line). Gives l.version r (stays action.End)) (sym (rest_past l.threads xs t (played_of m) past)) (subst (λ (w : Version). Gives w [] (stays action.End)) (sym two) refl);
    }

  -- at a line it makes one of the choices of the line
  pub made : (x : Line) → slice_get (lines_of t xs) (played_of m t) ≡ Some x → (e : Event) (s : Scene) → e.thread.0 ≡ t → (goes : Goes l xs (scene_of m) e s)
      → MayMake x.operation (record { action = e.action; turn = goes.turn })
  made x there e s own goes =
      let rest = ap (λ u. rest_of xs (played_of m) u) own ∙ rest_here l.threads xs t (played_of m) x there in
      line_gives l.version x (drop (suc (played_of m t)) (lines_of t xs)) (record { action = e.action; turn = goes.turn })
      (subst (λ (r : List Line). Gives l.version r (record { action = e.action; turn = goes.turn })) rest goes.gives)
