-- Plays are legal, and lead to one scene.
use Rattle.std.proofs.Common.{◌≡◌, inl, inr, List, [], ◌∷◌, ◌++◌, refl, ap, sym, subst, ◌∙◌, arith}
use Rattle.larch_actions.specs.declared.event.Event.{Event}
use Rattle.larch_actions.specs.declared.event.Layout.{Layout}
use Rattle.larch_actions.specs.declared.event.Action.{Action}
use Rattle.larch_actions.specs.declared.event.Version.{Version}
use Rattle.larch_actions.specs.declared.event.Version.TheVariants.{One, Two}
use Rattle.larch_actions.specs.Actions.{Leads}
use Rattle.script_text.specs.declared.line.Line.{Line}
use Rattle.script_text.specs.declared.line.Operation.{Operation}
use Rattle.script_text.specs.declared.line.Operation.TheVariants.{Add}
use Rattle.script_plays.specs.declared.choice.Turn.{Turn}
use Rattle.script_plays.specs.declared.choice.Choice.{Choice}
use Rattle.script_plays.specs.Choices.{MayMake, Gives}
use Rattle.script_plays.specs.Scenes.{Scene, first_scene, rest_of, settled, turned}
use Rattle.script_plays.specs.Plays.{Goes, Plays}
use Rattle.script_plays.specs.Laws.{PlaysAreLegal, PlaysHaveOneScene, EndsExcludesStuck, BeginningsArePlays}

-- the events of a play lead as far in the state
pub plays_lead : (l : Layout) (xs : List Line) (s : Scene) (h : List Event) (u : Scene) → Plays l xs s h u → Leads s.spec h u.spec
plays_lead l xs s [] u p = ap (λ (z : Scene). z.spec) p
plays_lead l xs s (e ∷ h) u p = (p.0.spec, p.1.acts, plays_lead l xs p.0 h u p.2)

pub plays_are_legal : PlaysAreLegal
plays_are_legal l xs h s p = plays_lead l xs (first_scene l.version) h s p

-- what an action says of where its thread is then, whatever the line: the turn of a choice is that of its action
turn_is : (o : Operation) (a : Action) (t u : Turn) → MayMake o (record { action = a; turn = t }) → MayMake o (record { action = a; turn = u }) → t ≡ u
turn_is (Add m n) a t u p q = absurd p
turn_is _ a t u p q = grind arith

-- an action that its thread's lines give has one turn
pub gives_one : (v : Version) (rest : List Line) (a : Action) (t u : Turn) → Gives v rest (record { action = a; turn = t }) → Gives v rest (record { action = a; turn = u }) → t ≡ u
gives_one One [] a t u p q = absurd p
gives_one Two [] a t u p q = ap (λ (z : Choice). z.turn) p ∙ sym (ap (λ (z : Choice). z.turn) q)
gives_one One (line ∷ rest) a t u p q = turn_is line.operation a t u p q
gives_one Two (line ∷ rest) a t u p q = turn_is line.operation a t u p q

scene_is : (s u : Scene) → s.spec ≡ u.spec → s.played ≡ u.played → s ≡ u
scene_is s u e f = λ i. record { spec = e i; played = f i }

-- an event leads from a scene to one other
pub goes_one : (l : Layout) (xs : List Line) (s : Scene) (e : Event) (a b : Scene) → Goes l xs s e a → Goes l xs s e b → a ≡ b
goes_one l xs s e a b p q =
    let same = gives_one l.version (rest_of xs s.played e.thread.0) e.action p.turn q.turn p.gives q.gives in
    scene_is a b (p.acts.1 ∙ sym q.acts.1)
    (p.played ∙ (ap (λ (z : Turn). settled l.threads xs e.thread.0 (turned z e.thread.0 s.played)) same ∙ sym q.played))

pub plays_one : (l : Layout) (xs : List Line) (s : Scene) (h : List Event) (a b : Scene) → Plays l xs s h a → Plays l xs s h b → a ≡ b
plays_one l xs s [] a b p q = sym p ∙ q
plays_one l xs s (e ∷ h) a b p q =
    let same = goes_one l xs s e p.0 q.0 p.1 q.1 in
    plays_one l xs q.0 h a b (subst (λ (z : Scene). Plays l xs z h a) same p.2) q.2

pub plays_have_one_scene : PlaysHaveOneScene
plays_have_one_scene l xs h s u p q = plays_one l xs (first_scene l.version) h s u p q

-- a play, and one event more
pub plays_more : (l : Layout) (xs : List Line) (s : Scene) (h : List Event) (u : Scene) (e : Event) (w : Scene) → Plays l xs s h u → Goes l xs u e w → Plays l xs s (h ++ e ∷ []) w
plays_more l xs s [] u e w p g = (w, subst (λ (z : Scene). Goes l xs z e w) (sym p) g, refl)
plays_more l xs s (x ∷ h) u e w p g = (p.0, p.1, plays_more l xs p.0 h u e w p.2 g)

-- the beginning of a play
plays_begin : (l : Layout) (xs : List Line) (s : Scene) (h g : List Event) (w : Scene) → Plays l xs s (h ++ g) w → (u : Scene) × Plays l xs s h u
plays_begin l xs s [] g w p = (s, refl)
plays_begin l xs s (x ∷ h) g w p = let r = plays_begin l xs p.0 h g w p.2 in (r.0, (p.0, p.1, r.1))

pub beginnings_are_plays : BeginningsArePlays
beginnings_are_plays l xs h g p = plays_begin l xs (first_scene l.version) h g p.0 p.1

-- the last event of a play
pub plays_last : (l : Layout) (xs : List Line) (s : Scene) (h : List Event) (e : Event) (w : Scene) → Plays l xs s (h ++ e ∷ []) w → (u : Scene) × Plays l xs s h u × Goes l xs u e w
plays_last l xs s [] e w p = (s, refl, subst (λ (z : Scene). Goes l xs s e z) p.2 p.1)
plays_last l xs s (x ∷ h) e w p = let r = plays_last l xs p.0 h e w p.2 in (r.0, (p.0, p.1, r.1), r.2)

pub ends_excludes_stuck : EndsExcludesStuck
ends_excludes_stuck l xs h ends stuck = elim (ends h stuck.play) [ inl whole ↦ stuck.unfinished whole | inr more ↦ stuck.no_more more ]
