-- What a search that has found as much as need be says of a script, and which play leads to a scene.
use Rattle.std.proofs.Common.{◌≡◌, ◌⊎◌, inl, inr, ℕ, zero, suc, ◌<◌, List, [], ◌∷◌, ◌++◌, length, sym, subst, arith, Some}
use Rattle.std.specs.List.{slice_get}
use Rattle.larch_actions.specs.declared.event.Event.{Event}
use Rattle.larch_actions.specs.declared.event.Layout.{Layout}
use Rattle.script_text.specs.declared.line.Line.{Line}
use Rattle.script_text.specs.Text.{IsScript}
use Rattle.script_plays.specs.Scenes.{Scene, first_scene}
use Rattle.script_plays.specs.Plays.{GoesOn, IsPlayTo, Ends, AllFinished}
use Rattle.script_plays.specs.Reduced.{IsLookedAround}
use Rattle.script_plays.proofs.Reduced.{goes_from, seen_end}
use Rattle.script_search.specs.Boards.{Moment, scene_of}
use Rattle.script_search.specs.Seen.{HasScene, HasEnd, IsSeen, IsClosed, IsAlive}
use Rattle.script_search.specs.Chains.{IsChain}
use Rattle.script_search.proofs.Chaining.{plays_append, chain_plays}
use Rattle.script_search.proofs.Planning.{before_end}

module _ (l : Layout) (xs : List Line) (ms : List Moment) where
  -- a scene that is there, or the chain from which ends at one
  abbrev IsMet : Scene → Type 0
  IsMet s = HasScene ms s ⊎ HasEnd l xs ms s

  module _ (closed : IsClosed l xs ms (length ms)) where
    around_there : (s : Scene) → HasScene ms s → IsLookedAround l xs IsMet s
    around_there s has =
        inl (λ e u goes. inr (closed has.0 has.1 (before_end ms has.0 has.1 has.2) has.2 e u (goes_from l xs s (scene_of has.1) e u (sym has.3) goes)))

    around_end : (s : Scene) (h : List Event) (u : Scene) → IsChain l xs s h u → HasScene ms u → IsLookedAround l xs IsMet s
    around_end s [] u chain has = around_there s (subst (HasScene ms) (sym chain.0) has)
    around_end s (e ∷ h) u chain has = inr (e, chain.0, chain.1.0, inr (h, u, chain.2, has))

    around_met : (s : Scene) → IsMet s → IsLookedAround l xs IsMet s
    around_met s (inl has) = around_there s has
    around_met s (inr end) = around_end s end.0 end.1 end.2 end.3

  module _ (alive : IsAlive l xs ms (length ms)) where
    alive_there : (s : Scene) → HasScene ms s → AllFinished l xs s ⊎ GoesOn l xs s
    alive_there s has = subst (λ (z : Scene). AllFinished l xs z ⊎ GoesOn l xs z) has.3 (alive has.0 has.1 (before_end ms has.0 has.1 has.2) has.2)

    alive_end : (s : Scene) (h : List Event) (u : Scene) → IsChain l xs s h u → HasScene ms u → AllFinished l xs s ⊎ GoesOn l xs s
    alive_end s [] u chain has = alive_there s (subst (HasScene ms) (sym chain.0) has)
    alive_end s (e ∷ h) u chain has = inr (e, chain.0, chain.1.0.1)

    alive_met : (s : Scene) → IsMet s → AllFinished l xs s ⊎ GoesOn l xs s
    alive_met s (inl has) = alive_there s has
    alive_met s (inr end) = alive_end s end.0 end.1 end.2 end.3

  -- all that need be are found, and none is stuck
  pub all_end : IsScript l xs → HasScene ms (first_scene l.version) → IsClosed l xs ms (length ms) → IsAlive l xs ms (length ms) → Ends l xs
  all_end script first closed alive = seen_end l xs script IsMet (around_met closed) (inl first) (alive_met alive)

  module _ (parents : List ℕ) (seen : IsSeen l xs ms parents) where
    -- each is reached by a play
    reached_below : (n k : ℕ) (m : Moment) → k < n → slice_get ms k ≡ Some m → (h : List Event) × IsPlayTo l xs h (scene_of m)
    reached_below zero k m low at = absurd (omega arith)
    reached_below (suc n) zero m low at = ([], sym (seen.root m at))
    reached_below (suc n) (suc k) m low at =
        let child = seen.linked (suc k) m at (omega arith) in
        let before = child.before in
        let path = reached_below n child.place child.parent (omega arith) child.there in (
          path.0 ++ child.event ∷ child.rest,
          plays_append l xs (first_scene l.version) path.0 (scene_of child.parent) (child.event ∷ child.rest) (scene_of m) path.1
              (child.between, child.goes, chain_plays l xs child.between child.rest (scene_of m) child.chain),
        )

    pub reached : (k : ℕ) (m : Moment) → slice_get ms k ≡ Some m → (h : List Event) × IsPlayTo l xs h (scene_of m)
    reached k m at = reached_below (suc k) k m (omega arith) at
