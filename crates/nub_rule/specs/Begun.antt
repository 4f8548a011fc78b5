-- The threads that have begun to wait in a condition, and the word that counts them.
use Rattle.std.specs.Prelude.{◌≡◌, ℕ, ◌+◌, ◌<◌, cond, eqb, List, [], ◌∷◌, Option as Opt, Some, None, slice_index}
use mathlib.Core.Option.{some}
use lib.ListN.{get_elem?}
use Rattle.nub_rule.specs.declared.view.Part.{Part}
use Rattle.nub_rule.specs.declared.view.Stand.{Stand}
use Rattle.nub_rule.specs.declared.view.Wait.{Wait}
use Rattle.nub_rule.specs.Places.{cond_object, waits_at}

-- 1 if the thread has raised the waiters count of the condition c, else 0
abbrev pub raise_of : Opt ℕ → ℕ → ℕ
raise_of None c = 0
raise_of (Some d) c = cond (eqb d c) 1 0

module _ {T H : Type 0} where
  -- how many threads have raised the waiters count of the condition c and haven't lowered it
  abbrev pub raisers : ℕ → List (Part T H) → ℕ
  raisers c [] = 0
  raisers c (p ∷ ps) = raise_of p.raised c + raisers c ps

  -- a thread that is in a condition by a count, or stands there, has raised the waiters count
  -- there; if it stands there, it is in a wait there
  pub record IsCounted (p : Part T H) : Type 0 where
    pub member : (w : Wait) (k : ℕ) → p.wait ≡ Some w → w.member ≡ Some k → p.raised ≡ Some w.cond.0
    pub stander : (s : Stand) (c : ℕ) → p.stand ≡ Some s → s.at ≡ cond_object c → (p.raised ≡ Some c) × (w : Wait) × (p.wait ≡ Some w)
        × (w.cond.0 ≡ c)

  -- BEGUN WAITS: the word of a condition counts the threads that have raised it and haven't lowered
  -- it, and each thread in the condition is one of these
  pub record BegunWaits (words : List ℕ) (all : List (Part T H)) : Type 0 where
    pub counted : (c : ℕ) → c < 64 → slice_index words (waits_at (cond_object c)) ≡ raisers c all
    pub covered : (n : ℕ) (p : Part T H) → get_elem? all n ≡ some p → IsCounted p
