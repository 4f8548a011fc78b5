-- Stints: what each thread got with a mutex and left with it, in one order that agrees with the history.
use Rattle.std.specs.Prelude.{◌≡◌, ℕ, cond, eqb, List, [], ◌∷◌, ◌++◌, filter, map, slice_set}
use mathlib.Core.Option.{Option, none, some}
use lib.ListN.{get_elem?}
use Rattle.larch_actions.specs.declared.event.Event.{Event}
use Rattle.larch_actions.specs.Takers.{givers}
use Rattle.nub_rule.specs.declared.view.Part.{Part}
use Rattle.nub_rule.specs.declared.view.Stint.{Stint}
use Rattle.nub_rule.specs.Parts.{closing_on}

module _ {T H : Type 0} where
  -- the stints of the thread n, those with the mutex m, and the threads of these
  abbrev pub stints_by : ℕ → List (Stint T H) → List (Stint T H)
  stints_by n ss = filter (λ s. eqb s.thread n) ss

  abbrev pub stints_at : ℕ → List (Stint T H) → List (Stint T H)
  stints_at m ss = filter (λ s. eqb s.mutex m) ss

  abbrev pub stinters : ℕ → List (Stint T H) → List ℕ
  stinters m ss = map (λ s. s.thread) (stints_at m ss)

  -- the stints lead from the values xs and shares hs to ys and rs: each got the value of its mutex, and then left the next with its new share. The
  -- lock invariant holds before each and at the end
  abbrev pub StintsLead : (List T → List H → Type 0) → List T → List H → List (Stint T H) → List T → List H → Type 0
  StintsLead holds xs hs [] ys rs = holds xs hs × (xs ≡ ys) × (hs ≡ rs)
  StintsLead holds xs hs (s ∷ ss) ys rs = holds xs hs × (get_elem? xs s.mutex ≡ some s.got) × (get_elem? hs s.thread ≡ some s.before)
      × StintsLead holds (slice_set xs s.mutex s.left) (slice_set hs s.thread s.after) ss ys rs

  -- from the value x of a mutex its stints lead to y: the first got x, each other got what the one before left, and the last left y
  abbrev pub AreInTurn : T → List (Stint T H) → T → Type 0
  AreInTurn x [] y = x ≡ y
  AreInTurn x (s ∷ ss) y = (s.got ≡ x) × AreInTurn s.left ss y

  -- VALUES ALONG THE HISTORY: the stints lead from first values to those last released. Those who
  -- give a mutex back in the history are those whose stints with it are over, and then whoever has
  -- yet to clear its bit
  pub record Stinted (holds : List T → List H → Type 0) (log : List Event) (owner : ℕ → Option ℕ) (values : List T) (shares : List H)
      (all : List (Part T H)) : Type 0 where
    pub first : List T
    pub first_shares : List H
    pub stints : List (Stint T H)
    pub closing : ℕ → List ℕ
    pub lead : StintsLead holds first first_shares stints values shares
    pub own : (n : ℕ) (p : Part T H) → get_elem? all n ≡ some p → stints_by n stints ≡ p.stints
    pub gives : (m : ℕ) → givers m log ≡ stinters m stints ++ closing m
    pub free : (m : ℕ) → owner m ≡ none → closing m ≡ []
    pub closes : (n : ℕ) (p : Part T H) → get_elem? all n ≡ some p → (m : ℕ) → owner m ≡ some n → closing m ≡ cond (closing_on p.wait m) (n ∷ []) []

  -- the same at the close, when no thread has a mutex
  pub record StintedToEnd (holds : List T → List H → Type 0) (log : List Event) (values : List T) (shares : List H) (all : List (Part T H)) : Type 0 where
    pub first : List T
    pub first_shares : List H
    pub stints : List (Stint T H)
    pub lead : StintsLead holds first first_shares stints values shares
    pub own : (n : ℕ) (p : Part T H) → get_elem? all n ≡ some p → stints_by n stints ≡ p.stints
    pub gives : (m : ℕ) → givers m log ≡ stinters m stints
