-- A thread in a call at a buffer: while it holds the mutex, and when the call is over.
use Rattle.std.specs.Prelude.{◌≡◌, ◌≢◌, ℕ, Bool, List, slice_set, Option as Opt, Some, None}
use mathlib.Core.Option.{some}
use lib.ListN.{get_elem?}
use Rattle.larch_actions.specs.declared.event.Event.{Event}
use Rattle.nub_rule.specs.Known.{Known, Shape, Holds}
use Rattle.nub.specs.Idle.{IsIdle}
use Rattle.nub.specs.Rest.{Added, AtRest, IsSame}
use Rattle.bounded_buffer.specs.declared.did.Did.{Did}
use Rattle.bounded_buffer.specs.declared.side.Side.{Side}
use Rattle.bounded_buffer.specs.Calls.{Ran, entered, is_signalled}
use Rattle.bounded_buffer.specs.Parts.{Used, HasDone, IsWait, IsWithin, KnowsShut}
use Rattle.bounded_buffer.specs.Rings.{Held, Does}
use Rattle.bounded_buffer.specs.Sides.{more}

module _ {W V H T : Type 0} (ring_in : V → Opt (Held T)) (part : H → ℕ → Used T) (alike : H → H → Type 0) where
  -- with the share s the thread t may do this at the ring under the mutex m, and the change `after`
  -- says so
  abbrev pub Lawful : (W → ℕ → ℕ → V → V → H → H → Type 0) → (W → ℕ → ℕ → V → V → H → H) → W → ℕ → ℕ → Did T → H → Type 0
  Lawful allows after w m t d s = (x y : V) (q p : Held T) → ring_in x ≡ Some q → ring_in y ≡ Some p → Does d q p
      → allows w m t x y s (after w m t x y s) × HasDone part m d s (after w m t x y s) × (IsWait d → alike s (after w m t x y s))

  -- a call since a is over: the thread came from this side, waited in the condition c while it had
  -- to, did this last at the ring under the mutex m, signalled o if it put or took, and holds what
  -- it held before
  pub record Ended (p : Shape W) (m c o : ℕ) (side : Side) (after : W → ℕ → ℕ → V → V → H → H) (d : Opt (Did T)) (s : H)
      (a b : Known V H W) : Type 0 where
    pub held : b.held ≡ a.held
    pub idle : (n : ℕ) (u r : H) → IsIdle p n u a → b.share ≡ Some r → IsIdle p n r b
    pub ran : Ran ring_in part after alike p.world m c o a.number (more side) d s a b

  module _ (fit : W → ℕ → V → ℕ → H → Type 0) (p : Shape W) (m c : ℕ) (side : Side) where
    -- since a the thread acquired the mutex m and made these events, with k waits; it holds m with
    -- the value x
    pub record IsIn (es : List Event) (k : ℕ) (s : H) (x : V) (a b : Known V H W) : Type 0 where
      pub rest : AtRest p b
      pub same : IsSame a b
      pub events : Added es a b
      pub held : b.held ≡ slice_set a.held m (Some x)
      pub holds : Holds b m x
      pub share : H
      pub is_share : b.share ≡ Some share
      pub here : part share m ≡ more side k (part s m)
      pub elsewhere : (j : ℕ) → j ≢ m → part share j ≡ part s j
      pub is_alike : alike s share
      pub fits : fit p.world m x a.number share

    -- since a the thread acquired the mutex m and waited in the condition c while it had to; it has
    -- the ring q
    pub record HasEntered (s : H) (q : Held T) (a b : Known V H W) : Type 0 where
      pub waited : ℕ
      pub value : V
      pub inn : IsIn (entered a.number m c waited) waited s value a b
      pub ring : ring_in value ≡ Some q
      pub within : IsWithin (part inn.share m) q
      pub at_once : KnowsShut (part s m) → waited ≡ 0

    -- the thread entered with the share s and may do this at the ring q, which turns it into r; it
    -- signals the other side if it put or took
    pub record Visits (allows : W → ℕ → ℕ → V → V → H → H → Type 0) (after : W → ℕ → ℕ → V → V → H → H) (tell : Bool) (s : H) (q r : Held T)
        (d : Did T) (a b : Known V H W) : Type 0 where
      pub lacks : get_elem? a.held m ≡ some None
      pub has : HasEntered s q a b
      pub does : Does d q r
      pub lawful : Lawful allows after p.world m a.number d has.inn.share
      pub signalled : tell ≡ is_signalled d
