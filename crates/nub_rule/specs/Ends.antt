-- What a package begins with, and what it leaves.
use Rattle.std.specs.Prelude.{◌≡◌, ◌≢◌, ℕ, ◌<◌, List, [], ◌++◌, map, length, replicate, slice_index, Option as Opt, Some}
use Rattle.std.specs.List.{range_with_len}
use mathlib.Core.Option.{none, some}
use lib.ListN.{get_elem?}
use Rattle.larch_actions.specs.declared.event.Event.{Event}
use Rattle.larch_actions.specs.declared.event.Layout.{Layout}
use Rattle.larch_actions.specs.declared.event.Version.{Version}
use Rattle.larch_actions.specs.declared.event.Version.TheVariants.{One, Two}
use Rattle.larch_actions.specs.declared.event.Pending.TheVariants.{Nothing}
use Rattle.larch_actions.specs.Actions.{Spec, IsRun, AreOver, lives_at_first}
use Rattle.atomic_table.specs.Seated.{TableId}
use Rattle.nub_rule.specs.declared.rule.Slot.{Slot}
use Rattle.nub_rule.specs.declared.rule.Slot.TheVariants.{Value, Queue}
use Rattle.nub_rule.specs.declared.view.Child.TheVariants.{No}
use Rattle.nub_rule.specs.declared.view.Kind.TheVariants.{Member}
use Rattle.nub_rule.specs.declared.view.Part.{Part}
use Rattle.nub_rule.specs.Stints.{StintedToEnd}
use Rattle.nub_rule.specs.Items.{no_queue, Each, HistoryItem, Shared}
use Rattle.nub_rule.specs.Parts.{first_part, newborn, number_of}
use Rattle.nub_rule.specs.Known.{Known, known_as, free_space}
use Rattle.nub_rule.specs.Rule.{begun}
use Rattle.nub_rule.specs.Places.{life_at, value_at, word_count}

-- how many of `threads` threads live at first
abbrev pub living : Version → ℕ → ℕ
living One threads = threads
living Two threads = 1

-- the words at the start: each is 0, except the life words of the threads that live from the
-- opening on
pub record AreFirst (l : Layout) (words : List ℕ) : Type 0 where
  pub wide : length words ≡ word_count
  pub lives : (t : ℕ) → t < l.threads → slice_index words (life_at t) ≡ number_of (lives_at_first l.version t)
  pub zeros : (k : ℕ) → ((t : ℕ) → k ≢ life_at t) → slice_index words k ≡ 0

-- f 0, f 1 and so on, n of them
abbrev pub firsts : {A : Type 0} → (ℕ → A) → ℕ → List A
firsts f n = map f (range_with_len 0 n)

-- a slot for the queue of each object, then one for each value
abbrev pub opening_slots : {T : Type 0} → List T → List (Slot T)
opening_slots {T} values = replicate 192 (Queue no_queue) ++ map (λ x. Value (Some x)) values

module _ {T H : Type 0} where
  -- with the shares of these threads the values keep the lock invariant, and there is one list of
  -- events that is legal, closed and made of the parts of all of them
  pub record Leaves (l : Layout) (holds : List T → List H → Type 0) (parts : List (Part T H)) (values : List T) : Type 0 where
    pub log : List Event
    pub spec : Spec
    pub shares : List H
    pub run : IsRun l.version log spec
    pub over : AreOver l.version spec.life
    pub nothing_held : (m : ℕ) → spec.holder m ≡ none
    pub nothing_begun : (t : ℕ) → spec.pending t ≡ Nothing
    pub history : HistoryItem l log parts
    pub kept : holds values shares
    pub each_share : length shares ≡ length parts
    pub shared : Each (Shared shares) parts
    pub stinted : StintedToEnd holds log values shares parts

  -- the same of the values in the slots
  pub record Settles (l : Layout) (holds : List T → List H → Type 0) (parts : List (Part T H)) (xs : List (Slot T)) : Type 0 where
    pub values : List T
    pub leaves : Leaves l holds parts values
    pub many : length values ≡ l.mutexes
    pub values_there : Each (λ m x. get_elem? xs (value_at m) ≡ some (Value (Some x))) values

module _ {T H W : Type 0} where
  -- the thread n, which has done nothing
  abbrev pub first_known : TableId → Version → W → (W → ℕ → H) → ℕ → Known T H W
  first_known z version w begin n =
      known_as z n (
        record {
          world = Some w;
          kind = Member;
          number = n;
          part = first_part version n (Some (begin w n));
          child = No;
          next =
              0;
          back = [];
        },
        [],
      ) [] (free_space 0) 0

  -- the thread n, which was forked with this history and has done nothing, with room for so many events
  abbrev pub newborn_known : TableId → Version → Opt W → (W → ℕ → H) → ℕ → List Event → ℕ → Known T H W
  newborn_known z version world begin n seen capacity =
      known_as z n (
        record {
          world = world;
          kind = Member;
          number = n;
          part = newborn version seen (begun begin n world);
          child = No;
          next =
              0;
          back = [];
        },
        [],
      ) [] (free_space capacity) 0
