-- The rule of the table: the views are those of the threads, and the items hold of the threads.
use Rattle.std.specs.Prelude.{Bool, ◌+◌, ◌++◌, None, Option as Opt, ◌≡◌, ◌≢◌, ◌⊎◌, ℕ, ◌<◌, ◌≤◌, List, [], ◌∷◌, length, Some}
use mathlib.Core.Option.{some}
use lib.ListN.{get_elem?}
use Rattle.larch_actions.specs.declared.event.Layout.{Layout}
use Rattle.larch_actions.specs.declared.event.Life.TheVariants.{Live}
use Rattle.larch_actions.specs.declared.event.Version.{Version}
use Rattle.atomic_table.specs.Table.{State}
use Rattle.nub_rule.specs.declared.rule.Slot.{Slot}
use Rattle.nub_rule.specs.declared.view.Part.{Part}
use Rattle.nub_rule.specs.declared.view.Child.{Child}
use Rattle.nub_rule.specs.declared.view.Child.TheVariants.{No, May, Forked}
use Rattle.nub_rule.specs.declared.view.View.{View}
use Rattle.nub_rule.specs.declared.view.Kind.{Kind}
use Rattle.nub_rule.specs.declared.view.Kind.TheVariants.{Root, Member, Collector, Spent}
use Rattle.nub_rule.specs.Parts.{HasNothing, first_part, newborn, no_part, unborn}
use Rattle.nub_rule.specs.Items.{Core}

-- a thread's first share, if the world is known
abbrev pub begun : {H W : Type 0} → (W → ℕ → H) → ℕ → Opt W → Opt H
begun begin n (Some w) = Some (begin w n)
begun begin n None = None

-- the thread n is the child that this speaks of
abbrev pub IsOfChild : Child → ℕ → Type 0
IsOfChild No n = ⊥
IsOfChild (May t) n = t ≡ n
IsOfChild (Forked t seen) n = t ≡ n

module _ {T H : Type 0} where
  -- a thread that hasn't begun, or has ended, has nothing and begins no other
  abbrev pub HasNothingUnlessLive : Part T H → Child → Type 0
  HasNothingUnlessLive p child = p.life ≢ Live → HasNothing p × (child ≡ No)

module _ {T H W : Type 0} where
  module _ (version : Version) (threads given : ℕ) (w : W) (begin : W → ℕ → H) (all : List (Part T H)) (seat_of : ℕ → ℕ) (id : ℕ) where
    -- the seat id is the first, which gives the numbers out. A thread that was not given out yet is
    -- with the seat 0
    pub record IsRoot (v : View T H W) : Type 0 where
      pub world : v.world ≡ Some w
      pub first : id ≡ 0
      pub next : v.next ≡ given
      pub of : v.part.version ≡ version
      pub unborn : (n : ℕ) → given ≤ n → n < threads → (seat_of n ≡ 0) × (get_elem? all n ≡ some (first_part version n (Some (begin w n))))

    -- what its view says of a child: its right was taken in, or it was forked and not yet handed
    -- out
    abbrev pub ChildFits : View T H W → Child → Type 0
    ChildFits v No = Unit {0}
    ChildFits v (May t) = (seat_of t ≡ id) × (t ≢ v.number) × (t < given) × (get_elem? all t ≡ some (unborn version (Some (begin w t))))
    ChildFits v (Forked t seen) = (seat_of t ≡ id) × (t ≢ v.number) × (t < given)
        × (get_elem? all t ≡ some (newborn version seen (Some (begin w t))))

    -- it is the seat of a thread, and its view has the thread's part
    pub record IsMember (v : View T H W) : Type 0 where
      pub world : v.world ≡ Some w
      pub later : 0 < id
      pub given_out : v.number < given
      pub sits : seat_of v.number ≡ id
      pub own : get_elem? all v.number ≡ some v.part
      pub child : ChildFits v v.child
      pub idle : HasNothingUnlessLive v.part v.child

    -- it takes the threads back, in order of their numbers, and has them from then on
    pub record IsCollector (v : View T H W) : Type 0 where
      pub world : v.world ≡ Some w
      pub few : length v.back ≤ given
      pub came_back : (n : ℕ) (p : Part T H) → get_elem? v.back n ≡ some p → (seat_of n ≡ id) × (get_elem? all n ≡ some p)
          × HasNothingUnlessLive p No

    -- what the seat id is for
    abbrev pub FitsAs : View T H W → Kind → Type 0
    FitsAs v Root = IsRoot v
    FitsAs v Member = IsMember v
    FitsAs v Collector = IsCollector v
    FitsAs v Spent = Unit {0}

    abbrev pub SeatFits : View T H W → Type 0
    SeatFits v = FitsAs v v.kind

  -- the thread n is with the seat of this view: it is the seat's own or its child's, came back to
  -- it, or is to be given out by it
  abbrev pub IsWith : View T H W → Kind → ℕ → Type 0
  IsWith v Root n = v.next ≤ n
  IsWith v Member n = (v.number ≡ n) ⊎ IsOfChild v.child n
  IsWith v Collector n = n < length v.back
  IsWith v Spent n = ⊥

  abbrev pub opening_view : Version → W → (W → ℕ → H) → View T H W
  opening_view version w begin =
      record { world = Some w; kind = Root; number = 0; part = first_part version 0 (Some (begin w 0)); child = No; next = 0; back = [] }

  -- the root, after it has given out the next number
  abbrev pub left_view : View T H W → View T H W
  left_view v = record v { next = v.next + 1 }

  -- the new seat, for the next number
  abbrev pub member_view : (W → ℕ → H) → View T H W → View T H W
  member_view begin v = record v
      { kind = Member; number = v.next; part = first_part v.part.version v.next (begun begin v.next v.world); child = No }

  -- the view of a thread, after it took in the right to fork the one with this seat
  abbrev pub taking_view : View T H W → View T H W → View T H W
  taking_view v u = record v { child = May u.number }

  -- the view of a thread, after it handed out the one that it forked, and the new seat for that
  abbrev pub handing_view : View T H W → View T H W
  handing_view v = record v { child = No }

  abbrev pub handed_view : (W → ℕ → H) → View T H W → Child → View T H W
  handed_view begin v (Forked t seen) = record v { number = t; part = newborn v.part.version seen (begun begin t v.world); child = No }
  handed_view begin v _ = v

  abbrev pub collector_view : W → View T H W
  collector_view w = record { world = Some w; kind = Collector; number = 0; part = no_part; child = No; next = 0; back = [] }

  -- the first view, as that of a collector
  abbrev pub collecting : View T H W → View T H W
  collecting v = record v { kind = Collector; part = no_part }

  -- the collector, after it took in a thread
  abbrev pub both_views : View T H W → View T H W → View T H W
  both_views v u = record v { back = v.back ++ u.part ∷ [] }

  abbrev pub spent_view : View T H W
  spent_view = record { world = None; kind = Spent; number = 0; part = no_part; child = No; next = 0; back = [] }

  pub record IsKept (l : Layout) (traced : Bool) (w : W) (begin : W → ℕ → H) (holds : W → List T → List H → Type 0)
      (s : State (Slot T) (View T H W)) : Type 0 where
    pub all : List (Part T H)
    pub seat_of : ℕ → ℕ
    pub given : ℕ
    pub seated : 0 < length s.views
    pub fits : (id : ℕ) (v : View T H W) → get_elem? s.views id ≡ some v → SeatFits l.version l.threads given w begin all seat_of id v
    pub placed : (n : ℕ) → n < l.threads → (v : View T H W) × (get_elem? s.views (seat_of n) ≡ some v) × IsWith v v.kind n
    pub core : Core l traced w holds s.words s.homes all
