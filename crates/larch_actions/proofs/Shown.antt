-- What lists show.
use Rattle.std.proofs.Common.{◌≡◌, ◌≢◌, ◌↔◌, IsTrue, None, ℕ, zero, suc, ◌+◌, ◌<◌, ◌≤◌, ◌⊎◌, ⊎_elim, Bool, true, false, cond, eqb, List, [], ◌∷◌, length, get_or, set, replicate, refl, sym, ap, ◌∙◌, arith, eq-eqb, ne_eqb}
use mathlib.Core.Logic.{dite}
use native.Mathlib.Decide.{ℕ_discrete}
use mathlib.Core.Option.{none, some, some-ne-none}
use Rattle.std.specs.declared.option.Option.{Option}
use Rattle.larch_actions.specs.declared.event.ThreadId.{ThreadId}
use Rattle.larch_actions.specs.declared.event.Pending.{Pending}
use Rattle.larch_actions.specs.declared.event.Pending.TheVariants.{Nothing, Waiting, AlertWaiting}
use Rattle.larch_actions.specs.declared.event.Life.{Life}
use Rattle.larch_actions.specs.declared.event.Life.TheVariants.{Live}
use Rattle.larch_actions.specs.declared.state.ThreadState.{ThreadState}
use Rattle.larch_actions.specs.declared.state.ThreadState.TheVariants as thread
use Rattle.larch_actions.specs.declared.thread_set.ThreadSet.{ThreadSet}
use Rattle.larch_actions.specs.Actions.{put}
use Rattle.larch_actions.specs.Sets.{in_set}
use Rattle.larch_actions.specs.State.{Moment, shown_at, spec_of, holder_of, pending_of, life_of, life_beyond, begun, is_begun, HasBegun}

module _ {X Y : Type 0} where
  pub shown_at-get_or : (view : X → Y) (d : Y) (xs : List X) (i : ℕ) (e : X) → i < length xs → shown_at view d xs i ≡ view (get_or xs i e)
  shown_at-get_or view d [] i e h = absurd (omega arith)
  shown_at-get_or view d (x ∷ xs) zero e h = refl
  shown_at-get_or view d (x ∷ xs) (suc i) e h = shown_at-get_or view d xs i e (omega arith)

  shown_at-same : (view : X → Y) (d : Y) (xs : List X) (i : ℕ) (v : X) → i < length xs → shown_at view d (set xs i v) i ≡ view v
  shown_at-same view d [] i v h = absurd (omega arith)
  shown_at-same view d (x ∷ xs) zero v h = refl
  shown_at-same view d (x ∷ xs) (suc i) v h = shown_at-same view d xs i v (omega arith)

  shown_at-other : (view : X → Y) (d : Y) (xs : List X) (i j : ℕ) (v : X) → j ≢ i → shown_at view d (set xs i v) j ≡ shown_at view d xs j
  shown_at-other view d [] i j v ne = refl
  shown_at-other view d (x ∷ xs) zero zero v ne = absurd (ne refl)
  shown_at-other view d (x ∷ xs) zero (suc j) v ne = refl
  shown_at-other view d (x ∷ xs) (suc i) zero v ne = refl
  shown_at-other view d (x ∷ xs) (suc i) (suc j) v ne = shown_at-other view d xs i j v (λ e. ne (ap suc e))

  set_at : (view : X → Y) (d : Y) (xs : List X) (i : ℕ) (v : X) (j : ℕ) → i < length xs → shown_at view d (set xs i v) j ≡ put (shown_at view d xs) i (view v) j
  set_at view d xs i v j h = dite (ℕ_discrete j i)
      (λ e. ap (shown_at view d (set xs i v)) e ∙ (shown_at-same view d xs i v h ∙ sym (ap (λ b. cond b (view v) (shown_at view d xs j)) (eq-eqb j i e))))
      (λ ne. shown_at-other view d xs i j v ne ∙ sym (ap (λ b. cond b (view v) (shown_at view d xs j)) (ne_eqb j i ne)))

  -- a list with one element changed shows the function with one value changed
  pub shown_at-set : (view : X → Y) (d : Y) (xs : List X) (i : ℕ) (v : X) → i < length xs → shown_at view d (set xs i v) ≡ put (shown_at view d xs) i (view v)
  shown_at-set view d xs i v h = λ k j. set_at view d xs i v j h k

  -- a list of one element, many times
  pub shown_at-replicate : (view : X → Y) (d : Y) (n : ℕ) (x : X) → view x ≡ d → shown_at view d (replicate n x) ≡ (λ j. d)
  shown_at-replicate view d n x e = λ k j. all n j k
    where
      all : (n j : ℕ) → shown_at view d (replicate n x) j ≡ d
      all zero j = refl
      all (suc n) zero = e
      all (suc n) (suc j) = all n j

-- what one change of the lists does to the state that they show
pub set-holder : (m : Moment) (i : ℕ) (v : Option ThreadId) → i < length m.holders → spec_of (record m { holders = set m.holders i v }) ≡ record (spec_of m) { holder = put (spec_of m).holder i (holder_of v) }
set-holder m i v h = ap (λ f. record (spec_of m) { holder = f }) (shown_at-set holder_of none m.holders i v h)

pub set-members : (m : Moment) (i : ℕ) (v : ThreadSet) → i < length m.members → spec_of (record m { members = set m.members i v }) ≡ record (spec_of m) { members = put (spec_of m).members i (in_set v) }
set-members m i v h = ap (λ f. record (spec_of m) { members = f }) (shown_at-set in_set (λ _. false) m.members i v h)

pub set-available : (m : Moment) (i : ℕ) (v : Bool) → i < length m.available → spec_of (record m { available = set m.available i v }) ≡ record (spec_of m) { avail = put (spec_of m).avail i v }
set-available m i v h = ap (λ f. record (spec_of m) { avail = f }) (shown_at-set (λ b. b) true m.available i v h)

-- a function with one value replaced by the same
pub put-same : {A : Type 0} → (f : ℕ → A) (k : ℕ) (x : A) → f k ≡ x → put f k x ≡ f
put-same f k x e = λ i j. dite (ℕ_discrete j k)
    (λ is. ap (λ b. cond b x (f j)) (eq-eqb j k is) ∙ (sym e ∙ ap f (sym is)))
    (λ ne. ap (λ b. cond b x (f j)) (ne_eqb j k ne)) i

pub pending-begun : (what : Pending) → pending_of (begun what) ≡ what
pending-begun Nothing = refl
pending-begun (Waiting m c) = refl
pending-begun (AlertWaiting m c) = refl

pub life-begun : (what : Pending) → life_of (begun what) ≡ Live
life-begun Nothing = refl
life-begun (Waiting m c) = refl
life-begun (AlertWaiting m c) = refl

begun-back : (x : ThreadState) → life_of x ≡ Live → x ≡ begun (pending_of x)
begun-back thread.Unborn e = absurd (cc)
begun-back thread.Running e = refl
begun-back (thread.Waiting m c) e = refl
begun-back (thread.AlertWaiting m c) e = refl
begun-back thread.Ended e = absurd (cc)

begun-is : (x : ThreadState) (what : Pending) → (x ≡ begun what) ↔ ((life_of x ≡ Live) × (pending_of x ≡ what))
begun-is x what = ((λ e. (ap life_of e ∙ life-begun what, ap pending_of e ∙ pending-begun what)), (λ h. begun-back x h.0 ∙ ap begun h.1))

module _ (m : Moment) (i : ℕ) (low : i < length m.threads) where
  life_now : (e : ThreadState) → (spec_of m).life i ≡ life_of (get_or m.threads i e)
  life_now e = shown_at-get_or life_of (life_beyond m.layout.version) m.threads i e low

  pending_now : (e : ThreadState) → (spec_of m).pending i ≡ pending_of (get_or m.threads i e)
  pending_now e = shown_at-get_or pending_of Nothing m.threads i e low

  pub begun-shown : (e : ThreadState) (what : Pending) (b : Bool) → (IsTrue b ↔ (get_or m.threads i e ≡ begun what)) → IsTrue b ↔ HasBegun (spec_of m) i what
  begun-shown e what b h = let is = begun-is (get_or m.threads i e) what in
      ((λ t. let both = is.0 (h.0 t) in (life_now e ∙ both.0, pending_now e ∙ both.1)), (λ has. h.1 (is.1 (sym (life_now e) ∙ has.0, sym (pending_now e) ∙ has.1))))

  pub waits-shown : (e : ThreadState) (b : Bool) → b ≡ is_begun (pending_of (get_or m.threads i e)) → b ≡ is_begun ((spec_of m).pending i)
  waits-shown e b h = h ∙ ap is_begun (sym (pending_now e))

  pub life-shown : (e : ThreadState) (life : Life) (b : Bool) → (IsTrue b ↔ (life_of (get_or m.threads i e) ≡ life)) → IsTrue b ↔ ((spec_of m).life i ≡ life)
  life-shown e to b h = ((λ t. life_now e ∙ h.0 t), (λ is. h.1 (sym (life_now e) ∙ is)))

  pub idle-shown : (e : ThreadState) (b : Bool) → (IsTrue b → pending_of (get_or m.threads i e) ≡ Nothing) → IsTrue b → (spec_of m).pending i ≡ Nothing
  idle-shown e b h t = pending_now e ∙ h t

  set-thread : (v : ThreadState) → spec_of (record m { threads = set m.threads i v }) ≡ record (spec_of m) { pending = put (spec_of m).pending i (pending_of v); life = put (spec_of m).life i (life_of v) }
  set-thread v = λ k. record (spec_of m) { pending = shown_at-set pending_of Nothing m.threads i v low k; life = shown_at-set life_of (life_beyond m.layout.version) m.threads i v low k }

  pub set-pending : (what : Pending) → (spec_of m).life i ≡ Live → spec_of (record m { threads = set m.threads i (begun what) }) ≡ record (spec_of m) { pending = put (spec_of m).pending i what }
  set-pending what live = set-thread (begun what) ∙ (λ k. record (spec_of m) {
    pending = put (spec_of m).pending i (pending-begun what k);
    life = (ap (put (spec_of m).life i) (life-begun what) ∙ put-same (spec_of m).life i Live live) k;
  })

  pub set-life : (v : ThreadState) (life : Life) → life_of v ≡ life → pending_of v ≡ Nothing → (spec_of m).pending i ≡ Nothing → spec_of (record m { threads = set m.threads i v }) ≡ record (spec_of m) { life = put (spec_of m).life i life }
  set-life v to is plain idle = set-thread v ∙ (λ k. record (spec_of m) {
    pending = (ap (put (spec_of m).pending i) plain ∙ put-same (spec_of m).pending i Nothing idle) k;
    life = put (spec_of m).life i (is k);
  })

-- past the end of a list
pub shown_at-past : {X Y : Type 0} (view : X → Y) (d : Y) (xs : List X) (i : ℕ) → length xs ≤ i → shown_at view d xs i ≡ d
shown_at-past view d [] i h = refl
shown_at-past view d (x ∷ xs) zero h = absurd (omega arith)
shown_at-past view d (x ∷ xs) (suc i) h = shown_at-past view d xs i (omega arith)

-- a thread that is none of the holders holds none past their end either
pub held_by_none : (xs : List (Option ThreadId)) (t : ℕ) → ((n : ℕ) → n < length xs → shown_at holder_of none xs n ≢ some t) → (n : ℕ) → shown_at holder_of none xs n ≢ some t
held_by_none xs t h n e = ⊎_elim
    (λ (low : n < length xs). h n low e)
    (λ (high : length xs ≤ n). some-ne-none t (sym e ∙ shown_at-past holder_of none xs n high))
    (low_or_high n (length xs))
  where
    low_or_high : (n m : ℕ) → (n < m) ⊎ (m ≤ n)
    low_or_high n m = grind arith

pub held_here : (xs : List (Option ThreadId)) (t m : ℕ) → m < length xs → holder_of (get_or xs m None) ≡ some t → ((n : ℕ) → shown_at holder_of none xs n ≢ some t) → ⊥
held_here xs t m low is h = h m (shown_at-get_or holder_of none xs m None low ∙ is)

pub none_further : (xs : List (Option ThreadId)) (t m : ℕ) → m < length xs → holder_of (get_or xs m None) ≢ some t → ((n : ℕ) → n < m → shown_at holder_of none xs n ≢ some t)
    → (n : ℕ) → n < m + 1 → shown_at holder_of none xs n ≢ some t
none_further xs t m low not h n less e = dite (ℕ_discrete n m)
    (λ is. not (sym (shown_at-get_or holder_of none xs m None low) ∙ (ap (shown_at holder_of none xs) (sym is) ∙ e)))
    (λ ne. h n (omega (arith, less, ne)) e)

eqb-comm : (a b : ℕ) → eqb a b ≡ eqb b a
eqb-comm a b = dite (ℕ_discrete a b)
    (λ e. eq-eqb a b e ∙ sym (eq-eqb b a (sym e)))
    (λ ne. ne_eqb a b ne ∙ sym (ne_eqb b a (λ e. ne (sym e))))

-- a set in which one thread was changed
pub set-one : (f g : ℕ → Bool) (t : ℕ) (b : Bool) → ((k : ℕ) → g k ≡ cond (eqb t k) b (f k)) → g ≡ put f t b
set-one f g t b h = λ i k. (h k ∙ ap (λ x. cond x b (f k)) (eqb-comm t k)) i

pub set-alerts : (m : Moment) (s : ThreadSet) (t : ℕ) (b : Bool) → ((k : ℕ) → in_set s k ≡ cond (eqb t k) b (in_set m.alerts k)) → spec_of (record m { alerts = s }) ≡ record (spec_of m) { alerts = put (spec_of m).alerts t b }
set-alerts m s t b h = ap (λ f. record (spec_of m) { alerts = f }) (set-one (in_set m.alerts) (in_set s) t b h)
