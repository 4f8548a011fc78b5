-- What the lists of a board show, and how they change.
use Rattle.std.proofs.Common.{◌≡◌, ◌≢◌, ◌↔◌, ◌⊎◌, ⊎_elim, IsTrue, ℕ, ◌+◌, ◌<◌, ◌≤◌, Bool, true, false, List, length, get_or, set, refl, sym, ap, ◌∙◌, arith, below_more}
use mathlib.Core.Option.{none, some, some-ne-none}
use Rattle.std.specs.declared.option.Option.{Option}
use Rattle.larch_actions.specs.declared.event.Pending.{Pending}
use Rattle.larch_actions.specs.declared.event.Pending.TheVariants.{Nothing}
use Rattle.larch_actions.specs.declared.event.Life.TheVariants.{Live}
use Rattle.larch_actions.specs.Actions.{put}
use Rattle.larch_actions.specs.State.{shown_at, HasBegun}
use Rattle.larch_actions.proofs.Shown.{shown_at-get_or, shown_at-set, shown_at-past, put-same}
use Rattle.script_search.specs.declared.board.Place.{Place}
use Rattle.script_search.specs.declared.board.Place.TheVariants as place
use Rattle.script_search.specs.declared.board.Thread.{Thread}
use Rattle.script_search.specs.Boards.{Moment, spec_of, played_of, pending_of, life_of, life_beyond, is_inside, holder_of}

module _ (m : Moment) (i : ℕ) (low : i < length m.threads) (e : Thread) where
  pub life_now : (spec_of m).life i ≡ life_of (get_or m.threads i e).place
  life_now = shown_at-get_or (λ (x : Thread). life_of x.place) (life_beyond m.second) m.threads i e low

  pub pending_now : (spec_of m).pending i ≡ pending_of (get_or m.threads i e).place
  pending_now = shown_at-get_or (λ (x : Thread). pending_of x.place) Nothing m.threads i e low

  pub member_now : (c : ℕ) → (spec_of m).members c i ≡ is_inside c (get_or m.threads i e).place
  member_now c = shown_at-get_or (λ (x : Thread). is_inside c x.place) false m.threads i e low

  pub alert_now : (spec_of m).alerts i ≡ (get_or m.threads i e).alerted
  alert_now = shown_at-get_or (λ (x : Thread). x.alerted) false m.threads i e low

  pub played_now : played_of m i ≡ (get_or m.threads i e).played
  played_now = shown_at-get_or (λ (x : Thread). x.played) 0 m.threads i e low

-- one thread changed
module _ (m : Moment) (i : ℕ) (low : i < length m.threads) (x : Thread) where
  pub place-set : x.alerted ≡ (spec_of m).alerts i → spec_of (record m { threads = set m.threads i x }) ≡ record (spec_of m) {
    members = λ c. put ((spec_of m).members c) i (is_inside c x.place);
    pending = put (spec_of m).pending i (pending_of x.place);
    life = put (spec_of m).life i (life_of x.place);
  }
  place-set same = λ k. record (spec_of m) {
    members = λ c. shown_at-set (λ (y : Thread). is_inside c y.place) false m.threads i x low k;
    alerts = (shown_at-set (λ (y : Thread). y.alerted) false m.threads i x low ∙ put-same (spec_of m).alerts i x.alerted (sym same)) k;
    pending = shown_at-set (λ (y : Thread). pending_of y.place) Nothing m.threads i x low k;
    life = shown_at-set (λ (y : Thread). life_of y.place) (life_beyond m.second) m.threads i x low k;
  }

  same_place : ((c : ℕ) → is_inside c x.place ≡ (spec_of m).members c i) → pending_of x.place ≡ (spec_of m).pending i → life_of x.place ≡ (spec_of m).life i
      → spec_of (record m { threads = set m.threads i x }) ≡ record (spec_of m) { alerts = put (spec_of m).alerts i x.alerted }
  same_place members pending life = λ k. record (spec_of m) {
    members = λ c. (shown_at-set (λ (y : Thread). is_inside c y.place) false m.threads i x low ∙ put-same ((spec_of m).members c) i (is_inside c x.place) (sym (members c))) k;
    alerts = shown_at-set (λ (y : Thread). y.alerted) false m.threads i x low k;
    pending = (shown_at-set (λ (y : Thread). pending_of y.place) Nothing m.threads i x low ∙ put-same (spec_of m).pending i (pending_of x.place) (sym pending)) k;
    life = (shown_at-set (λ (y : Thread). life_of y.place) (life_beyond m.second) m.threads i x low ∙ put-same (spec_of m).life i (life_of x.place) (sym life)) k;
  }

  -- its alert alone, where its place is as before
  pub alert-set : (e : Thread) → x.place ≡ (get_or m.threads i e).place → spec_of (record m { threads = set m.threads i x }) ≡ record (spec_of m) { alerts = put (spec_of m).alerts i x.alerted }
  alert-set e same = same_place
      (λ c. ap (is_inside c) same ∙ sym (member_now m i low e c))
      (ap pending_of same ∙ sym (pending_now m i low e))
      (ap life_of same ∙ sym (life_now m i low e))

  -- neither its place nor its alert
  pub spec-set : (e : Thread) → x.place ≡ (get_or m.threads i e).place → x.alerted ≡ (get_or m.threads i e).alerted → spec_of (record m { threads = set m.threads i x }) ≡ spec_of m
  spec-set e same alerted =
      alert-set e same
      ∙ ap (λ f. record (spec_of m) { alerts = f }) (put-same (spec_of m).alerts i x.alerted (alert_now m i low e ∙ sym alerted))

  pub played-set : played_of (record m { threads = set m.threads i x }) ≡ put (played_of m) i x.played
  played-set = shown_at-set (λ (y : Thread). y.played) 0 m.threads i x low

  pub played-same : (e : Thread) → x.played ≡ (get_or m.threads i e).played → played_of (record m { threads = set m.threads i x }) ≡ played_of m
  played-same e same = played-set ∙ put-same (played_of m) i x.played (played_now m i low e ∙ sym same)

pub holder-set : (m : Moment) (i : ℕ) (v : Option ℕ) → i < length m.holders → spec_of (record m { holders = set m.holders i v }) ≡ record (spec_of m) { holder = put (spec_of m).holder i (holder_of v) }
holder-set m i v h = ap (λ f. record (spec_of m) { holder = f }) (shown_at-set holder_of none m.holders i v h)

pub available-set : (m : Moment) (i : ℕ) (v : Bool) → i < length m.available → spec_of (record m { available = set m.available i v }) ≡ record (spec_of m) { avail = put (spec_of m).avail i v }
available-set m i v h = ap (λ f. record (spec_of m) { avail = f }) (shown_at-set (λ b. b) true m.available i v h)

-- a thread that has begun nothing is inside no condition, and one in a wait at most inside its own
pub idle_outside : (p : Place) (c : ℕ) → pending_of p ≡ Nothing → is_inside c p ≡ false
idle_outside (place.Waiting m k inside) c h = absurd (cc)
idle_outside (place.AlertWaiting m k inside) c h = absurd (cc)
idle_outside _ c h = refl

-- a test of a value that is equal to another
pub iff_at : {A : Type 0} (b : Bool) (x y z : A) → x ≡ y → (IsTrue b ↔ (y ≡ z)) → IsTrue b ↔ (x ≡ z)
iff_at b x y z e h = ((λ t. e ∙ h.0 t), (λ q. h.1 (sym e ∙ q)))

-- what one thread's entry, which was read, says
module _ (m : Moment) (i : ℕ) (low : i < length m.threads) (x : Thread) (is : x ≡ get_or m.threads i x) where
  pub life_is : (spec_of m).life i ≡ life_of x.place
  life_is = life_now m i low x ∙ ap (λ (y : Thread). life_of y.place) (sym is)

  pub pending_is : (spec_of m).pending i ≡ pending_of x.place
  pending_is = pending_now m i low x ∙ ap (λ (y : Thread). pending_of y.place) (sym is)

  pub member_is : (c : ℕ) → (spec_of m).members c i ≡ is_inside c x.place
  member_is c = member_now m i low x c ∙ ap (λ (y : Thread). is_inside c y.place) (sym is)

  pub alert_is : (spec_of m).alerts i ≡ x.alerted
  alert_is = alert_now m i low x ∙ ap (λ (y : Thread). y.alerted) (sym is)

  pub played_is : played_of m i ≡ x.played
  played_is = played_now m i low x ∙ ap (λ (y : Thread). y.played) (sym is)

  pub begun_is : (what : Pending) (b : Bool) → (IsTrue b ↔ ((life_of x.place ≡ Live) × (pending_of x.place ≡ what))) → IsTrue b ↔ HasBegun (spec_of m) i what
  begun_is what b h = (
    (λ t. let both = h.0 t in (life_is ∙ both.0, pending_is ∙ both.1)),
    (λ has. h.1 (sym life_is ∙ has.0, sym pending_is ∙ has.1)),
  )

pub holder_is : (m : Moment) (i : ℕ) → i < length m.holders → (v : Option ℕ) → v ≡ get_or m.holders i v → (spec_of m).holder i ≡ holder_of v
holder_is m i low v is = shown_at-get_or holder_of none m.holders i v low ∙ ap holder_of (sym is)

pub available_is : (m : Moment) (i : ℕ) → i < length m.available → (v : Bool) → v ≡ get_or m.available i v → v ≡ (spec_of m).avail i
available_is m i low v is = is ∙ sym (shown_at-get_or (λ b. b) true m.available i v low)

-- a thread that is none of the holders
pub held_here : (xs : List (Option ℕ)) (t m : ℕ) (e : Option ℕ) → m < length xs → holder_of (get_or xs m e) ≡ some t → ((n : ℕ) → shown_at holder_of none xs n ≢ some t) → ⊥
held_here xs t m e low is h = h m (shown_at-get_or holder_of none xs m e low ∙ is)

pub none_further : (xs : List (Option ℕ)) (t m : ℕ) (e : Option ℕ) → m < length xs → holder_of (get_or xs m e) ≢ some t → ((n : ℕ) → n < m → shown_at holder_of none xs n ≢ some t)
    → (n : ℕ) → n < m + 1 → shown_at holder_of none xs n ≢ some t
none_further xs t m e low not h = below_more _ _ h (λ q. not (sym (shown_at-get_or holder_of none xs m e low) ∙ q))

pub held_by_none : (xs : List (Option ℕ)) (t : ℕ) → ((n : ℕ) → n < length xs → shown_at holder_of none xs n ≢ some t) → (n : ℕ) → shown_at holder_of none xs n ≢ some t
held_by_none xs t h n e = ⊎_elim
    (λ (low : n < length xs). h n low e)
    (λ (high : length xs ≤ n). some-ne-none t (sym e ∙ shown_at-past holder_of none xs n high))
    (low_or_high n (length xs))
  where
    low_or_high : (n m : ℕ) → (n < m) ⊎ (m ≤ n)
    low_or_high n m = grind arith
