-- A thread that took a mutex, waited under it, and has it again.
use Rattle.std.proofs.Common.{◌≡◌, ℕ, false, true, zero, suc, List, [], ◌∷◌, ◌++◌, Some, slice_set, sym, subst, ap, ◌∙◌, refl, length, length-append, arith}
use Rattle.std.specs.List.{AllByRecursion}
use Rattle.std.proofs.lemmas.List.{append-nil}
use Rattle.std.proofs.lemmas.Option.{same_Some}
use Rattle.atomic_table.proofs.Lists.{set_again}
use Rattle.larch_actions.specs.declared.event.Event.{Event}
use Rattle.nub_rule.specs.Known.{Known, Shape, Holds}
use Rattle.nub_rule.specs.Plays.{release_event, enqueue_event}
use Rattle.nub.specs.Holding.{IsHolding}
use Rattle.nub.specs.Rest.{Added, Adds, AtRest, IsSame}
use Rattle.nub.proofs.Adding.{added, added_on, adds_on}
use Rattle.nub.proofs.Holding.{held_on, retakes}
use Rattle.nub.proofs.Users.{same_on}
use Rattle.condition.specs.Waits.{resume_event}
use Rattle.alert_wait.specs.declared.outcome.Outcome.TheVariants.{Returned}
use Rattle.alert_wait.specs.Outcomes.{wait_end}
use Rattle.monitor.specs.Waits.{AreRefused, IsRefused, alert_waits, first_of, waits}

pub waits_more : (t m c k : ℕ) → waits t m c k ++ enqueue_event false t m c ∷ resume_event t m c ∷ [] ≡ waits t m c (suc k)
waits_more t m c zero = refl
waits_more t m c (suc k) = ap (λ l. enqueue_event false t m c ∷ resume_event t m c ∷ l) (waits_more t m c k)

pub alert_waits_more : (t m c k : ℕ) → alert_waits t m c k ++ enqueue_event true t m c ∷ wait_end Returned t m c ∷ [] ≡ alert_waits t m c (suc k)
alert_waits_more t m c zero = refl
alert_waits_more t m c (suc k) = ap (λ l. enqueue_event true t m c ∷ wait_end Returned t m c ∷ l) (alert_waits_more t m c k)

-- no value was refused yet
pub none_refused : {V : Type 0} (refused : V → Type 0) (got : V) → IsRefused refused got 0 got
none_refused refused got = record { all = record { seen = []; count = refl; each = tt }; first = refl }

refused_on : {V : Type 0} (refused : V → Type 0) (xs : List V) (x : V) → AllByRecursion refused xs → refused x → AllByRecursion refused (xs ++ x ∷ [])
refused_on refused [] x all one = (one, tt)
refused_on refused (y ∷ xs) x all one = (all.0, refused_on refused xs x all.1 one)

first_on : {V : Type 0} (xs : List V) (x y : V) → first_of (xs ++ x ∷ []) y ≡ first_of xs x
first_on [] x y = refl
first_on (z ∷ xs) x y = refl

one_longer : {V : Type 0} (xs : List V) (x : V) (k : ℕ) → length xs ≡ k → length (xs ++ x ∷ []) ≡ suc k
one_longer xs x k long = let more = length-append xs (x ∷ []) in omega arith

-- the value in hand was refused too, and another came
pub one_refused : {V : Type 0} (refused : V → Type 0) (got : V) (k : ℕ) (x y : V) → IsRefused refused got k x → refused x → IsRefused refused got (suc k) y
one_refused refused got k x y h one = record {
  all = record {
    seen = h.all.seen ++ x ∷ [];
    count = one_longer h.all.seen x k h.all.count;
    each = refused_on refused h.all.seen x h.all.each one;
  };
  first = first_on h.all.seen x y ∙ h.first;
}

all_as : {V : Type 0} (P Q : V → Type 0) → ((x : V) → P x → Q x) → (xs : List V) → AllByRecursion P xs → AllByRecursion Q xs
all_as P Q turn [] all = tt
all_as P Q turn (x ∷ xs) all = (turn x all.0, all_as P Q turn xs all.1)

-- what is so of a refused value is so of all
pub refused_as : {V : Type 0} (P Q : V → Type 0) (k : ℕ) → ((x : V) → P x → Q x) → AreRefused P k → AreRefused Q k
refused_as P Q k turn r = record { seen = r.seen; count = r.count; each = all_as P Q turn r.seen r.each }

module _ {T H W : Type 0} where
  -- since a the thread added these events, and it has the mutex m with the value x, which fits; its share is as it was
  pub record HasBack (fit : W → ℕ → T → ℕ → H → Type 0) (p : Shape W) (m : ℕ) (es : List Event) (x : T) (a b : Known T H W) : Type 0 where
    pub rest : AtRest p b
    pub same : IsSame a b
    pub events : Added es a b
    pub holds : Holds b m x
    pub held : b.held ≡ slice_set a.held m (Some x)
    pub share : b.share ≡ a.share
    pub fits : (s : H) → a.share ≡ Some s → fit p.world m x a.number s

  module _ (fits : W → ℕ → T → ℕ → H → Type 0) (p : Shape W) (m : ℕ) where
    pub has_yet : (x : T) (a : Known T H W) → AtRest p a → Holds a m x → ((s : H) → a.share ≡ Some s → fits p.world m x a.number s) → HasBack fits p m [] x a a
    has_yet x a rest holds fit = record {
      rest = rest;
      same = record { number = refl; world = refl };
      events = record { mine = sym (append-nil a.mine); grows = ([], sym (append-nil a.seen)) };
      holds = holds;
      held = sym (set_again a.held m (Some x) holds);
      share = refl;
      fits = fit;
    }

    -- from a to b, and then from b to d
    pub has_on : (es fs : List Event) (x y : T) (a b d : Known T H W) → HasBack fits p m es x a b → HasBack fits p m fs y b d → HasBack fits p m (es ++ fs) y a d
    has_on es fs x y a b d h k = record {
      rest = k.rest;
      same = same_on a b d h.same k.same;
      events = added_on es fs a b d h.events k.events;
      holds = k.holds;
      held = held_on a b d m x y h.held k.held;
      share = k.share ∙ h.share;
      fits = λ s own. subst (λ n. fits p.world m y n s) h.same.number (k.fits s (h.share ∙ own));
    }

    -- a wait, whose events are es and e and which leaves the share as it was
    pub waited : (es : ℕ → List Event) (e : ℕ → Event) (s : H) (x y : T) (a b : Known T H W) → a.world ≡ Some p.world → a.share ≡ Some s → Holds a m x → AtRest p b → IsSame a b
        → Adds (es a.number) (e a.number) a b → Holds b m y → b.held ≡ slice_set a.held m (Some y) → ((w : W) (r : H) (z : T) → a.world ≡ Some w → a.share ≡ Some r → Holds a m z → b.share ≡ Some r)
        → ((w : W) (r : H) → b.world ≡ Some w → b.share ≡ Some r → fits w m y b.number r) → HasBack fits p m (es a.number ++ e a.number ∷ []) y a b
    waited es e s x y a b world own had rest same event holds held share fit =
        let kept = share p.world s x world own had in
        record {
          rest = rest;
          same = same;
          events = added (es a.number) (e a.number) a b event;
          holds = holds;
          held = held;
          share = kept ∙ sym own;
          fits = λ r mine. subst (λ n. fits p.world m y n r) same.number (fit p.world r (same.world ∙ world) (kept ∙ (sym own ∙ mine)));
        }

    -- who took the mutex has it
    pub took : (e : ℕ → Event) (x : T) (a b : Known T H W) → a.world ≡ Some p.world → AtRest p b → IsSame a b → Adds [] (e a.number) a b → Holds b m x → b.held ≡ slice_set a.held m (Some x)
        → b.share ≡ a.share → ((w : W) (s : H) → a.world ≡ Some w → a.share ≡ Some s → fits w m x a.number s) → HasBack fits p m (e a.number ∷ []) x a b
    took e x a b world rest same event holds held share fit = record {
      rest = rest;
      same = same;
      events = added [] (e a.number) a b event;
      holds = holds;
      held = held;
      share = share;
      fits = λ s own. fit p.world s world own;
    }

    -- what fits a thread fits it before a call that left its number and its share
    pub fits_before : (x : T) (a b : Known T H W) → IsSame a b → b.share ≡ a.share → ((s : H) → b.share ≡ Some s → fits p.world m x b.number s) → (s : H) → a.share ≡ Some s → fits p.world m x a.number s
    fits_before x a b same share h s own = subst (λ n. fits p.world m x n s) same.number (h s (share ∙ own))

    pub stays_after : (allows : W → ℕ → ℕ → T → T → H → H → Type 0) (a b : Known T H W) → IsSame a b → b.share ≡ a.share
        → ((x : T) (s : H) → a.share ≡ Some s → fits p.world m x a.number s → allows p.world m a.number x x s s)
        → (x : T) (s : H) → b.share ≡ Some s → fits p.world m x b.number s → allows p.world m b.number x x s s
    stays_after allows a b same share h x s own fit =
        subst (λ n. allows p.world m n x x s s) (sym same.number) (h x s (sym share ∙ own) (subst (λ n. fits p.world m x n s) same.number fit))

    -- who has the mutex may give it back with what the use allows for the package's own world
    pub may_release : (allows : W → ℕ → ℕ → T → T → H → H → Type 0) (after : W → ℕ → ℕ → T → T → H → H) (es : List Event) (x y : T) (a b : Known T H W) → a.world ≡ Some p.world
        → HasBack fits p m es x a b → ((s : H) → a.share ≡ Some s → fits p.world m x a.number s → allows p.world m a.number x y s (after p.world m a.number x y s))
        → (z : T) × Holds b m z × ((w : W) (s : H) → b.world ≡ Some w → b.share ≡ Some s → allows w m b.number z y s (after w m b.number z y s))
    may_release allows after es x y a b world h may = (
      x,
      h.holds,
      λ w s there own.
          let mine = sym h.share ∙ own in
          subst (λ n. allows w m n x y s (after w m n x y s)) (sym h.same.number)
          (subst (λ v. allows v m a.number x y s (after v m a.number x y s)) (same_Some p.world w (sym (h.same.world ∙ world) ∙ there)) (may s mine (h.fits s mine))),
    )

    -- who had the mutex gave it back
    pub gave : (es : List Event) (x : T) (a b d : Known T H W) → HasBack fits p m es x a b → Adds [] (release_event b.number m) b d → Adds es (release_event a.number m) a d
    gave es x a b d h recorded =
        let Q : List Event → Type 0 = λ l. Adds l (release_event a.number m) a d in
        subst Q (append-nil es) (adds_on es [] (release_event a.number m) a b d h.events (subst (λ n. Adds [] (release_event n m) b d) h.same.number recorded))

    -- who held the mutex holds it again
    pub holds_again : (es : List Event) (n : ℕ) (s : H) (x y : T) (a b : Known T H W) → IsHolding p n m s x a → HasBack fits p m es y a b → IsHolding p n m s y b × fits p.world m y n s
    holds_again es n s x y a b i h = (
      retakes p n m s s x y a b i h.rest h.same h.held h.holds (h.share ∙ i.share),
      subst (λ k. fits p.world m y k s) i.number (h.fits s i.share),
    )
