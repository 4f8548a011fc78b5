-- A thread takes a mutex, keeps it over calls, waits, and gives it back.
use Rattle.std.proofs.Common.{◌≡◌, ◌≢◌, ℕ, Some, None, ap, sym, subst, ◌∙◌, slice_set, ⊎_elim}
use Rattle.std.proofs.lemmas.Bool.{cases_eq}
use Rattle.std.proofs.lemmas.List.{set-set}
use Rattle.std.proofs.lemmas.Option.{same_Some}
use mathlib.Core.Option.{some}
use lib.ListN.{get_elem?}
use Rattle.atomic_table.proofs.Lists.{at_set, set_again, set_else, set_here}
use Rattle.nub_rule.specs.Known.{Known, Shape, Holds}
use Rattle.nub.specs.Holding.{IsHolding}
use Rattle.nub.specs.Idle.{IsIdle}
use Rattle.nub.specs.Rest.{AtRest, IsSame}
use Rattle.nub.proofs.Users.{from_at}

none_some : {A : Type 0} (y : A) → None ≡ Some y → ⊥
none_some y e = cc

module _ {T H W : Type 0} where
  -- the mutex was taken and given back
  pub held_back : (a b e : Known T H W) (m : ℕ) (x : T) → get_elem? a.held m ≡ some None → b.held ≡ slice_set a.held m (Some x) → e.held ≡ slice_set b.held m None → e.held ≡ a.held
  held_back a b e m x lacks took gave = gave ∙ (ap (λ h. slice_set h m None) took ∙ (set-set a.held m (Some x) None ∙ set_again a.held m None lacks))

  -- the mutex was taken, given back and taken again
  pub held_on : (a b e : Known T H W) (m : ℕ) (x y : T) → b.held ≡ slice_set a.held m (Some x) → e.held ≡ slice_set b.held m (Some y) → e.held ≡ slice_set a.held m (Some y)
  held_on a b e m x y took again = again ∙ (ap (λ h. slice_set h m (Some y)) took ∙ set-set a.held m (Some x) (Some y))

  -- an idle thread took the mutex with the value x
  pub takes : (p : Shape W) (n m : ℕ) (s : H) (x : T) (a b : Known T H W) → IsIdle p n s a → AtRest p b → IsSame a b → b.held ≡ slice_set a.held m (Some x) → Holds b m x
      → b.share ≡ a.share → IsHolding p n m s x b
  takes p n m s x a b i rest same held holds share = record {
    number = same.number ∙ i.number;
    rest = rest;
    world = same.world ∙ i.world;
    holds = holds;
    lacks = λ k other low. ap (λ h. get_elem? h k) held ∙ (set_else a.held m k (Some x) other ∙ i.lacks k low);
    lacks_named = λ k other low. ap (λ h. get_elem? h k) held ∙ (set_else a.held m k (Some x) other ∙ i.lacks_named k low);
    none = λ k y other e. i.none k y (sym (set_else a.held m k (Some x) other) ∙ (ap (λ h. get_elem? h k) (sym held) ∙ e));
    share = share ∙ i.share;
  }

  -- a holding thread did what touches no mutex
  pub keeps : (p : Shape W) (n m : ℕ) (s : H) (x : T) (a b : Known T H W) → IsHolding p n m s x a → AtRest p b → IsSame a b → b.held ≡ a.held → b.share ≡ a.share → IsHolding p n m s x b
  keeps p n m s x a b i rest same held share = record {
    number = same.number ∙ i.number;
    rest = rest;
    world = same.world ∙ i.world;
    holds = ap (λ h. get_elem? h m) held ∙ i.holds;
    lacks = λ k other low. ap (λ h. get_elem? h k) held ∙ i.lacks k other low;
    lacks_named = λ k other low. ap (λ h. get_elem? h k) held ∙ i.lacks_named k other low;
    none = λ k y other e. i.none k y other (ap (λ h. get_elem? h k) (sym held) ∙ e);
    share = share ∙ i.share;
  }

  -- a holding thread gave the mutex back and got it anew, with the value y
  pub retakes : (p : Shape W) (n m : ℕ) (s r : H) (x y : T) (a b : Known T H W) → IsHolding p n m s x a → AtRest p b → IsSame a b → b.held ≡ slice_set a.held m (Some y) → Holds b m y
      → b.share ≡ Some r → IsHolding p n m r y b
  retakes p n m s r x y a b i rest same held holds share = record {
    number = same.number ∙ i.number;
    rest = rest;
    world = same.world ∙ i.world;
    holds = holds;
    lacks = λ k other low. ap (λ h. get_elem? h k) held ∙ (set_else a.held m k (Some y) other ∙ i.lacks k other low);
    lacks_named = λ k other low. ap (λ h. get_elem? h k) held ∙ (set_else a.held m k (Some y) other ∙ i.lacks_named k other low);
    none = λ k z other e. i.none k z other (sym (set_else a.held m k (Some y) other) ∙ (ap (λ h. get_elem? h k) (sym held) ∙ e));
    share = share;
  }

  -- a holding thread gave the mutex back
  pub gives : (p : Shape W) (n m : ℕ) (s r : H) (x : T) (a b : Known T H W) → IsHolding p n m s x a → AtRest p b → IsSame a b → b.held ≡ slice_set a.held m None → b.share ≡ Some r → IsIdle p n r b
  gives p n m s r x a b i rest same held share =
      let there = (from_at a.held m (Some x) i.holds).0 in
      let given : (k : ℕ) → k ≡ m → get_elem? b.held k ≡ some None = λ k e. ap (λ h. get_elem? h k) held ∙ (ap (get_elem? (slice_set a.held m None)) e ∙ set_here a.held m None there) in
      let else_is : (k : ℕ) → k ≢ m → get_elem? b.held k ≡ get_elem? a.held k = λ k other. ap (λ h. get_elem? h k) held ∙ set_else a.held m k None other in
      record {
        number = same.number ∙ i.number;
        rest = rest;
        world = same.world ∙ i.world;
        lacks = λ k low. ⊎_elim (given k) (λ (other : k ≢ m). else_is k other ∙ i.lacks k other low) (cases_eq k m);
        lacks_named = λ k low. ⊎_elim (given k) (λ (other : k ≢ m). else_is k other ∙ i.lacks_named k other low) (cases_eq k m);
        none = λ k y e. ⊎_elim
            (λ (o : (k ≡ m) × (None ≡ Some y)). none_some y o.1)
            (λ (o : (k ≢ m) × (get_elem? a.held k ≡ some (Some y))). i.none k y o.0 o.1)
            (at_set a.held m k None (Some y) (ap (λ h. get_elem? h k) (sym held) ∙ e));
        share = share;
      }

  -- what the use allows for the package's own world is the condition of release and wait
  pub may_give : (allows : W → ℕ → ℕ → T → T → H → H → Type 0) (after : W → ℕ → ℕ → T → T → H → H) (p : Shape W) (n m : ℕ) (s : H) (x y : T) (t : Known T H W)
      → IsHolding p n m s x t → allows p.world m n x y s (after p.world m n x y s)
      → (z : T) × Holds t m z × ((w : W) (r : H) → t.world ≡ Some w → t.share ≡ Some r → allows w m t.number z y r (after w m t.number z y r))
  may_give allows after p n m s x y t i ok = (
    x,
    i.holds,
    λ w r world share.
        let own : t.number ≡ n = i.number in
        let in_world : p.world ≡ w = same_Some p.world w (sym i.world ∙ world) in
        let has : s ≡ r = same_Some s r (sym i.share ∙ share) in
        subst (λ k. allows w m k x y r (after w m k x y r)) (sym own)
        (subst (λ u. allows w m n x y u (after w m n x y u)) has (subst (λ v. allows v m n x y s (after v m n x y s)) in_world ok)),
  )

  -- what fits the package's own thread fits it in any world and with any share that it has
  pub fits_any : (fits : W → ℕ → T → ℕ → H → Type 0) (p : Shape W) (n m : ℕ) (s : H) (x y : T) (t : Known T H W)
      → IsHolding p n m s x t → fits p.world m y n s → (r : H) → t.share ≡ Some r → fits p.world m y t.number r
  fits_any fits p n m s x y t i ok r share = subst (λ k. fits p.world m y k r) (sym i.number) (subst (λ u. fits p.world m y n u) (same_Some s r (sym i.share ∙ share)) ok)

  -- a value fits the package's own thread where it fits the thread in any world and with any share
  pub fits_own : (fits : W → ℕ → T → ℕ → H → Type 0) (p : Shape W) (n m : ℕ) (s : H) (x y : T) (t : Known T H W)
      → IsHolding p n m s x t → ((w : W) (r : H) → t.world ≡ Some w → t.share ≡ Some r → fits w m y t.number r) → fits p.world m y n s
  fits_own fits p n m s x y t i all = subst (λ k. fits p.world m y k s) i.number (all p.world s i.world i.share)
