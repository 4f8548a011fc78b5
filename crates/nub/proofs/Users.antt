-- What a user of a package needs: threads between two calls, and what each has in a closed package.
use Rattle.std.proofs.Common.{◌≡◌, ℕ, ◌<◌, List, [], ◌∷◌, length, get_or, map, zero, suc, Some, arith, sym, ap, subst, ◌∙◌, refl}
use Rattle.std.proofs.lemmas.List.{length-map}
use Rattle.std.proofs.lemmas.Option.{same_Some}
use mathlib.Core.Option.{some, some-injective, some-ne-none}
use lib.ListN.{get_elem?}
use Rattle.nub_rule.proofs.Each.{at_below}
use Rattle.nub_rule.specs.Items.{Each}
use Rattle.nub_rule.specs.Known.{Known, Shape}
use Rattle.nub.specs.Ended.{IsFirst, IsDone}
use Rattle.nub.specs.Idle.{IsIdle}
use Rattle.nub.specs.Rest.{AtRest, IsSame}

-- what stands at a place is read there
pub from_at : {A : Type 0} (xs : List A) (n : ℕ) (t : A) → get_elem? xs n ≡ some t → (n < length xs) × (t ≡ get_or xs n t)
from_at [] n t e = absurd (some-ne-none t (sym e))
from_at (x ∷ xs) zero t e = (omega arith, sym (some-injective x t e))
from_at (x ∷ xs) (suc n) t e = let r = from_at xs n t e in let low = r.0 in (omega arith, r.1)

module _ {T H W : Type 0} where
  -- a first thread is idle with its first share
  pub idle_first : (p : Shape W) (begin : W → ℕ → H) (n : ℕ) (t : Known T H W) → IsFirst p begin n t → IsIdle p n (begin p.world n) t
  idle_first p begin n t f = record {
    number = f.number;
    rest = f.rest;
    world = f.world;
    lacks = f.lacks;
    lacks_named = λ m low. let few = f.few in f.lacks m (omega arith);
    none = f.none;
    share = f.share;
  }

  -- a first thread is first by its own number
  pub first_own : (p : Shape W) (begin : W → ℕ → H) (n : ℕ) (t : Known T H W) → IsFirst p begin n t → IsFirst p begin t.number t
  first_own p begin n t f = let P : ℕ → Type 0 = λ i. IsFirst p begin i t in subst P (sym f.number) f

  -- a first thread is idle by its own number
  pub idle_own : (p : Shape W) (begin : W → ℕ → H) (n : ℕ) (t : Known T H W) → IsFirst p begin n t → IsIdle p t.number (begin p.world t.number) t
  idle_own p begin n t f = idle_first p begin t.number t (first_own p begin n t f)

  -- an idle thread is done
  pub idle_done : (p : Shape W) (n : ℕ) (s : H) (t : Known T H W) → IsIdle p n s t → IsDone p n t
  idle_done p n s t i = record { number = i.number; rest = i.rest; lacks = i.none }

  -- an idle thread is idle after a call that gave all mutexes back, with the share that the call left
  pub idle_again : (p : Shape W) (n : ℕ) (s r : H) (a b : Known T H W) → IsIdle p n s a → AtRest p b → IsSame a b → b.held ≡ a.held → b.share ≡ Some r → IsIdle p n r b
  idle_again p n s r a b i rest same held share = record {
    number = same.number ∙ i.number;
    rest = rest;
    world = same.world ∙ i.world;
    lacks = λ m low. ap (λ hs. get_elem? hs m) held ∙ i.lacks m low;
    lacks_named = λ m low. ap (λ hs. get_elem? hs m) held ∙ i.lacks_named m low;
    none = λ m x e. i.none m x (ap (λ hs. get_elem? hs m) (sym held) ∙ e);
    share = share;
  }

  -- the share of the thread n stands at n among the shares
  pub share_of : (threads : List (Known T H W)) (shares : List H) → map (λ t. t.share) threads ≡ map (λ s. Some s) shares
      → (n : ℕ) (t : Known T H W) → get_elem? threads n ≡ some t → (s : H) × (get_elem? shares n ≡ some s) × (t.share ≡ Some s)
  share_of [] shares each n t at = absurd (some-ne-none t (sym at))
  share_of (x ∷ threads) [] each n t at = absurd (cc)
  share_of (x ∷ threads) (s ∷ shares) each zero t at =
      let head : x.share ≡ Some s = cc in
      (s, refl, ap (λ (k : Known T H W). k.share) (sym (some-injective x t at)) ∙ head)
  share_of (x ∷ threads) (s ∷ shares) each (suc n) t at =
      let tail : map (λ t. t.share) threads ≡ map (λ s. Some s) shares = cc in
      share_of threads shares tail n t at

  -- there are as many shares as threads
  pub share_count : (threads : List (Known T H W)) (shares : List H) → map (λ t. t.share) threads ≡ map (λ s. Some s) shares → length shares ≡ length threads
  share_count threads shares each = sym (length-map shares (λ (s : H). Some s)) ∙ (sym (ap length each) ∙ length-map threads (λ (t : Known T H W). t.share))

  -- what each thread says of its share is so of all shares
  pub all_recorded : (P : ℕ → H → Type 0) (threads : List (Known T H W)) (shares : List H) → map (λ t. t.share) threads ≡ map (λ s. Some s) shares
      → Each (λ n t. (s : H) × (t.share ≡ Some s) × P n s) threads → Each P shares
  all_recorded P threads shares each recorded n s at =
      let many = share_count threads shares each in
      let low = (from_at shares n s at).0 in
      let t = at_below threads n (omega arith) in
      let own = share_of threads shares each n t.0 t.1 in
      let says = recorded n t.0 t.1 in
      let same : says.0 ≡ s = same_Some says.0 own.0 (sym says.1 ∙ own.2) ∙ some-injective own.0 s (sym own.1 ∙ at) in
      subst (P n) same says.2

module _ {T H W : Type 0} where
  -- a thread that is the same again
  pub same_on : (a b c : Known T H W) → IsSame a b → IsSame b c → IsSame a c
  same_on a b c x y = record { number = y.number ∙ x.number; world = y.world ∙ x.world }
