-- What the closed package of the rounds has.
use Rattle.std.proofs.Common.{◌≡◌, ℕ, ◌+◌, ◌*◌, ◌<◌, ◌≤◌, zero, suc, List, [], ◌∷◌, length, map, Some, None, arith, sym, subst, ap, ◌∙◌, refl, ⊎_elim}
use Rattle.std.proofs.lemmas.Option.{same_Some}
use mathlib.Core.Option.{some, some-injective, some-ne-none}
use lib.ListN.{get_elem?}
use Rattle.nub_rule.specs.Items.{Each}
use Rattle.nub_rule.specs.Known.{Shape}
use Rattle.nub.specs.Ended.{IsWhole, KeepsLocks}
use Rattle.barrier_once.specs.declared.cell.Cell.{Cell}
use Rattle.barrier_once.specs.declared.cell.Cell.TheVariants.{Bar, Sum, Once}
use Rattle.barrier_once.specs.declared.share.RoundShare.{RoundShare}
use Rattle.barrier_once.specs.declared.share.RoundWorld.{RoundWorld}
use Rattle.barrier_once.specs.Calls.{RoundThread}
use Rattle.barrier_once.specs.Rounds.{added_by, AreRounds, fresh_share, triangle}
use Rattle.barrier_once.specs.RoundLaws.{all_added, none_counted}
use Rattle.barrier_once.proofs.Opening.{rounds_begin}
use Rattle.nub_rule.specs.Ends.{firsts}
use Rattle.larch_actions.specs.declared.event.Event.{Event}
use Rattle.larch_actions.specs.declared.event.Layout.{Layout}
use Rattle.larch_actions.specs.Layout.{layout_of}
use Rattle.larch_actions.specs.Actions.{by_thread}
use Rattle.command_rounds.specs.Playing.{IsPlaying, IsTable, round_at}
use Rattle.command_rounds.specs.RoundEvents.{AreEventsOf}

-- the thread t has played so many rounds
pub record HasPlayed (rounds t : ℕ) (s : RoundShare) : Type 0 where
  pub arrivals : s.arrivals ≡ 2 * rounds
  pub left : s.left ≡ 2 * rounds
  pub added : s.added ≡ rounds * (t + 1)
  pub agreed : (v : ℕ) × (s.agreed ≡ Some v)

pub at_place : {A : Type 0} (xs : List A) (n : ℕ) → n < length xs → (a : A) × (get_elem? xs n ≡ some a)
at_place [] n low = absurd (omega arith)
at_place (x ∷ xs) zero low = (x, refl)
at_place (x ∷ xs) (suc n) low = at_place xs n (omega arith)

pub thread_at : (threads : List RoundThread) (shares : List RoundShare) → map (λ t. t.share) threads ≡ map (λ s. Some s) shares → (n : ℕ) (s : RoundShare) → get_elem? shares n ≡ some s → (k : RoundThread) × (get_elem? threads n ≡ some k) × (k.share ≡ Some s)
thread_at [] [] each n s at = absurd (some-ne-none s (sym at))
thread_at [] (s ∷ shares) each n r at = absurd (cc)
thread_at (k ∷ threads) [] each n s at = absurd (some-ne-none s (sym at))
thread_at (k ∷ threads) (r ∷ shares) each zero s at = let head : k.share ≡ Some r = cc in (k, refl, head ∙ ap (λ u. Some u) (some-injective r s at))
thread_at (k ∷ threads) (r ∷ shares) each (suc n) s at = let tail : map (λ t. t.share) threads ≡ map (λ s. Some s) shares = cc in thread_at threads shares tail n s at

have_played : (p : Shape RoundWorld) (rounds : ℕ) (threads : List RoundThread) (shares : List RoundShare) → map (λ t. t.share) threads ≡ map (λ s. Some s) shares → Each (λ t k. IsPlaying p t rounds k) threads → Each (HasPlayed rounds) shares
have_played p rounds threads shares each played n s at =
    let own = thread_at threads shares each n s at in
    let h = played n own.0 own.1 in
    let same = same_Some h.share s (sym h.between.idle.share ∙ own.2) in
    subst (HasPlayed rounds n) same record { arrivals = h.arrivals; left = h.left; added = h.added; agreed = h.agreed }

zero_after : (t : ℕ) → t + 1 ≡ t + 0 + 1
zero_after t = omega arith

zero_last : (n : ℕ) → n + 0 ≡ n
zero_last n = omega arith

three : (values : List Cell) (a b c : Cell) → length values ≡ 3 → get_elem? values 0 ≡ some a → get_elem? values 1 ≡ some b → get_elem? values 2 ≡ some c → values ≡ a ∷ b ∷ c ∷ []
three [] a b c size x y z = absurd (omega arith)
three (i ∷ []) a b c size x y z = absurd (omega arith)
three (i ∷ j ∷ []) a b c size x y z = absurd (omega arith)
three (i ∷ j ∷ k ∷ []) a b c size x y z =
    ap (λ v. v ∷ j ∷ k ∷ []) (some-injective i a x) ∙ (ap (λ v. a ∷ v ∷ k ∷ []) (some-injective j b y) ∙ ap (λ v. a ∷ b ∷ v ∷ []) (some-injective k c z))
three (i ∷ j ∷ k ∷ l ∷ values) a b c size x y z = absurd (omega arith)

-- all have played so many rounds
pub values_of : (w : RoundWorld) (rounds : ℕ) (values : List Cell) (shares : List RoundShare) → w.at ≡ round_at → length values ≡ 3 → AreRounds w values shares → Each (HasPlayed rounds) shares
    → (v : ℕ) × (1 ≤ v) × (v ≤ w.most) × (values ≡ Bar (2 * rounds) 0 ∷ Sum (rounds * triangle w.parties) ∷ Once (Some v) ∷ [])
values_of w rounds values shares at size h played =
    let parties = h.parties in
    let below = h.below in
    let one = at_place shares 0 (omega arith) in
    let did = played 0 one.0 one.1 in
    let own = h.each 0 one.0 one.1 in
    let arrivals = did.arrivals in
    let left = did.left in
    let reached = own.left in
    let round : h.round ≡ 2 * rounds = ⊎_elim (λ (e : one.0.arrivals ≡ h.round). omega arith) (λ (e : one.0.arrivals ≡ h.round + 1). omega arith) own.arrivals in
    let nobody = none_counted (h.round + 1) shares (λ k s e same. let a = (played k s e).arrivals in absurd (omega arith)) in
    let arrived : h.arrived ≡ 0 = h.count ∙ nobody in
    let all : added_by shares + rounds * 0 ≡ rounds * triangle (length shares + 0) = all_added rounds 0 shares (λ t s e. (played t s e).added ∙ ap (λ n. rounds * n) (zero_after t)) in
    let same : rounds * triangle (length shares + 0) ≡ rounds * triangle w.parties = ap (λ n. rounds * triangle n) (zero_last (length shares) ∙ h.parties) in
    let sum : added_by shares ≡ rounds * triangle w.parties = omega arith in
    let value = h.agreed.same 0 one.0 one.1 did.agreed.0 did.agreed.1 in
    let within = h.agreed.within did.agreed.0 value in (
      did.agreed.0,
      within.0,
      within.1,
      three values _ _ _ size
          (ap (λ l. get_elem? values l.bar.0) (sym at) ∙ (h.bar ∙ (ap (λ n. some (Bar n h.arrived)) round ∙ ap (λ n. some (Bar (2 * rounds) n)) arrived)))
          (ap (λ l. get_elem? values l.sum.0) (sym at) ∙ (h.sum ∙ ap (λ n. some (Sum n)) sum))
          (ap (λ l. get_elem? values l.once.0) (sym at) ∙ (h.once ∙ ap (λ o. some (Once o)) value)),
    )

pub closed_values : (p : Shape RoundWorld) (w : RoundWorld) (rounds : ℕ) (threads : List RoundThread) (values : List Cell) → w.at ≡ round_at → length values ≡ 3 → KeepsLocks (AreRounds w) threads values → Each (λ t k. IsPlaying p t rounds k) threads
    → (v : ℕ) × (1 ≤ v) × (v ≤ w.most) × (values ≡ Bar (2 * rounds) 0 ∷ Sum (rounds * triangle w.parties) ∷ Once (Some v) ∷ [])
closed_values p w rounds threads values at size locks played = values_of w rounds values locks.shares at size locks.kept (have_played p rounds threads locks.shares locks.each_share played)

-- the rule holds at first
pub begins : (w : RoundWorld) (values : List Cell) (n : ℕ) → w.at ≡ round_at → values ≡ Bar 0 0 ∷ Sum 0 ∷ Once None ∷ [] → 1 ≤ n → n ≤ 64 → n ≡ w.parties → AreRounds w values (firsts (λ t. fresh_share) n)
begins w values n at is some_one few parties = rounds_begin w values n some_one few parties
    (ap (λ l. get_elem? l w.at.bar.0) is ∙ ap (λ l. get_elem? (Bar 0 0 ∷ Sum 0 ∷ Once None ∷ []) l.bar.0) at)
    (ap (λ l. get_elem? l w.at.sum.0) is ∙ ap (λ l. get_elem? (Bar 0 0 ∷ Sum 0 ∷ Once None ∷ []) l.sum.0) at)
    (ap (λ l. get_elem? l w.at.once.0) is ∙ ap (λ l. get_elem? (Bar 0 0 ∷ Sum 0 ∷ Once None ∷ []) l.once.0) at)

pub table_of : (p : Shape RoundWorld) (w : RoundWorld) (n : ℕ) → p.layout ≡ layout_of n 3 1 0 → p.world ≡ w → w.parties ≡ n → w.most ≡ n → w.at ≡ round_at → n ≤ 64 → IsTable p
table_of p w n layout world parties most at few =
    let own : p.world.parties ≡ n = ap (λ (v : RoundWorld). v.parties) world ∙ parties in
    record {
      layout = layout ∙ ap (λ k. layout_of k 3 1 0) (sym own);
      most = ap (λ (v : RoundWorld). v.most) world ∙ (most ∙ sym own);
      at = ap (λ (v : RoundWorld). v.at) world ∙ at;
      few = omega arith;
    }

-- the part of each thread in the history is that of its rounds
pub parts_of : (l : Layout) (p : Shape RoundWorld) (rounds : ℕ) (threads : List RoundThread) (h : List Event) → IsWhole l threads h → Each (λ t k. IsPlaying p t rounds k) threads → (t : ℕ) → t < length threads → AreEventsOf t rounds (by_thread t h)
parts_of l p rounds threads h whole played t low =
    let at = at_place threads t low in
    let did = played t at.0 at.1 in
    subst (AreEventsOf t rounds) (sym (whole.own t at.0 at.1 ∙ did.between.mine)) did.are
