-- Stints in their order, and beginnings of it.
use Rattle.std.proofs.Common.{Bool, true, false, cond, eqb, ◌≡◌, ◌⊎◌, ℕ, ◌≤◌, suc, List, [], ◌∷◌, ◌++◌, length, map, arith, refl, sym, ap, subst, ◌∙◌, inl, inr}
use Rattle.std.specs.Prelude.{slice_set}
use Rattle.std.specs.List.{AllByRecursion}
use Rattle.std.proofs.lemmas.Bool.Decides.{eqb_tells}
use mathlib.Core.Option.{some, some-injective}
use lib.ListN.{get_elem?}
use Rattle.atomic_table.proofs.Lists.{set_here, set_else}
use Rattle.nub.proofs.Users.{from_at}
use Rattle.larch_actions.specs.declared.event.Event.{Event}
use Rattle.larch_actions.specs.Actions.{by_thread}
use Rattle.larch_actions.specs.Takers.{gives, givers}
use Rattle.nub_rule.specs.Stints.{StintsLead, stinters, stints_at, stints_by}
use Rattle.barrier_once.specs.declared.cell.Cell.{Cell}
use Rattle.barrier_once.specs.declared.share.RoundShare.{RoundShare}
use Rattle.barrier_once.specs.Walks.{RoundStint, how_many}
use Rattle.command_rounds.specs.Playing.{KeepsArrivals}

-- a stint with the mutex m, and what is in front of it and behind it
pub record IsParted (m : ℕ) (ss : List RoundStint) (xs : List ℕ) (y : ℕ) : Type 0 where
  pub front : List RoundStint
  pub stint : RoundStint
  pub behind : List RoundStint
  pub are : ss ≡ front ++ stint ∷ behind
  pub stinters : stinters m front ≡ xs
  pub mutex : stint.mutex ≡ m
  pub thread : stint.thread ≡ y

nothing_there : (X : Type 0) (xs : List ℕ) (y : ℕ) (ys : List ℕ) → [] ≡ xs ++ y ∷ ys → X
nothing_there X [] y ys e = cc
nothing_there X (x ∷ xs) y ys e = cc

pub head_same : {A : Type 0} (x y : A) (xs ys : List A) → x ∷ xs ≡ y ∷ ys → x ≡ y
head_same x y xs ys e = cc

pub tail_same : {A : Type 0} (x y : A) (xs ys : List A) → x ∷ xs ≡ y ∷ ys → xs ≡ ys
tail_same x y xs ys e = cc

later_parted : (m : ℕ) (s : RoundStint) (ss : List RoundStint) (xs ys : List ℕ) (y : ℕ) (own : Bool) → eqb s.mutex m ≡ own → cond own (s.thread ∷ xs) xs ≡ ys → IsParted m ss xs y → IsParted m (s ∷ ss) ys y
later_parted m s ss xs ys y own is same later =
    let made : map (λ (s : RoundStint). s.thread) (cond own (s ∷ stints_at m later.front) (stints_at m later.front)) ≡ cond own (s.thread ∷ stinters m later.front) (stinters m later.front) =
    elim own as (λ b. map (λ (s : RoundStint). s.thread) (cond b (s ∷ stints_at m later.front) (stints_at m later.front)) ≡ cond b (s.thread ∷ stinters m later.front) (stinters m later.front)) [ true ↦ refl | false ↦ refl ]
    in
    record {
      front = s ∷ later.front;
      stint = later.stint;
      behind = later.behind;
      are = ap (λ l. s ∷ l) later.are;
      stinters = ap (λ (b : Bool). map (λ (s : RoundStint). s.thread) (cond b (s ∷ stints_at m later.front) (stints_at m later.front))) is ∙ (made ∙ (ap (λ l. cond own (s.thread ∷ l) l) later.stinters ∙ same));
      mutex = later.mutex;
      thread = later.thread;
    }

-- the stint of this one of those who had the mutex
pub parted : (m : ℕ) (ss : List RoundStint) (xs : List ℕ) (y : ℕ) (ys : List ℕ) → stinters m ss ≡ xs ++ y ∷ ys → IsParted m ss xs y
parted m [] xs y ys e = nothing_there (IsParted m [] xs y) xs y ys e
parted m (s ∷ ss) [] y ys e =
    let P : Bool → Type 0 = λ b. map (λ (s : RoundStint). s.thread) (cond b (s ∷ stints_at m ss) (stints_at m ss)) ≡ y ∷ ys in
    elim (eqb_tells s.mutex m) [
      | inl q ↦ record { front = []; stint = s; behind = ss; are = refl; stinters = refl; mutex = q.1; thread = head_same s.thread y (stinters m ss) ys (subst P q.0 e) }
      | inr q ↦ later_parted m s ss [] [] y false q.0 refl (parted m ss [] y ys (subst P q.0 e))
    ]
parted m (s ∷ ss) (x ∷ xs) y ys e =
    let P : Bool → Type 0 = λ b. map (λ (s : RoundStint). s.thread) (cond b (s ∷ stints_at m ss) (stints_at m ss)) ≡ x ∷ (xs ++ y ∷ ys) in
    elim (eqb_tells s.mutex m) [
      | inl q ↦
          let own = subst P q.0 e in
          later_parted m s ss xs (x ∷ xs) y true q.0 (ap (λ n. n ∷ xs) (head_same s.thread x (stinters m ss) (xs ++ y ∷ ys) own)) (parted m ss xs y ys (tail_same s.thread x (stinters m ss) (xs ++ y ∷ ys) own))
      | inr q ↦ later_parted m s ss (x ∷ xs) (x ∷ xs) y false q.0 refl (parted m ss (x ∷ xs) y ys (subst P q.0 e))
    ]

-- how often a thread is in a list
abbrev pub times : ℕ → List ℕ → ℕ
times u [] = 0
times u (x ∷ xs) = cond (eqb x u) (suc (times u xs)) (times u xs)

-- a thread has as many stints with a mutex as it is among those who had it
pub own_count : (u m : ℕ) (ss : List RoundStint) → length (stints_at m (stints_by u ss)) ≡ times u (stinters m ss)
own_count u m [] = refl
own_count u m (s ∷ ss) =
    let rest = own_count u m ss in
    elim (eqb_tells s.thread u) [
      | inl e ↦
          elim (eqb_tells s.mutex m) [
            | inl f ↦ rw f.0 (rw e.0 (rw f.0 (ap suc rest)))
            | inr f ↦ rw f.0 (rw e.0 (rw f.0 rest))
          ]
      | inr e ↦
          elim (eqb_tells s.mutex m) [
            | inl f ↦ rw f.0 (rw e.0 rest)
            | inr f ↦ rw f.0 (rw e.0 rest)
          ]
    ]

-- and gives a mutex back as often as it is among the givers
pub either : (b : Bool) → (b ≡ true) ⊎ (b ≡ false)
either true = inl refl
either false = inr refl

pub own_gives : (u m : ℕ) (es : List Event) → how_many (gives m) (by_thread u es) ≡ times u (givers m es)
own_gives u m [] = refl
own_gives u m (k ∷ es) =
    let rest = own_gives u m es in
    elim (eqb_tells k.thread.0 u) [
      | inl e ↦
          elim (either (gives m k.action)) [
            | inl f ↦ rw f (rw e.0 (rw f (omega arith)))
            | inr f ↦ rw f (rw e.0 (rw f (omega arith)))
          ]
      | inr e ↦
          elim (either (gives m k.action)) [
            | inl f ↦ rw f (rw e.0 rest)
            | inr f ↦ rw f (rw e.0 rest)
          ]
    ]

pub all_front : {X : Type 0} (P : X → Type 0) (xs ys : List X) → AllByRecursion P (xs ++ ys) → AllByRecursion P xs
all_front P [] ys p = tt
all_front P (x ∷ xs) ys p = (p.0, all_front P xs ys p.1)

nothing_first : (X : Type 0) (s : RoundStint) (others : List RoundStint) → [] ≡ s ∷ others → X
nothing_first X s others e = cc

-- after one stint of the thread
one_few : (most : ℕ) (s : RoundStint) (ss : List RoundStint) → s.before.arrivals ≤ most → AllByRecursion (λ (s : RoundStint). s.after.arrivals ≤ most) (cond (eqb s.mutex 0) (s ∷ ss) ss) → KeepsArrivals s
    → (s.after.arrivals ≤ most) × AllByRecursion (λ (s : RoundStint). s.after.arrivals ≤ most) ss
one_few most s ss was all keeps =
    let A : Bool → Type 0 = λ b. AllByRecursion (λ (s : RoundStint). s.after.arrivals ≤ most) (cond b (s ∷ ss) ss) in
    elim (eqb_tells s.mutex 0) [
      | inl e ↦ let own = subst A e.0 all in (own.0, own.1)
      | inr e ↦ let same = keeps e.0 in (omega arith, subst A e.0 all)
    ]

module _ (holds : List Cell → List RoundShare → Type 0) where
  pub lead_holds : (xs : List Cell) (hs : List RoundShare) (ss : List RoundStint) (ys : List Cell) (rs : List RoundShare) → StintsLead holds xs hs ss ys rs → holds xs hs
  lead_holds xs hs [] ys rs lead = lead.0
  lead_holds xs hs (s ∷ ss) ys rs lead = lead.0

  -- the order up to a place
  pub lead_front : (xs : List Cell) (hs : List RoundShare) (front behind : List RoundStint) (ys : List Cell) (rs : List RoundShare) → StintsLead holds xs hs (front ++ behind) ys rs
      → (zs : List Cell) × (ks : List RoundShare) × StintsLead holds xs hs front zs ks
  lead_front xs hs [] behind ys rs lead = (xs, hs, (lead_holds xs hs behind ys rs lead, refl, refl))
  lead_front xs hs (s ∷ front) behind ys rs lead =
      let rest = lead_front (slice_set xs s.mutex s.left) (slice_set hs s.thread s.after) front behind ys rs lead.3 in
      (rest.0, rest.1, (lead.0, lead.1, lead.2, rest.2))

  -- the rule holds at its end, where the thread of the last stint has the share that this left
  pub lead_last : (xs : List Cell) (hs : List RoundShare) (front : List RoundStint) (s : RoundStint) (ys : List Cell) (rs : List RoundShare) → StintsLead holds xs hs (front ++ s ∷ []) ys rs → holds ys rs × (get_elem? rs s.thread ≡ some s.after)
  lead_last xs hs [] s ys rs lead =
      let there = (from_at hs s.thread s.before lead.2).0 in
      let P : List Cell → List RoundShare → Type 0 = λ v k. holds v k × (get_elem? k s.thread ≡ some s.after) in
      let last = lead.3 in
      subst (λ v. P v rs) last.1 (subst (λ k. P (slice_set xs s.mutex s.left) k) last.2 (last.0, set_here hs s.thread s.after there))
  lead_last xs hs (x ∷ front) s ys rs lead = lead_last (slice_set xs x.mutex x.left) (slice_set hs x.thread x.after) front s ys rs lead.3

  -- the share with which a thread's first stint began is the one that it had first
  pub lead_first : (xs : List Cell) (hs : List RoundShare) (ss : List RoundStint) (ys : List Cell) (rs : List RoundShare) (u : ℕ) (s : RoundStint) (others : List RoundStint) → StintsLead holds xs hs ss ys rs → stints_by u ss ≡ s ∷ others → get_elem? hs u ≡ some s.before
  lead_first xs hs [] ys rs u s others lead is = nothing_first (get_elem? hs u ≡ some s.before) s others is
  lead_first xs hs (x ∷ ss) ys rs u s others lead is =
      let P : Bool → Type 0 = λ b. cond b (x ∷ stints_by u ss) (stints_by u ss) ≡ s ∷ others in
      elim (eqb_tells x.thread u) [
        | inl e ↦ ap (λ i. get_elem? hs i) (sym e.1) ∙ (lead.2 ∙ ap (λ (z : RoundStint). some z.before) (head_same x s (stints_by u ss) others (subst P e.0 is)))
        | inr e ↦ sym (set_else hs x.thread u x.after (λ z. e.1 (sym z))) ∙ lead_first (slice_set xs x.mutex x.left) (slice_set hs x.thread x.after) ss ys rs u s others lead.3 (subst P e.0 is)
      ]

  -- a thread whose stints with the bar left few arrivals has few
  pub lead_few : (most u : ℕ) (xs : List Cell) (hs : List RoundShare) (ss : List RoundStint) (ys : List Cell) (rs : List RoundShare) (f : RoundShare) → StintsLead holds xs hs ss ys rs → get_elem? hs u ≡ some f → f.arrivals ≤ most
      → AllByRecursion (λ s. s.after.arrivals ≤ most) (stints_at 0 (stints_by u ss)) → AllByRecursion KeepsArrivals (stints_by u ss) → (r : RoundShare) × (get_elem? rs u ≡ some r) × (r.arrivals ≤ most)
  lead_few most u xs hs [] ys rs f lead at few all kept = (f, ap (λ l. get_elem? l u) (sym lead.2) ∙ at, few)
  lead_few most u xs hs (s ∷ ss) ys rs f lead at few all kept =
      let A : Bool → Type 0 = λ b. AllByRecursion (λ s. s.after.arrivals ≤ most) (stints_at 0 (cond b (s ∷ stints_by u ss) (stints_by u ss))) in
      let K : Bool → Type 0 = λ b. AllByRecursion KeepsArrivals (cond b (s ∷ stints_by u ss) (stints_by u ss)) in
      elim (eqb_tells s.thread u) [
        | inl e ↦
            let own = subst A e.0 all in
            let keeps = subst K e.0 kept in
            let same : s.before ≡ f = some-injective s.before f (sym lead.2 ∙ (ap (λ i. get_elem? hs i) e.1 ∙ at)) in
            let there = (from_at hs s.thread s.before lead.2).0 in
            let now : get_elem? (slice_set hs s.thread s.after) u ≡ some s.after = ap (λ i. get_elem? (slice_set hs s.thread s.after) i) (sym e.1) ∙ set_here hs s.thread s.after there in
            let was : s.before.arrivals ≤ most = subst (λ (z : RoundShare). z.arrivals ≤ most) (sym same) few in
            let step = one_few most s (stints_at 0 (stints_by u ss)) was own keeps.0 in
            lead_few most u (slice_set xs s.mutex s.left) (slice_set hs s.thread s.after) ss ys rs s.after lead.3 now step.0 step.1 keeps.1
        | inr e ↦
            let other : get_elem? (slice_set hs s.thread s.after) u ≡ some f = set_else hs s.thread u s.after (λ z. e.1 (sym z)) ∙ at in
            lead_few most u (slice_set xs s.mutex s.left) (slice_set hs s.thread s.after) ss ys rs f lead.3 other few (subst A e.0 all) (subst K e.0 kept)
      ]
