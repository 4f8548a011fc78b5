-- What a thread may do that forks another, and what both have done.
use Rattle.std.proofs.Common.{◌≡◌, cond, eqb, ℕ, ◌+◌, ◌≤◌, sum, List, [], ◌∷◌, ◌++◌, arith, sym, subst, ap, ◌∙◌, refl, append-nil, append_assoc}
use Rattle.std.specs.List.{All}
use Rattle.std.proofs.lemmas.List.Elements.{All-append, All-cons, All-head, All-nil, All-same, All-tail, All-weaker}
use Rattle.nub.specs.Idle.{IsIdle}
use Rattle.nub.specs.Totals.{is_number, times, total}
use Rattle.nub.specs.Forks.{IsLeft}
use Rattle.nub.specs.Rest.{Adds}
use Rattle.nub_rule.specs.Plays.{fork_event, join_event}
use Rattle.example_sum.specs.Trees.{Adder, Adders, HasJoined, HasJoinedToo, is_fork, is_join, HaveAdded, IsSpare, MayAdd, added_by, amount}
use Rattle.nub.proofs.Numbered.{total_both}

module _ {A : Type 0} (P : A → Type 0) where
  all-front : (xs ys : List A) → All P (xs ++ ys) → All P xs
  all-front [] ys h = All-nil P
  all-front (x ∷ xs) ys h = All-cons P x xs (All-head P x (xs ++ ys) h) (all-front xs ys (All-tail P x (xs ++ ys) h))

  all-back : (xs ys : List A) → All P (xs ++ ys) → All P ys
  all-back [] ys h = h
  all-back (x ∷ xs) ys h = all-back xs ys (All-tail P x (xs ++ ys) h)

-- the same number counts as often
alike : (n : ℕ) (k l : Adder) → l.number ≡ k.number → is_number n l ≡ is_number n k
alike n k l e = ap (λ m. cond (eqb m n) 1 0) e

-- rights that were parted
total-parted : (f : Adder → ℕ) (rights rest theirs : List Adder) (c : Adder) → rights ≡ (rest ++ c ∷ []) ++ theirs → total f rights ≡ total f rest + (f c + total f theirs)
total-parted f rights rest theirs c is =
    let a = ap (total f) is in
    let b = total_both f (rest ++ c ∷ []) theirs in
    let d = total_both f rest (c ∷ []) in
    omega arith

-- threads that came back
total-crew : (f : Adder → ℕ) (es e1 e2 us u1 u2 : List Adder) (over : Adder) → es ≡ (e1 ++ over ∷ []) ++ e2 → us ≡ u1 ++ u2
    → total f (es ++ us) ≡ total f (e1 ++ u1) + (f over + total f (e2 ++ u2))
total-crew f es e1 e2 us u1 u2 over ended unborn =
    let a = total_both f es us in
    let b = total-parted f es e1 e2 over ended in
    let c = ap (total f) unborn ∙ total_both f u1 u2 in
    let d = total_both f e1 u1 in
    let e = total_both f e2 u2 in
    omega arith

module _ (p : Adders) where
  none-added : (ks : List Adder) → All (IsSpare p) ks → added_by ks ≡ 0
  none-added [] h = refl
  none-added (k ∷ ks) h =
      let own = ap amount (All-head (IsSpare p) k ks h).share in
      let rest = none-added ks (All-tail (IsSpare p) k ks h) in
      omega arith

  -- an idle thread may come back
  idle-back : (n s : ℕ) (k : Adder) → IsIdle p n s k → IsLeft p k
  idle-back n s k i = record { of = i.rest.of; named = i.rest.named; stored = i.rest.stored }

  -- a thread that forks no other has added its numbers
  pub alone : (me k : Adder) (numbers : List ℕ) (rights ks : List Adder) → MayAdd p me numbers rights → ks ≡ rights → IsIdle p me.number (sum numbers) k → HaveAdded p (me ∷ rights) (sum numbers) (k ∷ ks)
  alone me k numbers rights ks may same idle = record {
    back = All-cons (IsLeft p) k ks (idle-back me.number (sum numbers) k idle) (All-same (IsLeft p) ks rights same (All-weaker (IsSpare p) (IsLeft p) (λ x s. s.left) rights may.spare));
    same = λ n. let a = alike n me k idle.number in let b = ap (times n) same in omega arith;
    added =
        let a = ap amount idle.share in
        let b = ap added_by same in
        let c = none-added rights may.spare in
        omega arith;
  }

  module _ (me : Adder) (numbers part : List ℕ) (rights rest theirs : List Adder) (c : Adder) (may : MayAdd p me numbers rights) (parted : rights ≡ (rest ++ c ∷ []) ++ theirs) where
    spare-all : All (IsSpare p) ((rest ++ c ∷ []) ++ theirs)
    spare-all = All-same (IsSpare p) ((rest ++ c ∷ []) ++ theirs) rights (sym parted) may.spare

    spare-front : All (IsSpare p) (rest ++ c ∷ [])
    spare-front = all-front (IsSpare p) (rest ++ c ∷ []) theirs spare-all

    -- the right that was taken
    pub taken : IsSpare p c
    taken = All-head (IsSpare p) c [] (all-back (IsSpare p) rest (c ∷ []) spare-front)

    -- the thread that forked goes on with a part of the numbers
    pub goes_on : (k : Adder) → IsIdle p me.number 0 k → sum part ≤ sum numbers → MayAdd p k part rest
    goes_on k idle less = record {
      version = may.version;
      mutex = may.mutex;
      small = let a = may.small in omega arith;
      idle = subst (λ m. IsIdle p m 0 k) (sym idle.number) idle;
      spare = all-front (IsSpare p) rest (c ∷ []) spare-front;
    }

    -- the thread that was forked begins with a part
    pub begins : (k : Adder) → IsIdle p c.number 0 k → sum part ≤ sum numbers → MayAdd p k part theirs
    begins k idle less = record {
      version = may.version;
      mutex = may.mutex;
      small = let a = may.small in omega arith;
      idle = subst (λ m. IsIdle p m 0 k) (sym idle.number) idle;
      spare = all-back (IsSpare p) (rest ++ c ∷ []) theirs spare-all;
    }

  -- the thread itself comes back by another call, which adds nothing
  pub comes_back : (before ks : List Adder) (n : ℕ) (k l : Adder) → IsLeft p l → l.number ≡ k.number → l.share ≡ k.share → HaveAdded p before n (k ∷ ks) → HaveAdded p before n (l ∷ ks)
  comes_back before ks n k l left number share have = record {
    back = All-cons (IsLeft p) l ks left (All-tail (IsLeft p) k ks have.back);
    same = λ i. let a = alike i k l number in let b = have.same i in omega arith;
    added = let a = ap amount share in let b = have.added in omega arith;
  }

  -- both have added, and so the whole
  pub together : (me k c l : Adder) (rights rest theirs : List Adder) (t : Adder) → k.number ≡ me.number → l.number ≡ c.number → rights ≡ (rest ++ c ∷ []) ++ theirs
      → (over : Adder) (es e1 e2 us u1 u2 : List Adder) → es ≡ (e1 ++ over ∷ []) ++ e2 → us ≡ u1 ++ u2
      → (a b n : ℕ) → a + b ≡ n → HaveAdded p (k ∷ rest) a (t ∷ (e1 ++ u1)) → HaveAdded p (l ∷ theirs) b (over ∷ (e2 ++ u2)) → HaveAdded p (me ∷ rights) n (t ∷ (es ++ us))
  together me k c l rights rest theirs t mine yours parted over es e1 e2 us u1 u2 ended unborn a b n sums x y =
      let P = IsLeft p in
      let first = All-tail P t (e1 ++ u1) x.back in
      let second = All-tail P over (e2 ++ u2) y.back in
      let e = All-same P es ((e1 ++ over ∷ []) ++ e2) ended (All-append P (e1 ++ over ∷ []) e2
      (All-append P e1 (over ∷ []) (all-front P e1 u1 first) (All-cons P over [] (All-head P over (e2 ++ u2) y.back) (All-nil P)))
      (all-front P e2 u2 second)) in
      let u = All-same P us (u1 ++ u2) unborn (All-append P u1 u2 (all-back P e1 u1 first) (all-back P e2 u2 second)) in
      record {
        back = All-cons P t (es ++ us) (All-head P t (e1 ++ u1) x.back) (All-append P es us e u);
        same = λ i.
            let f = is_number i in
            let c1 = total-crew f es e1 e2 us u1 u2 over ended unborn in
            let c2 = total-parted f rights rest theirs c parted in
            let c3 = x.same i in
            let c4 = y.same i in
            let c5 = alike i me k mine in
            let c6 = alike i c l yours in
            omega arith;
        added =
            let c1 = total-crew (λ k. amount k.share) es e1 e2 us u1 u2 over ended unborn in
            let c3 = x.added in
            let c4 = y.added in
            omega arith;
      }

  -- the thread that comes back last stands after the others
  pub last : (before es others us : List Adder) (n : ℕ) (l : Adder) → es ≡ others ++ l ∷ [] → HaveAdded p before n (l ∷ (others ++ us)) → HaveAdded p before n (es ++ us)
  last before es others us n l is have =
      let P = IsLeft p in
      let rest = All-tail P l (others ++ us) have.back in
      let whole : es ++ us ≡ (others ++ l ∷ []) ++ us = ap (λ ks. ks ++ us) is in
      record {
        back = All-append P es us
            (All-same P es (others ++ l ∷ []) is (All-append P others (l ∷ []) (all-front P others us rest) (All-cons P l [] (All-head P l (others ++ us) have.back) (All-nil P))))
            (all-back P others us rest);
        same = λ i.
            let a = total-parted (is_number i) (es ++ us) others us l whole in
            let b = total_both (is_number i) others us in
            let c = have.same i in
            omega arith;
        added =
            let a = total-parted (λ k. amount k.share) (es ++ us) others us l whole in
            let b = total_both (λ (k : Adder). amount k.share) others us in
            let c = have.added in
            omega arith;
      }

-- a thread that forked another, and then waited for its end and for those of all that it forked meanwhile
pub joined_child : (n who : ℕ) (a b c : Adder) → Adds [] (fork_event n who) a b → HasJoinedToo who b c → HasJoined a c
joined_child n who a b c forked rest = (
  fork_event n who ∷ rest.0,
  rest.1 ∙ (ap (λ l. l ++ rest.0) (forked.mine ∙ ap (λ l. l ++ fork_event n who ∷ []) (append-nil a.mine)) ∙ append_assoc a.mine (fork_event n who ∷ []) rest.0),
  λ k. let h = rest.2 k in omega arith,
)

pub joined_too : (n who : ℕ) (a b c : Adder) → HasJoined a b → Adds [] (join_event n who) b c → HasJoinedToo who a c
joined_too n who a b c rest last = (
  rest.0 ++ join_event n who ∷ [],
  last.mine ∙ (ap (λ l. l ++ join_event n who ∷ []) (append-nil b.mine ∙ rest.1) ∙ append_assoc a.mine rest.0 (join_event n who ∷ [])),
  λ k. let h = rest.2 k in
      let x = total_both (λ e. is_join k e.action) rest.0 (join_event n who ∷ []) in
      let y = total_both (λ e. is_fork k e.action) rest.0 (join_event n who ∷ []) in
      omega arith,
)
