-- One more line was played.
use Rattle.std.proofs.Common.{◌≡◌, ◌≢◌, ℕ, ◌+◌, ◌-◌, ◌<◌, ◌≤◌, inl, inr, List, [], ◌∷◌, ◌++◌, append-nil, length, get_or, refl, ap, sym, subst, ◌∙◌, Bool, true, false, cond, Some, None, Option as Opt, arith}
use mathlib.Core.Option.{some, some-injective}
use lib.ListN.{get_elem?, set}
use Rattle.atomic_table.proofs.Lists.{set_here, set_else}
use Rattle.std.proofs.lemmas.Bool.{eq-eqb, ne_eqb}
use Rattle.std.proofs.lemmas.Bool.Decides.{eqb_tells}
use Rattle.std.proofs.lemmas.List.{get_or-set_same, get_or-set_other, length-set, set-set}
use Rattle.std.specs.Prelude.{eqb}
use Rattle.larch_actions.specs.declared.event.Event.{Event}
use Rattle.nub_rule.specs.Known.{Shape}
use Rattle.nub.specs.Rest.{AtRest}
use Rattle.sum_uses.specs.declared.added.Added.{Added}
use Rattle.sum_uses.specs.Sums.{added, IsAbove, GrowsAlike}
use Rattle.script_text.specs.declared.table.Use.{Use}
use Rattle.script_text.specs.declared.table.Use.TheVariants.{Takes, Gives, Needs, Nothing}
use Rattle.script_text.specs.Table.{use_of}
use Rattle.script_text.specs.declared.line.Line.{Line}
use Rattle.script_text.specs.Operations.{Holding, none_held, held_after, holding_with, holding_after, held_if}
use Rattle.script_run.specs.Playing.{Player, AreLinked, HasHand, HasNumber, IsPlaying, IsWide, visits_of}
use Rattle.script_text.specs.Runs.{IsRow, lines_of, total, added_by}
use Rattle.script_text.specs.Visits.{AreLeft, Hand, Leaves, Visit, no_hand}
use Rattle.script_text.proofs.Follow.{held_append}
use Rattle.script_run.proofs.Hands.{left_own}
use Rattle.script_run.proofs.Rows.{other_line, total_own}

-- a number below 64 may change
pub wide_set : (held : List (Opt ℕ)) (m : ℕ) (v : Opt ℕ) → m < 64 → IsWide held → IsWide (set held m v)
wide_set held m v low w = record {
  room = omega (arith, length-set held m v, w.room);
  none = λ k x high at. w.none k x high (sym (set_else held m k v (λ e. absurd (omega arith))) ∙ at);
}

module _ (p : Shape (Prim.Unit {0})) (t : ℕ) (xs : List Line) where
  -- what stays true of the thread itself
  pub record Stays (b : Player) : Type 0 where
    pub rest : AtRest p b
    pub number : b.number ≡ t
    pub world : b.world ≡ Some tt
    pub held_size : IsWide b.held

  -- the thread after a line of its own
  pub played : (x : Line) (numbers : List ℕ) (es a : List Event) (vs v : List Visit) (start after : Hand) (b : Player) (share : List Added) → x.thread.0 ≡ t → Stays b → length numbers ≡ 64 → AreLeft t (lines_of t xs) es no_hand vs start
      → IsRow t x.operation a → Leaves t x.operation a start v after → b.mine ≡ es ++ a → visits_of b.stints ≡ vs ++ v → HasHand b.held numbers after → b.share ≡ Some share → AreLinked [] b.stints share
      → ((m : ℕ) → m < 64 → HasNumber (holding_after (held_after none_held xs) t x.operation t m) b.held m (get_or numbers m 0) share (total (lines_of t xs) m + added_by x.operation m))
      → IsPlaying p t (xs ++ x ∷ []) numbers b
  played x numbers es a vs v start after b share own s size are row left mine stints agrees is_share linked each = record {
    hand = after;
    line = record {
      rest = s.rest;
      number = s.number;
      world = s.world;
      size = size;
      held_size = s.held_size;
      before = es ++ a;
      visits = vs ++ v;
      are = left_own t xs x es a vs v no_hand start after own are row left;
      mine = mine ∙ sym (append-nil (es ++ a));
      stints = stints ∙ sym (append-nil (vs ++ v));
      agrees = agrees;
      share = share;
      is_share = is_share;
      linked = linked;
      each = λ m low.
          let held : held_after none_held (xs ++ x ∷ []) t m ≡ holding_after (held_after none_held xs) t x.operation t m = ap (λ h. h t m) (held_append none_held xs (x ∷ [])) ∙ ap (λ u. holding_after (held_after none_held xs) u x.operation t m) own in
          let P : Bool → Type 0 = λ c. HasNumber c b.held m (get_or numbers m 0) share (total (lines_of t xs) m + added_by x.operation m) in
          let Q : ℕ → Type 0 = λ n. HasNumber (held_after none_held (xs ++ x ∷ []) t m) b.held m (get_or numbers m 0) share n in
          subst Q (sym (total_own t xs x m own)) (subst P (sym held) (each m low));
    };
  }

  -- a line of another thread changes nothing
  held_by_other : (u : ℕ) (h : Holding) (m : ℕ) (x : Use) → (u ≡ t → ⊥) → holding_with h u x t m ≡ h t m
  held_by_other u h m (Takes k) ne = rw (ne_eqb u t ne) refl
  held_by_other u h m (Gives k) ne = rw (ne_eqb u t ne) refl
  held_by_other u h m (Needs k) ne = refl
  held_by_other u h m Nothing ne = refl

  pub passed : (x : Line) (numbers : List ℕ) (b : Player) → (x.thread.0 ≡ t → ⊥) → IsPlaying p t xs numbers b → IsPlaying p t (xs ++ x ∷ []) numbers b
  passed x numbers b other s = record {
    hand = s.hand;
    line = record {
      rest = s.rest;
      number = s.number;
      world = s.world;
      size = s.size;
      held_size = s.held_size;
      before = s.before;
      visits = s.visits;
      are = (let P : List Line → Type 0 = λ ys. AreLeft t ys s.before no_hand s.visits s.hand in subst P (sym (other_line t xs x other)) s.are);
      mine = s.mine;
      stints = s.stints;
      agrees = s.agrees;
      share = s.share;
      is_share = s.is_share;
      linked = s.linked;
      each = λ m low.
          let held : held_after none_held (xs ++ x ∷ []) t m ≡ held_after none_held xs t m = ap (λ h. h t m) (held_append none_held xs (x ∷ [])) ∙ held_by_other x.thread.0 (held_after none_held xs) m (use_of x.operation) other in
          let P : Bool → Type 0 = λ c. HasNumber c b.held m (get_or numbers m 0) s.share (total (lines_of t xs) m) in
          let Q : List Line → Type 0 = λ ys. HasNumber (held_after none_held (xs ++ x ∷ []) t m) b.held m (get_or numbers m 0) s.share (total ys m) in
          subst Q (sym (other_line t xs x other)) (subst P (sym held) (s.each m low));
    };
  }

-- what a change of one entry leaves of the others
number_else : (b : Bool) (held held' : List (Opt ℕ)) (m k number number' : ℕ) (share share' : List Added) (sum sum' : ℕ) → get_elem? held' k ≡ get_elem? held k → number' ≡ number → added k share' ≡ added k share → sum' ≡ sum
    → HasNumber b held k number share sum → HasNumber b held' k number' share' sum'
number_else true held held' m k number number' share share' sum sum' eh en es et (x, h, le, small, e) = (x, eh ∙ h, omega arith, small, omega arith)
number_else false held held' m k number number' share share' sum sum' eh en es et (h, e) = (eh ∙ h, omega arith)

-- the holding of the own row, after a change at m
at_same : (b : Bool) (h : Holding) (t m : ℕ) → held_if b h t m t m ≡ b
at_same b h t m = rw (eq-eqb t t refl, eq-eqb m m refl) refl

at_else : (b : Bool) (h : Holding) (t m k : ℕ) → (m ≡ k → ⊥) → held_if b h t m t k ≡ h t k
at_else b h t m k ne = rw (eq-eqb t t refl, ne_eqb m k ne) refl

-- what each kind of call makes of the numbers
module _ (h : Holding) (t m : ℕ) (held : List (Opt ℕ)) (numbers : List ℕ) (share : List Added) (sums : ℕ → ℕ) (low : m < 64) (size : length numbers ≡ 64) (held_size : IsWide held)
    (each : (k : ℕ) → k < 64 → HasNumber (h t k) held k (get_or numbers k 0) share (sums k)) where
  acquired_here : (x : ℕ) → h t m ≡ false → IsAbove m x share → HasNumber (held_if true h t m t m) (set held m (Some x)) m (get_or (set numbers m x) m 0) share (sums m + 0)
  acquired_here x free above =
      let P : Bool → Type 0 = λ b. HasNumber b (set held m (Some x)) m (get_or (set numbers m x) m 0) share (sums m + 0) in
      let Q : Bool → Type 0 = λ b. HasNumber b held m (get_or numbers m 0) share (sums m) in
      let was = subst Q free (each m low) in
      let now : get_or (set numbers m x) m 0 ≡ x = get_or-set_same numbers m x 0 (omega arith) in
      let e = was.1 in
      subst P (sym (at_same true h t m)) (x, set_here held m (Some x) (omega (arith, held_size.room)), omega arith, above.small, omega arith)

  pub acquired : (x : ℕ) → h t m ≡ false → IsAbove m x share → (k : ℕ) → k < 64 → HasNumber (held_if true h t m t k) (set held m (Some x)) k (get_or (set numbers m x) k 0) share (sums k + 0)
  acquired x free above k lk =
      elim (eqb_tells m k) [
        | inl q ↦ let R : ℕ → Type 0 = λ i. HasNumber (held_if true h t m t i) (set held m (Some x)) i (get_or (set numbers m x) i 0) share (sums i + 0) in subst R q.1 (acquired_here x free above)
        | inr q ↦
            let ne : k ≢ m = λ e. q.1 (sym e) in
            let P : Bool → Type 0 = λ b. HasNumber b (set held m (Some x)) k (get_or (set numbers m x) k 0) share (sums k + 0) in
            subst P (sym (at_else true h t m k q.1)) (number_else (h t k) held (set held m (Some x)) m k (get_or numbers k 0) (get_or (set numbers m x) k 0) share share (sums k) (sums k + 0) (set_else held m k (Some x) ne) (get_or-set_other numbers m k x 0 ne) refl (omega arith) (each k lk))
      ]

  -- the change that a release makes is one that the use allows
  pub may_release : (x : ℕ) → h t m ≡ true → get_elem? held m ≡ some (Some x) → sums m ≤ 100000000000 → GrowsAlike m x (get_or numbers m 0) share (record { mutex = m; amount = get_or numbers m 0 - x } ∷ share)
  may_release x own got small =
      let Q : Bool → Type 0 = λ b. HasNumber b held m (get_or numbers m 0) share (sums m) in
      let was = subst Q own (each m low) in
      let same : Some x ≡ Some was.0 = some-injective (Some x) (Some was.0) (sym got ∙ was.1) in
      let s : x ≡ was.0 = cc in
      let le = was.2 in
      let e = was.4 in
      let here : added m (record { mutex = m; amount = get_or numbers m 0 - x } ∷ share) ≡ (get_or numbers m 0 - x) + added m share = rw (eq-eqb m m refl) refl in
      record {
        rises = omega arith;
        alike = omega arith;
        others = λ k ne. rw (ne_eqb m k (λ q. ne (sym q))) refl;
        small = omega arith;
      }

  released_here : (x : ℕ) → h t m ≡ true → get_elem? held m ≡ some (Some x) → HasNumber (held_if false h t m t m) (set held m None) m (get_or numbers m 0) (record { mutex = m; amount = get_or numbers m 0 - x } ∷ share) (sums m + 0)
  released_here x own got =
      let P : Bool → Type 0 = λ b. HasNumber b (set held m None) m (get_or numbers m 0) (record { mutex = m; amount = get_or numbers m 0 - x } ∷ share) (sums m + 0) in
      let Q : Bool → Type 0 = λ b. HasNumber b held m (get_or numbers m 0) share (sums m) in
      let was = subst Q own (each m low) in
      let same : Some x ≡ Some was.0 = some-injective (Some x) (Some was.0) (sym got ∙ was.1) in
      let s : x ≡ was.0 = cc in
      let le = was.2 in
      let e = was.4 in
      let here : added m (record { mutex = m; amount = get_or numbers m 0 - x } ∷ share) ≡ (get_or numbers m 0 - x) + added m share = rw (eq-eqb m m refl) refl in
      subst P (sym (at_same false h t m)) (set_here held m None (omega (arith, held_size.room)), omega arith)

  pub released : (x : ℕ) → h t m ≡ true → get_elem? held m ≡ some (Some x) → (k : ℕ) → k < 64 → HasNumber (held_if false h t m t k) (set held m None) k (get_or numbers k 0) (record { mutex = m; amount = get_or numbers m 0 - x } ∷ share) (sums k + 0)
  released x own got k lk =
      elim (eqb_tells m k) [
        | inl q ↦
            let R : ℕ → Type 0 = λ i. HasNumber (held_if false h t m t i) (set held m None) i (get_or numbers i 0) (record { mutex = m; amount = get_or numbers m 0 - x } ∷ share) (sums i + 0) in
            subst R q.1 (released_here x own got)
        | inr q ↦
            let ne : k ≢ m = λ e. q.1 (sym e) in
            let P : Bool → Type 0 = λ b. HasNumber b (set held m None) k (get_or numbers k 0) (record { mutex = m; amount = get_or numbers m 0 - x } ∷ share) (sums k + 0) in
            let else_ : added k (record { mutex = m; amount = get_or numbers m 0 - x } ∷ share) ≡ added k share = rw (ne_eqb m k q.1) refl in
            subst P (sym (at_else false h t m k q.1)) (number_else (h t k) held (set held m None) m k (get_or numbers k 0) (get_or numbers k 0) share (record { mutex = m; amount = get_or numbers m 0 - x } ∷ share) (sums k) (sums k + 0) (set_else held m k None ne) refl else_ (omega arith) (each k lk))
      ]

  -- a call of a semaphore leaves the numbers
  pub untouched : (k : ℕ) → k < 64 → HasNumber (h t k) held k (get_or numbers k 0) share (sums k + 0)
  untouched k lk = number_else (h t k) held held m k (get_or numbers k 0) (get_or numbers k 0) share share (sums k) (sums k + 0) refl refl refl (omega arith) (each k lk)

  -- the number of a mutex that is held is small
  pub number_small : h t m ≡ true → sums m ≤ 100000000000 → get_or numbers m 0 ≤ 25700000000000
  number_small own small =
      let Q : Bool → Type 0 = λ b. HasNumber b held m (get_or numbers m 0) share (sums m) in
      let was = subst Q own (each m low) in
      let a = was.3 in
      let e = was.4 in
      omega arith

  added_here : (n : ℕ) → h t m ≡ true → HasNumber (h t m) held m (get_or (set numbers m (get_or numbers m 0 + n)) m 0) share (sums m + cond (eqb m m) n 0)
  added_here n own =
      let P : Bool → Type 0 = λ b. HasNumber b held m (get_or (set numbers m (get_or numbers m 0 + n)) m 0) share (sums m + cond (eqb m m) n 0) in
      let Q : Bool → Type 0 = λ b. HasNumber b held m (get_or numbers m 0) share (sums m) in
      let was = subst Q own (each m low) in
      let now : get_or (set numbers m (get_or numbers m 0 + n)) m 0 ≡ get_or numbers m 0 + n = get_or-set_same numbers m (get_or numbers m 0 + n) 0 (omega arith) in
      let sum : sums m + cond (eqb m m) n 0 ≡ sums m + n = rw (eq-eqb m m refl) refl in
      let le = was.2 in
      let e = was.4 in
      subst P (sym own) (was.0, was.1, omega arith, was.3, omega arith)

  pub added_to : (n : ℕ) → h t m ≡ true → (k : ℕ) → k < 64 → HasNumber (h t k) held k (get_or (set numbers m (get_or numbers m 0 + n)) k 0) share (sums k + cond (eqb m k) n 0)
  added_to n own k lk =
      elim (eqb_tells m k) [
        | inl q ↦
            let R : ℕ → Type 0 = λ i. HasNumber (h t i) held i (get_or (set numbers m (get_or numbers m 0 + n)) i 0) share (sums i + cond (eqb m i) n 0) in
            subst R q.1 (added_here n own)
        | inr q ↦
            let ne : k ≢ m = λ e. q.1 (sym e) in
            let none : sums k + cond (eqb m k) n 0 ≡ sums k = rw (ne_eqb m k q.1) (omega arith) in
            number_else (h t k) held held m k (get_or numbers k 0) (get_or (set numbers m (get_or numbers m 0 + n)) k 0) share share (sums k) (sums k + cond (eqb m k) n 0) refl (get_or-set_other numbers m k (get_or numbers m 0 + n) 0 ne) refl none (each k lk)
      ]

-- the holding after the mutex was given back and taken again
taken_again : (h : Holding) (t m k : ℕ) → h t m ≡ true → held_if true (held_if false h t m) t m t k ≡ h t k
taken_again h t m k own =
    elim (eqb_tells m k) [
      | inl q ↦
          let P : ℕ → Type 0 = λ i. held_if true (held_if false h t m) t m t i ≡ h t i in
          subst P q.1 (at_same true (held_if false h t m) t m ∙ sym own)
      | inr q ↦ at_else true (held_if false h t m) t m k q.1 ∙ at_else false h t m k q.1
    ]

-- a wait gives the number back that was got as x, and gets y
pub waited_for : (h : Holding) (t m : ℕ) (held : List (Opt ℕ)) (numbers : List ℕ) (share : List Added) (sums : ℕ → ℕ) → m < 64 → length numbers ≡ 64 → IsWide held → ((k : ℕ) → k < 64 → HasNumber (h t k) held k (get_or numbers k 0) share (sums k))
    → (x y : ℕ) → h t m ≡ true → get_elem? held m ≡ some (Some x) → IsAbove m y (record { mutex = m; amount = get_or numbers m 0 - x } ∷ share)
    → (k : ℕ) → k < 64 → HasNumber (h t k) (set held m (Some y)) k (get_or (set numbers m y) k 0) (record { mutex = m; amount = get_or numbers m 0 - x } ∷ share) (sums k)
waited_for h t m held numbers share sums low size held_size each x y own got above k lk =
    let given : List Added = record { mutex = m; amount = get_or numbers m 0 - x } ∷ share in
    let free = released h t m held numbers share sums low size held_size each x own got in
    let again = acquired (held_if false h t m) t m (set held m None) numbers given (λ i. sums i + 0) low size (wide_set held m None low held_size) free y (at_same false h t m) above k lk in
    let plain : sums k + 0 + 0 ≡ sums k = omega arith in
    let B : Bool → Type 0 = λ b. HasNumber b (set held m (Some y)) k (get_or (set numbers m y) k 0) given (sums k) in
    let L : List (Opt ℕ) → Type 0 = λ l. HasNumber (held_if true (held_if false h t m) t m t k) l k (get_or (set numbers m y) k 0) given (sums k) in
    let S : ℕ → Type 0 = λ n. HasNumber (held_if true (held_if false h t m) t m t k) (set (set held m None) m (Some y)) k (get_or (set numbers m y) k 0) given n in
    subst B (taken_again h t m k own) (subst L (set-set held m None (Some y)) (subst S plain again))
