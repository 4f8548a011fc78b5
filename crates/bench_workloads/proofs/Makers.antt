-- What makers and takers leave together.
use Rattle.std.proofs.Common.{◌≡◌, ◌⊎◌, ℕ, zero, suc, ◌+◌, ◌*◌, ◌%◌, ◌^◌, ◌<◌, ◌≤◌, Bool, true, false, List, [], ◌∷◌, ◌++◌, length, length-append, take, arith, sym, ap, subst, ◌∙◌, ⊎_elim, refl, Some}
use Rattle.std.specs.List.{All, sum, enumerate_from}
use Rattle.std.specs.List.Sorted.{IsPermutation}
use Rattle.std.proofs.lemmas.Bool.{false_from_ne_true}
use Rattle.std.proofs.lemmas.List.{take_all, length-drop}
use Rattle.std.proofs.lemmas.List.Elements.{All-head}
use Rattle.std.proofs.lemmas.List.FromFn.{length-enumerate_from}
use Rattle.std.proofs.lemmas.List.Sorted.{length_permutation, sum_by-IsPermutation}
use Rattle.std.proofs.lemmas.List.Sums.{sum_by-append}
use mathlib.Core.Option.{some, some-injective, some-ne-none}
use lib.ListN.{get_elem?}
use Rattle.nub_rule.specs.Items.{Each}
use Rattle.nub_rule.specs.Known.{Shape}
use Rattle.nub_rule.proofs.Each.{at_below}
use Rattle.nub.specs.Ended.{KeepsLocks}
use Rattle.nub.specs.Totals.{total}
use Rattle.nub.proofs.Totals.{sum_said}
use Rattle.nub.proofs.Users.{all_recorded, share_count}
use Rattle.bounded_buffer.specs.declared.note.Note.{Note}
use Rattle.bounded_buffer.specs.Parts.{Used}
use Rattle.bounded_buffer.specs.Plain.{BufferRule, Keeps, part_of, pairs_of, all_puts, all_takes}
use Rattle.bounded_buffer.specs.PlainLaws.{fits_plain}
use Rattle.bounded_buffer.specs.Rings.{Held, fresh, put_count}
use Rattle.bounded_buffer.specs.Using.{settled}
use Rattle.bounded_buffer.proofs.Alone.{never_shut}
use Rattle.bench_workloads.specs.Passing.{Both, HasEnded, HasPassed, IsOver, IsRow, Passer, WasRefused, items_sum, numbers_sum}
use Rattle.bench_workloads.proofs.Totals.{fewer, rows-more, total-mod, total_sides}

-- what a share says of both buffers, but for the waits
abbrev said : List (Note ℕ) → Both
said s = record { numbers = settled (part_of s 0); ends = settled (part_of s 1) }

-- what adds up over lists adds up over the pairs of all shares
pairs_total : (g : List (ℕ × ℕ) → ℕ) → g [] ≡ 0 → ((xs ys : List (ℕ × ℕ)) → g (xs ++ ys) ≡ g xs + g ys) → (f : Used ℕ → List (ℕ × ℕ)) (m : ℕ) (shares : List (List (Note ℕ)))
    → g (pairs_of f m shares) ≡ total (λ s. g (f (part_of s m))) shares
pairs_total g none adds f m [] = none
pairs_total g none adds f m (s ∷ shares) = adds (f (part_of s m)) (pairs_of f m shares) ∙ ap (λ n. g (f (part_of s m)) + n) (pairs_total g none adds f m shares)

many : (f : Used ℕ → List (ℕ × ℕ)) (m : ℕ) (shares : List (List (Note ℕ))) → length (pairs_of f m shares) ≡ total (λ s. length (f (part_of s m))) shares
many = pairs_total (λ ps. length ps) refl length-append

summed : (f : Used ℕ → List (ℕ × ℕ)) (m : ℕ) (shares : List (List (Note ℕ))) → items_sum (pairs_of f m shares) ≡ total (λ s. items_sum (f (part_of s m))) shares
summed = pairs_total items_sum refl (sum_by-append (λ (p : ℕ × ℕ). p.1))

-- as many items were ever put as the shares say
puts-count : (m : ℕ) (q : Held ℕ) (shares : List (List (Note ℕ))) → BufferRule m q shares → put_count q ≡ total (λ s. length (part_of s m).puts) shares
puts-count m q shares rule =
    let taken = rule.taken in
    let left = ap length rule.left in
    let rest = length-drop q.taken rule.log in
    let logged = length-enumerate_from 0 rule.log in
    let same = length_permutation (all_puts m shares) (enumerate_from 0 rule.log) rule.puts in
    let all = many (λ u. u.puts) m shares in
    omega arith

module _ (makers times : ℕ) (sums : List ℕ) (values : List (Held ℕ)) (shares : List (List (Note ℕ))) (kept : Keeps values shares)
    (each : Each (λ n s. (left : ℕ) × (get_elem? sums n ≡ some left) × HasEnded makers times n left (said s)) shares) (q e : Held ℕ) (at_q : get_elem? values 0 ≡ some q) (at_e : get_elem? values 1 ≡ some e) where
  -- where a maker has not told of its end, nobody has shut the buffer of numbers
  nobody_last : (j : ℕ) (s : List (Note ℕ)) → get_elem? shares j ≡ some s → j < makers → (part_of s 1).puts ≡ [] → (k : ℕ) (u : List (Note ℕ)) → get_elem? shares k ≡ some u → (part_of u 0).shut ≡ true → ⊥
  nobody_last j s at low untold k u at_u shut =
      let last = (each k u at_u).2.last shut in
      let within = (fits_plain tt values shares kept 1 e at_e k u at_u).puts in
      let all = subst (λ (l : List (ℕ × ℕ)). All (λ p. p.0 < put_count e) l) last.1 within in
      let here : last.0 < put_count e = All-head (λ p. p.0 < put_count e) (last.0, k) [] all in
      let place = last.2 in
      let count = puts-count 1 e shares (kept 1 e at_e) in
      let few = fewer (λ (v : List (Note ℕ)). length (part_of v 1).puts) makers j shares (λ i v at_v. (each i v at_v).2.once) (λ i v at_v high. ap length ((each i v at_v).2.takes high).recorded)
      (λ v at_v. ap (λ (w : List (Note ℕ)). length (part_of w 1).puts) (some-injective v s (sym at_v ∙ at)) ∙ ap length untold) low in
      omega arith

  -- no maker was refused
  made : (j : ℕ) (s : List (Note ℕ)) → get_elem? shares j ≡ some s → j < makers → IsRow (j * times) times (part_of s 0).puts
  made j s at low = ⊎_elim
      (λ (m : IsRow (j * times) times (part_of s 0).puts). m)
      (λ (r : WasRefused (said s)). absurd (⊎_elim
      (never_shut 0 q shares (λ k u at_u. false_from_ne_true (part_of u 0).shut (nobody_last j s at low r.recorded k u at_u)) (kept 0 q at_q) j s at)
      (never_shut 1 e shares (λ k u at_u. (each k u at_u).2.opened) (kept 1 e at_e) j s at)
      r.seen))
      ((each j s at).2.makes low)

  -- what was taken is what was put, and all of it
  outcome : makers < length shares → length sums ≡ length shares → (sum sums % 2 ^ 64 ≡ numbers_sum 0 (makers * times) % 2 ^ 64) × IsOver (makers * times) q
  outcome some_taker long =
      let rule = kept 0 q at_q in
      let taker = at_below shares makers some_taker in
      let end = rule.seen_end makers taker.0 taker.1 ((each makers taker.0 taker.1).2.takes (omega arith)).end in
      let over = end.2 in
      let all : take q.taken rule.log ≡ rule.log = take_all q.taken rule.log (omega arith) in
      let took = subst (λ l. IsPermutation (all_takes 0 shares) (enumerate_from 0 l)) all rule.takes in
      let one : items_sum (enumerate_from 0 rule.log) ≡ items_sum (all_takes 0 shares) = sum_by-IsPermutation (λ (p : ℕ × ℕ). p.1) (all_takes 0 shares) (enumerate_from 0 rule.log) took in
      let other : items_sum (enumerate_from 0 rule.log) ≡ items_sum (all_puts 0 shares) = sum_by-IsPermutation (λ (p : ℕ × ℕ). p.1) (all_puts 0 shares) (enumerate_from 0 rule.log) rule.puts in
      let takes = summed (λ u. u.takes) 0 shares in
      let puts = summed (λ u. u.puts) 0 shares in
      let nothing : 0 * times ≡ 0 = omega arith in
      let one_row : times ≡ 1 * times = omega arith in
      let rows = total_sides (λ (s : List (Note ℕ)). items_sum (part_of s 0).puts) (λ i n. numbers_sum (i * times) (n * times)) (λ i. ap (numbers_sum (i * times)) nothing) (rows-more times) 0 makers shares (omega arith)
      (λ k u at low. (made k u at low).sum ∙ ap (numbers_sum (k * times)) one_row) (λ k u at high. ap items_sum ((each k u at).2.takes high).puts) in
      let counts = total_sides (λ (s : List (Note ℕ)). length (part_of s 0).puts) (λ i n. n * times) (λ i. nothing) (λ i n. omega arith) 0 makers shares (omega arith)
      (λ k u at low. (made k u at low).count ∙ one_row) (λ k u at high. ap length ((each k u at).2.takes high).puts) in
      let counted = sum_said (λ (s : List (Note ℕ)). items_sum (part_of s 0).takes % 2 ^ 64) sums shares long (λ n s at. let h = each n s at in h.1 ∙ ap (λ l. some l) h.2.sum) in
      let modulo = total-mod (λ (s : List (Note ℕ)). items_sum (part_of s 0).takes) (2 ^ 64) shares in
      let same : total (λ (s : List (Note ℕ)). items_sum (part_of s 0).takes) shares ≡ numbers_sum (0 * times) (makers * times) = omega arith in
      let count = puts-count 0 q shares rule in
      let none = ap length end.1 in
      (ap (λ n. n % 2 ^ 64) counted ∙ (modulo ∙ ap (λ n. n % 2 ^ 64) (same ∙ ap (λ n. numbers_sum n (makers * times)) nothing)), record { taken = omega arith; empty = end.1; shut = end.0 })

-- what all threads leave together
pub closes : (makers times : ℕ) (p : Shape (Unit {0})) (threads : List Passer) (sums : List ℕ) (values : List (Held ℕ)) → KeepsLocks Keeps threads values
    → makers < length threads → length sums ≡ length threads → length values ≡ 2
    → Each (λ n t. (left : ℕ) × (get_elem? sums n ≡ some left) × HasPassed p makers times n left t) threads
    → (sum sums % 2 ^ 64 ≡ numbers_sum 0 (makers * times) % 2 ^ 64) × ((q : Held ℕ) → get_elem? values 0 ≡ some q → IsOver (makers * times) q)
closes makers times p threads sums values locks some_taker long two passed =
    let shares = locks.shares in
    let as_many = share_count threads shares locks.each_share in
    let P : ℕ → List (Note ℕ) → Type 0 = λ n s. (left : ℕ) × (get_elem? sums n ≡ some left) × HasEnded makers times n left (said s) in
    let each = all_recorded P threads shares locks.each_share (λ n t at.
    let h = passed n t at in
    let x = h.2.0 in
    let done = h.2.1 in
    let numbers = sym (done.said 0 x.numbers refl) in
    let ends = sym (done.said 1 x.ends refl) in
    let same : x ≡ said done.share = λ i. record { numbers = numbers i; ends = ends i } in
    (done.share, done.idle.share, (h.0, h.1, subst (λ y. HasEnded makers times n h.0 y) same h.2.2))) in
    let q = at_below values 0 (omega arith) in
    let e = at_below values 1 (omega arith) in
    let o = outcome makers times sums values shares locks.kept each q.0 e.0 q.1 e.1 (omega arith) (omega arith) in
    (o.0, λ r at. subst (λ v. IsOver (makers * times) v) (some-injective q.0 r (sym q.1 ∙ at)) o.1)

-- both rings are new
pub both_new : (a b : ℕ) (values : List (Held ℕ)) → values ≡ fresh a ∷ fresh b ∷ [] → (m : ℕ) (q : Held ℕ) → get_elem? values m ≡ some q → (c : ℕ) × (q ≡ fresh c)
both_new a b values is zero q at = (a, sym (some-injective (fresh a) q (sym (ap (λ l. get_elem? l 0) is) ∙ at)))
both_new a b values is (suc zero) q at = (b, sym (some-injective (fresh b) q (sym (ap (λ l. get_elem? l 1) is) ∙ at)))
both_new a b values is (suc (suc m)) q at = absurd (some-ne-none q (sym at ∙ ap (λ l. get_elem? l (suc (suc m))) is))
