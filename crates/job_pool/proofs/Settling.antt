-- What the close of the package says of what was put and taken.
use Rattle.std.proofs.Common.{◌≡◌, true, List, [], ◌∷◌, ◌++◌, map, length, take, Some, refl, sym, ◌∙◌, ap, subst, arith}
use Rattle.std.specs.List.{enumerate_from}
use Rattle.std.specs.List.Sorted.{IsPermutation}
use Rattle.std.proofs.lemmas.List.{map-append, take_all}
use Rattle.std.proofs.lemmas.List.Sorted.{IsPermutation-map, IsPermutation-sym, IsPermutation-trans}
use mathlib.Core.Option.{some}
use lib.ListN.{get_elem?}
use Rattle.nub.specs.Ended.{KeepsLocks}
use Rattle.nub.proofs.Users.{share_of}
use Rattle.bounded_buffer.specs.declared.note.Note.{Note}
use Rattle.bounded_buffer.specs.Plain.{Keeps, part_of, all_puts, all_takes}
use Rattle.bounded_buffer.specs.Rings.{Held}
use Rattle.job_pool.specs.declared.item.Item.{Item}
use Rattle.job_pool.specs.Working.{Worker, part_in, has_seen_end, all_puts_of, all_takes_of}

first_of_one : {A : Type 0} (xs : List A) → length xs ≡ 1 → (x : A) × (get_elem? xs 0 ≡ some x)
first_of_one [] one = absurd (omega arith)
first_of_one (x ∷ xs) one = (x, refl)

module _ {T : Type 0} where
  puts_all : (threads : List (Worker T)) (shares : List (List (Note (Item T)))) → map (λ t. t.share) threads ≡ map (λ s. Some s) shares
      → map (λ p. p.1) (all_puts 0 shares) ≡ all_puts_of threads
  puts_all [] [] each = refl
  puts_all [] (s ∷ shares) each = absurd (cc)
  puts_all (t ∷ threads) [] each = absurd (cc)
  puts_all (t ∷ threads) (s ∷ shares) each =
      let head : t.share ≡ Some s = cc in
      let tail : map (λ t. t.share) threads ≡ map (λ s. Some s) shares = cc in
      map-append (λ p. p.1) (part_of s 0).puts (all_puts 0 shares)
      ∙ (ap (λ l. map (λ p. p.1) (part_of s 0).puts ++ l) (puts_all threads shares tail)
      ∙ ap (λ o. map (λ p. p.1) (part_in o).puts ++ all_puts_of threads) (sym head))

  takes_all : (threads : List (Worker T)) (shares : List (List (Note (Item T)))) → map (λ t. t.share) threads ≡ map (λ s. Some s) shares
      → map (λ p. p.1) (all_takes 0 shares) ≡ all_takes_of threads
  takes_all [] [] each = refl
  takes_all [] (s ∷ shares) each = absurd (cc)
  takes_all (t ∷ threads) [] each = absurd (cc)
  takes_all (t ∷ threads) (s ∷ shares) each =
      let head : t.share ≡ Some s = cc in
      let tail : map (λ t. t.share) threads ≡ map (λ s. Some s) shares = cc in
      map-append (λ p. p.1) (part_of s 0).takes (all_takes 0 shares)
      ∙ (ap (λ l. map (λ p. p.1) (part_of s 0).takes ++ l) (takes_all threads shares tail)
      ∙ ap (λ o. map (λ p. p.1) (part_in o).takes ++ all_takes_of threads) (sym head))

  -- where the first thread saw the end, all that was put was taken, each once
  pub all_taken : (threads : List (Worker T)) (values : List (Held (Item T))) (c : Worker T) → KeepsLocks Keeps threads values → length values ≡ 1 → get_elem? threads 0 ≡ some c
      → has_seen_end c ≡ true → IsPermutation (all_puts_of threads) (all_takes_of threads)
  all_taken threads values c locks one at saw =
      let shares = locks.shares in
      let q = first_of_one values one in
      let rule = locks.kept 0 q.0 q.1 in
      let s = share_of threads shares locks.each_share 0 c at in
      let over = rule.seen_end 0 s.0 s.1 (sym (ap (λ o. (part_in o).seen_end) s.2) ∙ saw) in
      let all : take q.0.taken rule.log ≡ rule.log = (let long = over.2 in take_all q.0.taken rule.log (omega arith)) in
      let taken = subst (λ l. IsPermutation (all_takes 0 shares) (enumerate_from 0 l)) all rule.takes in
      let both = IsPermutation-trans (all_puts 0 shares) (enumerate_from 0 rule.log) (all_takes 0 shares) rule.puts (IsPermutation-sym (all_takes 0 shares) (enumerate_from 0 rule.log) taken) in
      subst (λ l. IsPermutation l (all_takes_of threads)) (puts_all threads shares locks.each_share)
      (subst (λ l. IsPermutation (map (λ p. p.1) (all_puts 0 shares)) l) (takes_all threads shares locks.each_share)
      (IsPermutation-map (λ p. p.1) (all_puts 0 shares) (all_takes 0 shares) both))
