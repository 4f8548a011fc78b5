-- The rule of plain buffers holds at first.
use Rattle.std.proofs.Common.{◌≡◌, ℕ, zero, suc, List, [], ◌∷◌, arith, sym, ap, subst, refl}
use Rattle.std.specs.List.Sorted.{IsPermutation}
use Rattle.std.proofs.lemmas.List.Sorted.{IsPermutation-refl}
use mathlib.Core.Option.{some, some-injective}
use lib.ListN.{get_elem?}
use Rattle.nub_rule.specs.Ends.{firsts}
use Rattle.nub_rule.specs.Items.{Each}
use Rattle.nub.proofs.Totals.{at_firsts}
use Rattle.bounded_buffer.specs.declared.note.Note.{Note}
use Rattle.bounded_buffer.specs.Parts.{Used, unused}
use Rattle.bounded_buffer.specs.Plain.{BufferRule, Keeps, part_of}
use Rattle.bounded_buffer.specs.Rings.{Held, fresh}
use Rattle.bounded_buffer.proofs.Alone.{nobody, nobody_shut}

-- what is so of the first, and at one place further of the others, is so of each
pub first_then : {A : Type 0} (P : ℕ → A → Type 0) (x : A) (xs : List A) → P 0 x → Each (λ n. P (suc n)) xs → Each P (x ∷ xs)
first_then P x xs own rest zero y e = subst (P 0) (some-injective x y e) own
first_then P x xs own rest (suc n) y e = rest n y e

module _ {T : Type 0} where
  -- at first each share says nothing of any buffer
  nothing : {A : Type 0} (f : Used T → A) (m n t : ℕ) (s : List (Note T)) → get_elem? (firsts (λ k. []) n) t ≡ some s → f (part_of s m) ≡ f unused
  nothing f m n t s e = ap (λ (l : List (Note T)). f (part_of l m)) (sym (at_firsts [] n t s e))

  pub rule_begins : (m c n : ℕ) → BufferRule {T = T} m (fresh c) (firsts (λ t. []) n)
  rule_begins m c n = let shares : List (List (Note T)) = firsts (λ t. []) n in record {
    log = [];
    puts = subst (λ l. IsPermutation l []) (sym (nobody (λ u. u.puts) m shares (nothing (λ u. u.puts) m n))) (IsPermutation-refl []);
    takes = subst (λ l. IsPermutation l []) (sym (nobody (λ u. u.takes) m shares (nothing (λ u. u.takes) m n))) (IsPermutation-refl []);
    taken = omega arith;
    left = refl;
    room = omega arith;
    shut = sym (nobody_shut m shares (nothing (λ u. u.shut) m n));
    seen_shut = λ t s e is. let not = nothing (λ u. u.seen_shut) m n t s e in absurd (cc);
    seen_end = λ t s e is. let not = nothing (λ u. u.seen_end) m n t s e in absurd (cc);
  }

  -- where each ring is new
  pub rings_begin : (values : List (Held T)) (n : ℕ) → ((m : ℕ) (q : Held T) → get_elem? values m ≡ some q → (c : ℕ) × (q ≡ fresh c)) → Keeps values (firsts (λ t. []) n)
  rings_begin values n new m q at = let x = new m q at in subst (λ r. BufferRule m r (firsts (λ t. []) n)) (sym x.1) (rule_begins m x.0 n)
