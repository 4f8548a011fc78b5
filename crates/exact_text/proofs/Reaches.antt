-- What is shown of the rest of a text is shown of the whole.
use Rattle.std.proofs.Common.{◌≡◌, ℕ, ◌+◌, ◌<◌, ◌⊎◌, inl, inr, List, [], ◌∷◌, ◌++◌, length, length-append, refl, ap, sym, subst, Result, arith}
use Rattle.exact_text.specs.declared.stop.Stop.{Stop}
use Rattle.exact_text.specs.Codes.{IsCode}
use Rattle.exact_text.specs.Prefixes.{Begins, first_lines, IsBrokenAt, IsCutShortAt}
use Rattle.exact_text.specs.Unfolds.{Unfolds}
use Rattle.exact_text.proofs.Grammar.{line_some, begins_after, broken_after, cut_short_after, empty_prefix}

-- what is broken or cut short in the rest is so in the whole, so many lines later
pub record Reaches (T : List ℕ → Type 0) (bytes : List ℕ) (S : List ℕ → Type 0) (rest : List ℕ) (n : ℕ) : Type 0 where
  pub broken : (k : ℕ) → IsBrokenAt S rest k → IsBrokenAt T bytes (k + n)
  pub cut : (k : ℕ) → IsCutShortAt S rest k → IsCutShortAt T bytes (k + n)
  pub prefix : Begins S rest → Begins T bytes

-- the same texts, said in another way
pub reach_same : {S T : List ℕ → Type 0} → ((bytes : List ℕ) → T bytes → S bytes) → ((bytes : List ℕ) → S bytes → T bytes) → (bytes : List ℕ) → Reaches T bytes S bytes 0
reach_same {S} {T} to from bytes = record {
  broken = λ k b. let e : k ≡ k + 0 = omega arith in subst (IsBrokenAt T bytes) e (record { counted = b.counted; before = (b.before.0, from _ b.before.1); broken = λ t. b.broken (t.0, to _ t.1) });
  cut = λ k b. let e : k ≡ k + 0 = omega arith in subst (IsCutShortAt T bytes) e (record { prefix = (b.prefix.0, from _ b.prefix.1); no_text = λ t. b.no_text (to _ t); last = b.last });
  prefix = λ b. (b.0, from _ b.1);
}

pub reach_here : (T : List ℕ → Type 0) (bytes : List ℕ) → Reaches T bytes T bytes 0
reach_here T bytes = reach_same (λ _ t. t) (λ _ t. t) bytes

pub reach_then : {T S R : List ℕ → Type 0} {a b c : List ℕ} {n m : ℕ} (l : ℕ) → l ≡ n + m → Reaches T a S b n → Reaches S b R c m → Reaches T a R c l
reach_then {T} {S} {R} {a} {b} {c} {n} {m} l e p q = record {
  broken = λ k x. let s : k + m + n ≡ k + l = omega (arith, e) in subst (IsBrokenAt T a) s (p.broken (k + m) (q.broken k x));
  cut = λ k x. let s : k + m + n ≡ k + l = omega (arith, e) in subst (IsCutShortAt T a) s (p.cut (k + m) (q.cut k x));
  prefix = λ b. p.prefix (q.prefix b);
}

none_first : (xs ys : List ℕ) → xs ++ ys ≡ [] → xs ≡ []
none_first [] ys e = refl
none_first (x ∷ xs) ys e = absurd (cc)

-- The texts of T are those of S, and maybe nothing: where a byte is left it is enough to look at S.
module _ {S T : List ℕ → Type 0} (some : (bytes : List ℕ) → T bytes → (bytes ≡ []) ⊎ S bytes) (back : (bytes : List ℕ) → S bytes → T bytes) where
  pub broken_some : Begins S [] → (bytes : List ℕ) (k : ℕ) → IsBrokenAt S bytes k → IsBrokenAt T bytes k
  broken_some empty bytes k b = record {
    counted = b.counted;
    before = (b.before.0, back _ b.before.1);
    broken = λ t. elim (some _ t.1) [
      | inl e ↦ b.broken (subst (Begins S) (sym (none_first (first_lines k bytes) t.0 e)) empty)
      | inr s ↦ b.broken (t.0, s)
    ];
  }

  pub cut_some : (bytes : List ℕ) (k : ℕ) → 0 < length bytes → IsCutShortAt S bytes k → IsCutShortAt T bytes k
  cut_some bytes k more b = record {
    prefix = (b.prefix.0, back _ b.prefix.1);
    no_text = λ t. elim (some _ t) [
      | inl e ↦ absurd (omega (arith, ap length e))
      | inr s ↦ b.no_text s
    ];
    last = b.last;
  }

  -- past a line
  pub reach_line : {X : Type 0} {lawful : X → Type 0} {text : X → List ℕ} {Next : X → List ℕ → Type 0} {read : List ℕ → Result (X × List ℕ) Stop} → Unfolds S lawful text Next → IsCode lawful text read
      → (x : X) → lawful x → (rest : List ℕ) → Reaches T (text x ++ rest) (Next x) rest 1
  reach_line {text = text} grammar code x l rest = record {
    broken = λ k b. broken_some (empty_prefix grammar code) (text x ++ rest) (k + 1) (broken_after grammar code x l rest k b);
    cut = λ k b. cut_some (text x ++ rest) (k + 1) (omega (arith, length-append (text x) rest, line_some (text x) (grammar.lines x l))) (cut_short_after grammar code x l rest k b);
    prefix = λ b. let p = begins_after grammar code x l rest b in (p.0, back _ p.1);
  }
