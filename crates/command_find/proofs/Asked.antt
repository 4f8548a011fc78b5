-- Words ask for one thing.
use Rattle.std.proofs.Common.{◌≡◌, ◌∙◌, inl, inr, ℕ, ◌<◌, ◌^◌, List, [], ◌∷◌, arith, sym, codes}
use Rattle.std.specs.Prelude.{decimal}
use Rattle.std.proofs.lemmas.Fmt.{decimal_injective}
use Rattle.index_find.specs.Grammar.{Token}
use Rattle.command_find.specs.Asking.{Asks, AsksWithin}

same_within : (words : List Token) (l k : ℕ) (ts us : List Token) → AsksWithin words l ts → AsksWithin words k us → (l ≡ k) × (ts ≡ us)
same_within [] l k ts us p q = absurd p
same_within (number ∷ rest) l k ts us p q =
    let a = p.0 in
    let b = q.0 in
    let low : l < 2 ^ 64 = omega (arith, a.2) in
    let high : k < 2 ^ 64 = omega (arith, b.2) in
    (decimal_injective l k low high (sym a.0 ∙ b.0), p.1 ∙ sym q.1)

pub same_asked : (words : List Token) (l k : ℕ) (ts us : List Token) → Asks words l ts → Asks words k us → (l ≡ k) × (ts ≡ us)
same_asked [] l k ts us p q = (p.0 ∙ sym q.0, p.1 ∙ sym q.1)
same_asked (word ∷ rest) l k ts us (inl p) (inl q) = (p.1 ∙ sym q.1, p.2 ∙ sym q.2)
same_asked (word ∷ rest) l k ts us (inl p) (inr q) = absurd (p.0 q.0)
same_asked (word ∷ rest) l k ts us (inr p) (inl q) = absurd (q.0 p.0)
same_asked (word ∷ rest) l k ts us (inr p) (inr q) = same_within rest l k ts us p.1 q.1
