-- Paths as they stand on a line.
use Rattle.std.proofs.Common.{◌≡◌, ◌⊎◌, inl, inr, ℕ, Bool, true, false, cond, List, [], ◌∷◌, ◌++◌, refl, sym, ap, ◌∙◌, Option, Some, None}
use Rattle.std.specs.Prelude.{◌==◌, not}
use Rattle.std.specs.Option.{option_map}
use Rattle.std.specs.List.{AllByRecursion}
use Rattle.std.proofs.lemmas.Bool.{eqb-true, eq-eqb}
use Rattle.std.proofs.lemmas.Bool.Decides.{eqb_tells}
use Rattle.text_output.specs.Paths.{escaped}
use Rattle.exact_text.proofs.Words.{chosen}
use Rattle.exact_text.specs.Prefixes.{IsFlat}
use Rattle.index_text.specs.Lines.{unescaped, put, is_no_newline}

abbrev pub before : List ℕ → Option (List ℕ) → Option (List ℕ)
before q o = option_map (λ l. q ++ l) o

before_put : (b : ℕ) (q : List ℕ) (o : Option (List ℕ)) → put b (before q o) ≡ before (b ∷ q) o
before_put b q None = refl
before_put b q (Some l) = refl

before_none : (o : Option (List ℕ)) → o ≡ before [] o
before_none None = refl
before_none (Some l) = refl

-- what the bytes leave to be read
pub record GoesOn (pending : Bool) (w : List ℕ) : Type 0 where
  pub text : List ℕ
  pub open_end : Bool
  pub is : (end : Option (List ℕ)) (more : List ℕ) → unescaped end pending (w ++ more) ≡ before text (unescaped end open_end more)

abbrev pub Fails : Bool → List ℕ → Type 0
Fails pending w = (end : Option (List ℕ)) (more : List ℕ) → unescaped end pending (w ++ more) ≡ None

abbrev Goes : Bool → List ℕ → Type 0
Goes pending w = GoesOn pending w ⊎ Fails pending w

more_put : (b : ℕ) (pending next : Bool) (w bytes : List ℕ)
    → ((end : Option (List ℕ)) (more : List ℕ) → unescaped end pending (bytes ++ more) ≡ put b (unescaped end next (w ++ more))) → Goes next w → Goes pending bytes
more_put b pending next w bytes step (inl g) = inl (record { text = b ∷ g.text; open_end = g.open_end; is = λ end more. step end more ∙ ap (put b) (g.is end more) ∙ before_put b g.text (unescaped end g.open_end more) })
more_put b pending next w bytes step (inr f) = inr (λ end more. step end more ∙ ap (put b) (f end more))

pub goes : (pending : Bool) (w : List ℕ) → Goes pending w
goes false [] = inl (record { text = []; open_end = false; is = λ end more. before_none (unescaped end false more) })
goes true [] = inl (record { text = []; open_end = true; is = λ end more. before_none (unescaped end true more) })
goes false (b ∷ w) =
    elim (eqb_tells b 92) [
      | inl p ↦
          elim (goes true w) [
            | inl g ↦ inl (record { text = g.text; open_end = g.open_end; is = λ end more. rw p.0 (g.is end more) })
            | inr f ↦ inr (λ end more. rw p.0 (f end more))
          ]
      | inr p ↦ more_put b false false w (b ∷ w) (λ end more. rw p.0 refl) (goes false w)
    ]
goes true (b ∷ w) =
    elim (eqb_tells b 92) [
      | inl p ↦ more_put 92 true false w (b ∷ w) (λ end more. rw p.0 refl) (goes false w)
      | inr p ↦
          elim (eqb_tells b 110) [
            | inl q ↦ more_put 10 true false w (b ∷ w) (λ end more. rw (p.0, q.0) refl) (goes false w)
            | inr q ↦ inr (λ end more. rw (p.0, q.0) refl)
          ]
    ]

-- an escaped path stands for the path, whatever ends it
pub unescapes : (p : List ℕ) (end : Option (List ℕ)) → unescaped end false (escaped p) ≡ Some p
unescapes [] end = refl
unescapes (b ∷ p) end =
    elim (eqb_tells b 92) [
      | inl q ↦ rw (q.0) (ap (put 92) (unescapes p end) ∙ ap (λ d. Some (d ∷ p)) (sym q.1))
      | inr q ↦
          elim (eqb_tells b 10) [
            | inl r ↦ rw (q.0, r.0) (ap (put 10) (unescapes p end) ∙ ap (λ d. Some (d ∷ p)) (sym r.1))
            | inr r ↦ rw (q.0, r.0) (rw q.0 (ap (put b) (unescapes p end)))
          ]
    ]

put_some : (b : ℕ) (o : Option (List ℕ)) (p : List ℕ) → put b o ≡ Some p → (q : List ℕ) × (o ≡ Some q) × (p ≡ b ∷ q)
put_some b None p h = absurd (cc)
put_some b (Some q) p h = (q, refl, cc)

-- and no other bytes do
pub escaped_back : (pending : Bool) (w p : List ℕ) → unescaped None pending w ≡ Some p → AllByRecursion (λ b. is_no_newline b ≡ true) w → escaped p ≡ cond pending (92 ∷ w) w
escaped_back false [] p h flat = let e : p ≡ [] = cc in ap escaped e
escaped_back true [] p h flat = absurd (cc)
escaped_back false (b ∷ w) p h flat =
    elim (chosen (b == 92) _ _ _ h) [
      | inl q ↦ escaped_back true w p q.1 flat.1 ∙ ap (λ d. d ∷ w) (sym (eqb-true b 92 q.0))
      | inr q ↦
          let r = put_some b (unescaped None false w) p q.1 in
          let ten : (b == 10) ≡ false = not_true (b == 10) flat.0 in
          ap escaped r.2 ∙ rw (q.0, ten) (ap (λ l. b ∷ l) (escaped_back false w r.0 r.1 flat.1))
    ]
  where
    not_true : (t : Bool) → not t ≡ true → t ≡ false
    not_true true h = absurd (cc)
    not_true false h = refl
escaped_back true (b ∷ w) p h flat =
    elim (chosen (b == 92) _ _ _ h) [
      | inl q ↦
          let r = put_some 92 (unescaped None false w) p q.1 in
          ap escaped r.2 ∙ (λ i. 92 ∷ sym (eqb-true b 92 q.0) i ∷ escaped_back false w r.0 r.1 flat.1 i)
      | inr q ↦
          elim (chosen (b == 110) _ _ _ q.1) [
            | inl t ↦
                let r = put_some 10 (unescaped None false w) p t.1 in
                ap escaped r.2 ∙ (λ i. 92 ∷ sym (eqb-true b 110 t.0) i ∷ escaped_back false w r.0 r.1 flat.1 i)
            | inr t ↦ let u = t.1 in absurd (cc)
          ]
    ]

-- an escaped path has no newline
pub escaped_passes : (p : List ℕ) → AllByRecursion (λ b. is_no_newline b ≡ true) (escaped p)
escaped_passes [] = tt
escaped_passes (b ∷ p) =
    elim (eqb_tells b 92) [
      | inl q ↦ rw q.0 (refl, (refl, escaped_passes p))
      | inr q ↦
          elim (eqb_tells b 10) [
            | inl r ↦ rw (q.0, r.0) (refl, (refl, escaped_passes p))
            | inr r ↦ rw (q.0, r.0) (rw r.0 refl, escaped_passes p)
          ]
    ]

pub flat_passes : (w : List ℕ) → AllByRecursion (λ b. is_no_newline b ≡ true) w → IsFlat w
flat_passes [] h = tt
flat_passes (b ∷ w) h = ((λ e. let n = sym h.0 ∙ ap not (eq-eqb b 10 e) in absurd (cc)), flat_passes w h.1)
