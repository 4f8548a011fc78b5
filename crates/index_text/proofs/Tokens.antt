-- Bytes up to the one that stops them, read exactly.
use Rattle.std.proofs.Common.{◌≡◌, ◌⊎◌, inl, inr, ℕ, Bool, true, false, cond, List, [], ◌∷◌, ◌++◌, refl, sym, ap, subst, ◌∙◌, Ok, Err, append_assoc, append-nil, true≢false}
use Rattle.std.specs.Prelude.{◌==◌, ◌&&◌}
use Rattle.std.specs.List.{AllByRecursion}
use Rattle.std.proofs.lemmas.Bool.{eqb-true, eq-eqb}
use Rattle.exact_text.specs.declared.stop.Stop.TheVariants.{More, Dead}
use Rattle.exact_text.specs.Codes.{IsCode}
use Rattle.exact_text.proofs.CodeLaws.{ok_injective}
use Rattle.exact_text.proofs.Words.{chosen}
use Rattle.index_text.specs.Lines.{token_from}

pub both_true : (a b : Bool) → (a && b) ≡ true → (a ≡ true) × (b ≡ true)
both_true true b h = (refl, h)
both_true false b h = absurd (cc)

pub either_bool : (b : Bool) → (b ≡ true) ⊎ (b ≡ false)
either_bool true = inl refl
either_bool false = inr refl

module _ (ok : ℕ → Bool) (good grow : List ℕ → Bool) (stop : ℕ) where
  abbrev pub Passes : List ℕ → Type 0
  Passes ys = AllByRecursion (λ b. ok b ≡ true) ys

  -- passed bytes are gathered
  pub token_over : (w ys rest : List ℕ) → Passes ys → token_from ok good grow stop w (ys ++ rest) ≡ token_from ok good grow stop (w ++ ys) rest
  token_over w [] rest h = ap (λ l. token_from ok good grow stop l rest) (sym (append-nil w))
  token_over w (y ∷ ys) rest h =
      rw h.0 (token_over (w ++ y ∷ []) ys rest h.1 ∙ ap (λ l. token_from ok good grow stop l rest) (append_assoc w (y ∷ []) ys))

  module _ (apart : ok stop ≡ false)
      (sound : (w : List ℕ) → Passes w → grow w ≡ true → (more : List ℕ) × Passes more × (good (w ++ more) ≡ true))
      (whole : (w more : List ℕ) → Passes more → good (w ++ more) ≡ true → grow w ≡ true) where
    abbrev IsToken : List ℕ → Type 0
    IsToken w = Passes w × (good w ≡ true)

    passes_append : (xs ys : List ℕ) → Passes xs → Passes ys → Passes (xs ++ ys)
    passes_append [] ys p q = q
    passes_append (x ∷ xs) ys p q = (p.0, passes_append xs ys p.1 q)

    token_found : (w bytes rest x : List ℕ) → Passes w → token_from ok good grow stop w bytes ≡ Ok (x, rest) → IsToken x × (w ++ bytes ≡ (x ++ stop ∷ []) ++ rest)
    token_found w [] rest x p e = elim (chosen (grow w) _ _ _ e) [ inl q ↦ let h = q.1 in absurd (cc) | inr q ↦ let h = q.1 in absurd (cc) ]
    token_found w (c ∷ bytes) rest x p e =
        elim (chosen (ok c) _ _ _ e) [
          | inl q ↦
              let f = token_found (w ++ c ∷ []) bytes rest x (passes_append w (c ∷ []) p (q.0, tt)) q.1 in
              (f.0, sym (append_assoc w (c ∷ []) bytes) ∙ f.1)
          | inr q ↦
              elim (chosen ((c == stop) && good w) _ _ _ q.1) [
                | inl r ↦
                    let t = both_true (c == stop) (good w) r.0 in
                    let same = ok_injective r.1 in
                    let P : List ℕ × List ℕ → Type 0 = λ q. IsToken q.0 × (w ++ c ∷ bytes ≡ (q.0 ++ stop ∷ []) ++ q.1) in
                    subst P same ((p, t.1), ap (λ d. w ++ d ∷ bytes) (eqb-true c stop t.0) ∙ sym (append_assoc w (stop ∷ []) bytes))
                | inr r ↦ let h = r.1 in absurd (cc)
              ]
        ]

    token_again : (x rest : List ℕ) → IsToken x → token_from ok good grow stop [] ((x ++ stop ∷ []) ++ rest) ≡ Ok (x, rest)
    token_again x rest l =
        ap (token_from ok good grow stop []) (append_assoc x (stop ∷ []) rest) ∙ token_over [] x (stop ∷ rest) l.0
        ∙ (λ i. cond (apart i) (token_from ok good grow stop (x ++ stop ∷ []) rest) (cond ((eq-eqb stop stop refl i) && l.1 i) (Ok (x, rest)) (Err Dead)))

    token_more : (w bytes : List ℕ) → Passes w → token_from ok good grow stop w bytes ≡ Err More → (x : List ℕ) × (rest : List ℕ) × IsToken x × ((w ++ bytes) ++ rest ≡ x ++ stop ∷ [])
    token_more w [] p e =
        elim (chosen (grow w) _ _ _ e) [
          | inl q ↦
              let s = sound w p q.0 in
              (w ++ s.0, s.0 ++ stop ∷ [], (passes_append w s.0 p s.1, s.2), ap (λ l. l ++ (s.0 ++ stop ∷ [])) (append-nil w) ∙ sym (append_assoc w s.0 (stop ∷ [])))
          | inr q ↦ let h = q.1 in absurd (cc)
        ]
    token_more w (c ∷ bytes) p e =
        elim (chosen (ok c) _ _ _ e) [
          | inl q ↦
              let m = token_more (w ++ c ∷ []) bytes (passes_append w (c ∷ []) p (q.0, tt)) q.1 in
              (m.0, m.1, m.2, ap (λ l. l ++ m.1) (sym (append_assoc w (c ∷ []) bytes)) ∙ m.3)
          | inr q ↦
              elim (chosen ((c == stop) && good w) _ _ _ q.1) [
                | inl r ↦ let h = r.1 in absurd (cc)
                | inr r ↦ let h = r.1 in absurd (cc)
              ]
        ]

    -- what can't grow stays so
    no_growth : (w : List ℕ) → Passes w → grow w ≡ false → (more : List ℕ) → token_from ok good grow stop w more ≡ Err Dead
    no_growth w p none [] = rw none refl
    no_growth w p none (c ∷ more) =
        elim (either_bool (ok c)) [
          | inl q ↦
              let later : grow (w ++ c ∷ []) ≡ false =
              elim (either_bool (grow (w ++ c ∷ []))) [
                | inl g ↦
                    let s = sound (w ++ c ∷ []) (passes_append w (c ∷ []) p (q, tt)) g in
                    let here = whole w (c ∷ s.0) (q, s.1) (subst (λ l. good l ≡ true) (append_assoc w (c ∷ []) s.0) s.2) in
                    absurd (true≢false (sym here ∙ none))
                | inr g ↦ g
              ] in
              rw q (no_growth (w ++ c ∷ []) (passes_append w (c ∷ []) p (q, tt)) later more)
          | inr q ↦
              let bad : ((c == stop) && good w) ≡ false =
              elim (either_bool ((c == stop) && good w)) [
                | inl g ↦
                    let t = both_true (c == stop) (good w) g in
                    let here = whole w [] tt (subst (λ l. good l ≡ true) (sym (append-nil w)) t.1) in
                    absurd (true≢false (sym here ∙ none))
                | inr g ↦ g
              ] in
              (λ i. cond (q i) (token_from ok good grow stop (w ++ c ∷ []) more) (cond (bad i) (Ok (w, more)) (Err Dead)))
        ]

    token_dead : (w bytes more : List ℕ) → Passes w → token_from ok good grow stop w bytes ≡ Err Dead → token_from ok good grow stop w (bytes ++ more) ≡ Err Dead
    token_dead w [] more p e =
        elim (chosen (grow w) _ _ _ e) [
          | inl q ↦ let h = q.1 in absurd (cc)
          | inr q ↦ no_growth w p q.0 more
        ]
    token_dead w (c ∷ bytes) more p e =
        elim (chosen (ok c) _ _ _ e) [
          | inl q ↦ rw q.0 (token_dead (w ++ c ∷ []) bytes more (passes_append w (c ∷ []) p (q.0, tt)) q.1)
          | inr q ↦
              elim (chosen ((c == stop) && good w) _ _ _ q.1) [
                | inl r ↦ let h = r.1 in absurd (cc)
                | inr r ↦ (λ i. cond (q.0 i) (token_from ok good grow stop (w ++ c ∷ []) (bytes ++ more)) (cond (r.0 i) (Ok (w, bytes ++ more)) (Err Dead)))
              ]
        ]

    pub token_code : IsCode (λ w. Passes w × (good w ≡ true)) (λ w. w ++ stop ∷ []) (token_from ok good grow stop [])
    token_code = record {
      found = λ bytes rest x e. token_found [] bytes rest x tt e;
      again = token_again;
      more = λ bytes e. token_more [] bytes tt e;
      dead = λ bytes more e. token_dead [] bytes more tt e;
    }
