-- Paths above the last one, read exactly.
use Rattle.std.proofs.Common.{◌≡◌, ◌⊎◌, inl, inr, ℕ, ◌<◌, Bool, true, false, List, [], ◌∷◌, ◌++◌, length, get_or, arith, refl, sym, ap, subst, ◌∙◌, ⊎_elim, append_assoc, append-nil, length-append, Option, Some, None, lt-ltb}
use Rattle.std.specs.Prelude.{◌==◌, ◌&&◌, ◌||◌, nat_lt, if◌then◌else◌}
use Rattle.std.specs.List.{AllByRecursion}
use Rattle.std.specs.Option.{unwrap_or}
use Rattle.std.specs.Str.{IsUtf8, is_utf8}
use Rattle.std.proofs.lemmas.Str.{IsUtf8-append, IsUtf8-from_is_utf8, is_utf8-from_IsUtf8, IsUtf8-take, IsCharBoundary-before_ascii}
use Rattle.std.proofs.lemmas.Bool.Decides.{nat_tests, eqb_tells}
use Rattle.std.proofs.lemmas.List.{take_at}
use lib.Utf8
use Rattle.exact_text.specs.Codes.{IsCode}
use Rattle.exact_text.proofs.CodeLaws.{as_code}
use Rattle.text_output.specs.Paths.{escaped, newline}
use Rattle.word_index.specs.Index.{IsBelow}
use Rattle.index_text.specs.Texts.{IsAbove}
use Rattle.index_text.specs.Lines.{unescaped, put, path_of, prefix_of, plain, is_no_newline, is_above, is_path, is_path_prefix, may_be_path, begins_last, path_at}
use Rattle.index_text.specs.Next.{IsLastPath, IsNext}
use Rattle.index_text.proofs.Orders.{below_cons, below_first, below_prefix, below_cancel, below_longer, below_more, below_or_prefix, prefix_rest}
use Rattle.index_text.proofs.Tokens.{token_code, both_true}
use Rattle.index_text.proofs.WordCode.{above_is, is_above-from, either_true, or_left, or_right}
use Rattle.index_text.proofs.Escaping.{before, GoesOn, Fails, goes, unescapes, escaped_back, escaped_passes}
use Rattle.index_text.proofs.Utf8.{IsTried, none, letter, one, two, three, after_e0, after_f0, prefix_completes}

pub next_facts : (last : Option (List ℕ)) (p : List ℕ) → is_path last (Some p) ≡ true → IsNext last p
next_facts last p h =
    let a = both_true (nat_lt 0 (length p) && is_utf8 p) (is_above last p) h in
    let b = both_true (nat_lt 0 (length p)) (is_utf8 p) a.0 in
    let q = b.0 in
    (record { some = grind (arith, nat_tests); text = IsUtf8-from_is_utf8 p b.1 }, above_is last p a.1)

pub next_from : (last : Option (List ℕ)) (p : List ℕ) → IsNext last p → is_path last (Some p) ≡ true
next_from last p h = rw (lt-ltb 0 (length p) h.0.some, is_utf8-from_IsUtf8 p h.0.text, is_above-from last p h.1) refl

abbrev Grows : Option (List ℕ) → List ℕ → Type 0
Grows last q = (x : List ℕ) × (is_path last (Some (q ++ x)) ≡ true)

tried : (last : Option (List ℕ)) (q x : List ℕ) → is_path last (Some (q ++ x)) ≡ true → Grows last q
tried last q x h = (x, h)

letter_text : IsUtf8 (97 ∷ [])
unfolding lib.Utf8.encode
letter_text = (97 ∷ [], (refl, refl))

last_grows : (last : Option (List ℕ)) → IsLastPath last → (q : List ℕ) → begins_last last q ≡ true → Grows last q
last_grows None ok q h = absurd (cc)
last_grows (Some l) ok q h =
    let f = prefix_rest q l h in
    let more = f.0 ++ 97 ∷ [] in
    let same : l ++ 97 ∷ [] ≡ q ++ more = ap (λ x. x ++ 97 ∷ []) f.1 ∙ append_assoc q f.0 (97 ∷ []) in
    let next : IsNext (Some l) (l ++ 97 ∷ []) = (record { some = omega (arith, length-append l (97 ∷ []), ok.some); text = IsUtf8-append l (97 ∷ []) ok.text letter_text }, below_longer l 97 []) in
    (more, next_from (Some l) (q ++ more) (subst (IsNext (Some l)) same next))

abbrev try : Option (List ℕ) → List ℕ → List ℕ → Bool
try last q e = is_path last (Some (q ++ e))

abbrev t1 : Option (List ℕ) → List ℕ → Bool
t1 last q = begins_last last q || is_path last (Some q)

abbrev t2 : Option (List ℕ) → List ℕ → Bool
t2 last q = t1 last q || try last q (97 ∷ [])

abbrev t3 : Option (List ℕ) → List ℕ → Bool
t3 last q = t2 last q || try last q (128 ∷ [])

abbrev t4 : Option (List ℕ) → List ℕ → Bool
t4 last q = t3 last q || try last q (128 ∷ 128 ∷ [])

abbrev t5 : Option (List ℕ) → List ℕ → Bool
t5 last q = t4 last q || try last q (128 ∷ 128 ∷ 128 ∷ [])

abbrev t6 : Option (List ℕ) → List ℕ → Bool
t6 last q = t5 last q || try last q (160 ∷ 128 ∷ [])

-- what is tried grows to a path
pub prefix_sound : (last : Option (List ℕ)) → IsLastPath last → (q : List ℕ) → may_be_path last q ≡ true → Grows last q
prefix_sound last ok q h =
    elim (either_true (t6 last q) (try last q (144 ∷ 128 ∷ 128 ∷ [])) h) [
      | inr k ↦ tried last q (144 ∷ 128 ∷ 128 ∷ []) k
      | inl h ↦ elim (either_true (t5 last q) (try last q (160 ∷ 128 ∷ [])) h) [
        | inr k ↦ tried last q (160 ∷ 128 ∷ []) k
        | inl h ↦ elim (either_true (t4 last q) (try last q (128 ∷ 128 ∷ 128 ∷ [])) h) [
          | inr k ↦ tried last q (128 ∷ 128 ∷ 128 ∷ []) k
          | inl h ↦ elim (either_true (t3 last q) (try last q (128 ∷ 128 ∷ [])) h) [
            | inr k ↦ tried last q (128 ∷ 128 ∷ []) k
            | inl h ↦ elim (either_true (t2 last q) (try last q (128 ∷ [])) h) [
              | inr k ↦ tried last q (128 ∷ []) k
              | inl h ↦ elim (either_true (t1 last q) (try last q (97 ∷ [])) h) [
                | inr k ↦ tried last q (97 ∷ []) k
                | inl h ↦ elim (either_true (begins_last last q) (is_path last (Some q)) h) [
                  | inr k ↦ tried last q [] (subst (λ l. is_path last (Some l) ≡ true) (sym (append-nil q)) k)
                  | inl h ↦ last_grows last ok q h
                ]
              ]
            ]
          ]
        ]
      ]
    ]

-- one of the tries succeeds
up2 : (last : Option (List ℕ)) (q : List ℕ) → t2 last q ≡ true → may_be_path last q ≡ true
up2 last q h = or_left (t6 last q) (try last q (144 ∷ 128 ∷ 128 ∷ [])) (or_left (t5 last q) (try last q (160 ∷ 128 ∷ [])) (or_left (t4 last q) (try last q (128 ∷ 128 ∷ 128 ∷ [])) (or_left (t3 last q) (try last q (128 ∷ 128 ∷ [])) (or_left (t2 last q) (try last q (128 ∷ [])) h))))

one_tried : (last : Option (List ℕ)) (q e : List ℕ) → IsTried e → is_path last (Some (q ++ e)) ≡ true → may_be_path last q ≡ true
one_tried last q e none h = up2 last q (or_left (t1 last q) (try last q (97 ∷ [])) (or_right (begins_last last q) (is_path last (Some q)) (subst (λ l. is_path last (Some l) ≡ true) (append-nil q) h)))
one_tried last q e letter h = up2 last q (or_right (t1 last q) (try last q (97 ∷ [])) h)
one_tried last q e one h = or_left (t6 last q) (try last q (144 ∷ 128 ∷ 128 ∷ [])) (or_left (t5 last q) (try last q (160 ∷ 128 ∷ [])) (or_left (t4 last q) (try last q (128 ∷ 128 ∷ 128 ∷ [])) (or_left (t3 last q) (try last q (128 ∷ 128 ∷ [])) (or_right (t2 last q) (try last q (128 ∷ [])) h))))
one_tried last q e two h = or_left (t6 last q) (try last q (144 ∷ 128 ∷ 128 ∷ [])) (or_left (t5 last q) (try last q (160 ∷ 128 ∷ [])) (or_left (t4 last q) (try last q (128 ∷ 128 ∷ 128 ∷ [])) (or_right (t3 last q) (try last q (128 ∷ 128 ∷ [])) h)))
one_tried last q e three h = or_left (t6 last q) (try last q (144 ∷ 128 ∷ 128 ∷ [])) (or_left (t5 last q) (try last q (160 ∷ 128 ∷ [])) (or_right (t4 last q) (try last q (128 ∷ 128 ∷ 128 ∷ [])) h))
one_tried last q e after_e0 h = or_left (t6 last q) (try last q (144 ∷ 128 ∷ 128 ∷ [])) (or_right (t5 last q) (try last q (160 ∷ 128 ∷ [])) h)
one_tried last q e after_f0 h = or_right (t6 last q) (try last q (144 ∷ 128 ∷ 128 ∷ [])) h

begun : (last : Option (List ℕ)) (q : List ℕ) → begins_last last q ≡ true → may_be_path last q ≡ true
begun last q h = up2 last q (or_left (t1 last q) (try last q (97 ∷ [])) (or_left (begins_last last q) (is_path last (Some q)) h))

pub above_grown : (last : Option (List ℕ)) (q e : List ℕ) → IsAbove last q → IsAbove last (q ++ e)
above_grown None q e h = tt
above_grown (Some l) q e h = below_more l q e h

complete_above : (last : Option (List ℕ)) (q m : List ℕ) → IsUtf8 (q ++ m) → IsAbove last q → 0 < length q → may_be_path last q ≡ true
complete_above last q m text above some =
    let c = prefix_completes q m text in
    one_tried last q c.0 c.1 (next_from last (q ++ c.0) (record { some = omega (arith, some, length-append q c.0); text = c.2 }, above_grown last q c.0 above))

below_long : (l w : List ℕ) → IsBelow l w → 0 < length w
below_long [] [] h = absurd (cc)
below_long (x ∷ l) [] h = absurd (cc)
below_long l (x ∷ w) h = omega arith

-- the prefixes of paths are found by the tries
pub prefix_whole : (last : Option (List ℕ)) (q m : List ℕ) → IsNext last (q ++ m) → may_be_path last q ≡ true
prefix_whole None [] m h = one_tried None [] (97 ∷ []) letter (next_from None (97 ∷ []) (record { some = omega arith; text = letter_text }, tt))
prefix_whole None (x ∷ q) m h = complete_above None (x ∷ q) m h.0.text tt (omega arith)
prefix_whole (Some l) q m h =
    elim (below_or_prefix l q m h.1) [
      | inl b ↦ complete_above (Some l) q m h.0.text b (below_long l q b)
      | inr f ↦ begun (Some l) q f
    ]

back_one : IsUtf8 (92 ∷ [])
unfolding lib.Utf8.encode
back_one = (92 ∷ [], (refl, refl))

get_or_at_seam : (q : List ℕ) (c : ℕ) (m : List ℕ) → get_or (q ++ c ∷ m) (length q) 0 ≡ c
get_or_at_seam [] c m = refl
get_or_at_seam (x ∷ q) c m = get_or_at_seam q c m

-- a backslash may follow where a newline may
back_text : (q m : List ℕ) → IsUtf8 (q ++ 10 ∷ m) → IsUtf8 (q ++ 92 ∷ [])
back_text q m u =
    let all = q ++ 10 ∷ m in
    let inside : length q < length all = omega (arith, length-append q (10 ∷ m)) in
    let byte : get_or all (length q) 0 ≡ 10 = get_or_at_seam q 10 m in
    let at = IsCharBoundary-before_ascii all (length q) inside (omega (arith, byte)) in
    IsUtf8-append q (92 ∷ []) (subst IsUtf8 (take_at q (10 ∷ m) (length q) refl) (IsUtf8-take all (length q) u at)) back_one

back_above : (last : Option (List ℕ)) (q m : List ℕ) → IsAbove last (q ++ 10 ∷ m) → IsAbove last (q ++ 92 ∷ [])
back_above None q m h = tt
back_above (Some l) q m h =
    elim (below_or_prefix l q (10 ∷ m) h) [
      | inl b ↦ below_more l q (92 ∷ []) b
      | inr f ↦
          let r = prefix_rest q l f in
          let less = below_cancel q r.0 (10 ∷ m) (subst (λ x. IsBelow x (q ++ 10 ∷ m)) r.1 h) in
          subst (λ x. IsBelow x (q ++ 92 ∷ [])) (sym r.1) (below_prefix q r.0 (92 ∷ []) (lower r.0 m less))
    ]
  where
    lower : (r m : List ℕ) → IsBelow r (10 ∷ m) → IsBelow r (92 ∷ [])
    lower [] m h = refl
    lower (d ∷ r) m h = ⊎_elim
        (λ (lt : d < 10). below_first d 92 r [] (omega (arith, lt)))
        (λ (p : (d ≡ 10) × IsBelow r m). below_first d 92 r [] (omega (arith, p.0)))
        (below_cons d 10 r m h)

pub back_whole : (last : Option (List ℕ)) (q m : List ℕ) → IsNext last (q ++ 10 ∷ m) → may_be_path last (q ++ 92 ∷ []) ≡ true
back_whole last q m h =
    let next : IsNext last (q ++ 92 ∷ []) = (record { some = omega (arith, length-append q (92 ∷ [])); text = back_text q m h.0.text }, back_above last q m h.1) in
    prefix_whole last (q ++ 92 ∷ []) [] (subst (IsNext last) (sym (append-nil (q ++ 92 ∷ []))) next)

abbrev Flat : List ℕ → Type 0
Flat w = AllByRecursion (λ b. is_no_newline b ≡ true) w

abbrev Good : Option (List ℕ) → List ℕ → Bool
Good last w = is_path last (path_of w)

abbrev Grow : Option (List ℕ) → List ℕ → Bool
Grow last w = is_path_prefix last (prefix_of w)

path_sound : (last : Option (List ℕ)) → IsLastPath last → (w : List ℕ) → Flat w → Grow last w ≡ true → (more : List ℕ) × Flat more × (Good last (w ++ more) ≡ true)
path_sound last ok w flat h = by (goes false w)
  where
    by : GoesOn false w ⊎ Fails false w → (more : List ℕ) × Flat more × (Good last (w ++ more) ≡ true)
    by (inr f) =
        let gone : prefix_of w ≡ None = ap (unescaped (Some (92 ∷ [])) false) (sym (append-nil w)) ∙ f (Some (92 ∷ [])) [] in
        let no = ap (is_path_prefix last) (sym gone) ∙ h in
        absurd (cc)
    by (inl g) = ended g.open_end refl
      where
        ended : (b : Bool) → g.open_end ≡ b → (more : List ℕ) × Flat more × (Good last (w ++ more) ≡ true)
        ended false e =
            let prefix : prefix_of w ≡ Some (g.text ++ []) = ap (unescaped (Some (92 ∷ [])) false) (sym (append-nil w)) ∙ g.is (Some (92 ∷ [])) [] ∙ ap (λ b. before g.text (unescaped (Some (92 ∷ [])) b [])) e in
            let may : may_be_path last g.text ≡ true = subst (λ l. may_be_path last l ≡ true) (append-nil g.text) (ap (is_path_prefix last) (sym prefix) ∙ h) in
            let x = prefix_sound last ok g.text may in
            let whole : path_of (w ++ escaped x.0) ≡ Some (g.text ++ x.0) = g.is None (escaped x.0) ∙ ap (λ b. before g.text (unescaped None b (escaped x.0))) e ∙ ap (before g.text) (unescapes x.0 None) in
            (escaped x.0, escaped_passes x.0, ap (is_path last) whole ∙ x.1)
        ended true e =
            let prefix : prefix_of w ≡ Some (g.text ++ 92 ∷ []) = ap (unescaped (Some (92 ∷ [])) false) (sym (append-nil w)) ∙ g.is (Some (92 ∷ [])) [] ∙ ap (λ b. before g.text (unescaped (Some (92 ∷ [])) b [])) e in
            let x = prefix_sound last ok (g.text ++ 92 ∷ []) (ap (is_path_prefix last) (sym prefix) ∙ h) in
            let whole : path_of (w ++ 92 ∷ escaped x.0) ≡ Some (g.text ++ 92 ∷ x.0) = g.is None (92 ∷ escaped x.0) ∙ ap (λ b. before g.text (unescaped None b (92 ∷ escaped x.0))) e ∙ ap (λ o. before g.text (put 92 o)) (unescapes x.0 None) in
            (92 ∷ escaped x.0, (refl, escaped_passes x.0), ap (is_path last) (whole ∙ ap Some (sym (append_assoc g.text (92 ∷ []) x.0))) ∙ x.1)

path_whole : (last : Option (List ℕ)) → (w more : List ℕ) → Flat more → Good last (w ++ more) ≡ true → Grow last w ≡ true
path_whole last w more flat h = by (goes false w)
  where
    by : GoesOn false w ⊎ Fails false w → Grow last w ≡ true
    by (inr f) = let bad = ap (is_path last) (sym (f None more)) ∙ h in absurd (cc)
    by (inl g) = ended g.open_end refl
      where
        prefix_is_text : (b : Bool) → g.open_end ≡ b → prefix_of w ≡ before g.text (unescaped (Some (92 ∷ [])) b [])
        prefix_is_text b e = ap (unescaped (Some (92 ∷ [])) false) (sym (append-nil w)) ∙ g.is (Some (92 ∷ [])) [] ∙ ap (λ b. before g.text (unescaped (Some (92 ∷ [])) b [])) e

        closed : (o : Option (List ℕ)) → is_path last (before g.text o) ≡ true → may_be_path last g.text ≡ true
        closed None k = absurd (cc)
        closed (Some m) k = prefix_whole last g.text m (next_facts last (g.text ++ m) k)

        backed : (o : Option (List ℕ)) → is_path last (before g.text (put 92 o)) ≡ true → may_be_path last (g.text ++ 92 ∷ []) ≡ true
        backed None k = absurd (cc)
        backed (Some m) k = prefix_whole last (g.text ++ 92 ∷ []) m (next_facts last ((g.text ++ 92 ∷ []) ++ m) (subst (λ l. is_path last (Some l) ≡ true) (sym (append_assoc g.text (92 ∷ []) m)) k))

        newlined : (o : Option (List ℕ)) → is_path last (before g.text (put 10 o)) ≡ true → may_be_path last (g.text ++ 92 ∷ []) ≡ true
        newlined None k = absurd (cc)
        newlined (Some m) k = back_whole last g.text m (next_facts last (g.text ++ 10 ∷ m) k)

        after : (m : List ℕ) → is_path last (before g.text (unescaped None true m)) ≡ true → may_be_path last (g.text ++ 92 ∷ []) ≡ true
        after [] k = absurd (cc)
        after (b ∷ m) k =
            elim (eqb_tells b 92) [
              | inl p ↦ backed (path_of m) (subst (λ t. is_path last (before g.text (if t then put 92 (path_of m) else (if b == 110 then put 10 (path_of m) else None))) ≡ true) p.0 k)
              | inr p ↦
                  let k' = subst (λ t. is_path last (before g.text (if t then put 92 (path_of m) else (if b == 110 then put 10 (path_of m) else None))) ≡ true) p.0 k in
                  elim (eqb_tells b 110) [
                    | inl q ↦ newlined (path_of m) (subst (λ t. is_path last (before g.text (if t then put 10 (path_of m) else None)) ≡ true) q.0 k')
                    | inr q ↦ let bad = subst (λ t. is_path last (before g.text (if t then put 10 (path_of m) else None)) ≡ true) q.0 k' in absurd (cc)
                  ]
            ]

        ended : (b : Bool) → g.open_end ≡ b → Grow last w ≡ true
        ended false e =
            let all = ap (is_path last) (sym (g.is None more ∙ ap (λ b. before g.text (unescaped None b more)) e)) ∙ h in
            ap (is_path_prefix last) (prefix_is_text false e ∙ ap Some (append-nil g.text)) ∙ closed (path_of more) all
        ended true e =
            let all = ap (is_path last) (sym (g.is None more ∙ ap (λ b. before g.text (unescaped None b more)) e)) ∙ h in
            ap (is_path_prefix last) (prefix_is_text true e) ∙ after more all

some_path : (last : Option (List ℕ)) (o : Option (List ℕ)) → is_path last o ≡ true → (p : List ℕ) × (o ≡ Some p)
some_path last None h = absurd (cc)
some_path last (Some p) h = (p, refl)

abbrev pub path_text : List ℕ → List ℕ
path_text p = escaped p ++ newline

-- a path above the last one and the end of its line
pub path_code : (last : Option (List ℕ)) → IsLastPath last → IsCode (IsNext last) path_text (path_at last)
path_code last ok =
    as_code (token_code is_no_newline (λ bytes. Good last bytes) (λ bytes. Grow last bytes) 10 refl (path_sound last ok) (path_whole last)) plain (IsNext last) path_text
    (λ w h.
    let p = some_path last (path_of w) h.1 in
    let is : plain w ≡ p.0 = ap (λ o. unwrap_or o []) p.1 in
    (subst (IsNext last) (sym is) (next_facts last p.0 (ap (is_path last) (sym p.1) ∙ h.1)), ap path_text is ∙ ap (λ l. l ++ newline) (escaped_back false w p.0 p.1 h.0)))
    (λ p h.
    let back = unescapes p None in
    (escaped p, (escaped_passes p, ap (is_path last) back ∙ next_from last p h), sym (ap (λ o. unwrap_or o []) back)))

pub some_next : (last : Option (List ℕ)) → IsLastPath last → (p : List ℕ) × IsNext last p
some_next None ok = (97 ∷ [], (record { some = omega arith; text = letter_text }, tt))
some_next (Some l) ok = (l ++ 97 ∷ [], (record { some = omega (arith, length-append l (97 ∷ []), ok.some); text = IsUtf8-append l (97 ∷ []) ok.text letter_text }, below_longer l 97 []))
