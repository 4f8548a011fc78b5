-- Two indexes of the same files are one.
use Rattle.std.proofs.Common.{◌≡◌, ℕ, zero, suc, ◌+◌, ◌<◌, ◌≤◌, List, [], ◌∷◌, ◌++◌, length, get_or, map, arith, refl, sym, ap, subst, ◌∙◌, ◌⊎◌, inl, inr, ⊎_elim, All}
use Rattle.std.specs.List.{Contains, AllPairs, flat_map}
use Rattle.std.proofs.lemmas.Bool.{cases_lt}
use Rattle.std.proofs.lemmas.List.{length-map, get_or-map, get_or_default}
use Rattle.std.proofs.lemmas.List.Elements.{Contains-append_cases, Contains-append_left, Contains-append_right}
use Rattle.word_index.specs.Index.{File, Hit, Row, Index, Entry, IsBelow, IsRising, IsOrdered, IsIndexOf, entry_of, row_entries, entries}
use Rattle.word_index.proofs.Below.{below_trans}
use Rattle.word_index.proofs.Images.{to_map, from_map}
use Rattle.word_index.proofs.Searches.{not_below}

-- a list in a strict order
module _ {X : Type 0} (R : X → X → Type 0) where
  cons_cases : (x : X) (xs : List X) (z : X) → Contains (x ∷ xs) z → (x ≡ z) ⊎ Contains xs z
  cons_cases x xs z (zero, within, is) = inl is
  cons_cases x xs z (suc k, within, is) = inr (k, omega (arith, within), is)

  head_first : (x : X) (xs : List X) → AllPairs R (x ∷ xs) → (z : X) → Contains xs z → R x z
  head_first x xs apart z h = subst (R x) h.2 (apart 0 (suc h.0) z (omega arith) (omega (arith, h.1)))

  tail_apart : (x : X) (xs : List X) → AllPairs R (x ∷ xs) → AllPairs R xs
  tail_apart x xs apart i j d before within = apart (suc i) (suc j) d (omega (arith, before)) (omega (arith, within))

  -- two elements of which none is before the other are one
  one_element : (xs : List X) → AllPairs R xs → (x y : X) → Contains xs x → Contains xs y → (R x y → ⊥) → (R y x → ⊥) → x ≡ y
  one_element xs apart x y h k below above = ⊎_elim
      (λ (lt : h.0 < k.0). absurd (below (pair x y h k lt)))
      (λ (ge : k.0 ≤ h.0). ⊎_elim
      (λ (lt : k.0 < h.0). absurd (above (pair y x k h lt)))
      (λ (le : h.0 ≤ k.0). let same : h.0 ≡ k.0 = omega arith in sym h.2 ∙ ap (λ i. get_or xs i x) same ∙ get_or_default xs k.0 x y k.1 ∙ k.2)
      (cases_lt k.0 h.0))
      (cases_lt h.0 k.0)
    where
      pair : (u v : X) (a : Contains xs u) (b : Contains xs v) → a.0 < b.0 → R u v
      pair u v a b lt = subst (λ z. R z v) a.2 (subst (R (get_or xs a.0 u)) (get_or_default xs b.0 u v b.1 ∙ b.2) (apart a.0 b.0 u lt b.1))

  module _ (trans : (x y z : X) → R x y → R y z → R x z) (strict : (x : X) → R x x → ⊥) where
    -- lists in order that have the same elements are one
    same_list : (xs ys : List X) → AllPairs R xs → AllPairs R ys → ((x : X) → Contains xs x → Contains ys x) → ((x : X) → Contains ys x → Contains xs x) → xs ≡ ys
    same_list [] [] a b f g = refl
    same_list [] (y ∷ ys) a b f g = let h = g y (0, omega arith, refl) in absurd (omega (arith, h.1))
    same_list (x ∷ xs) [] a b f g = let h = f x (0, omega arith, refl) in absurd (omega (arith, h.1))
    same_list (x ∷ xs) (y ∷ ys) a b f g =
        λ i. heads i ∷ same_list xs ys (tail_apart x xs a) (tail_apart y ys b) first second i
      where
        heads : x ≡ y
        heads = ⊎_elim (λ (e : y ≡ x). sym e) (λ (h : Contains ys x). ⊎_elim (λ (e : x ≡ y). e)
            (λ (k : Contains xs y). absurd (strict x (trans x y x (head_first x xs a y k) (head_first y ys b x h))))
            (cons_cases x xs y (g y (0, omega arith, refl)))) (cons_cases y ys x (f x (0, omega arith, refl)))

        later : (z : X) (zs : List X) (u : X) → Contains zs u → Contains (z ∷ zs) u
        later z zs u h = (suc h.0, omega (arith, h.1), h.2)

        first : (z : X) → Contains xs z → Contains ys z
        first z h = ⊎_elim (λ (e : y ≡ z). absurd (strict x (subst (R x) (sym e ∙ sym heads) (head_first x xs a z h)))) (λ k. k) (cons_cases y ys z (f z (later x xs z h)))

        second : (z : X) → Contains ys z → Contains xs z
        second z h = ⊎_elim (λ (e : x ≡ z). absurd (strict y (subst (R y) (sym e ∙ heads) (head_first y ys b z h)))) (λ k. k) (cons_cases x xs z (g z (later y ys z h)))

below_strict : (x : List ℕ) → IsBelow x x → ⊥
below_strict x = not_below x x refl

-- elements whose keys rise
key_apart : {X : Type 0} (key : X → List ℕ) (xs : List X) → IsRising (map key xs) → AllPairs (λ x y. IsBelow (key x) (key y)) xs
key_apart key xs rise i j d before within =
    let here : i < length xs = omega (arith, before, within) in
    rw (get_or-map key xs i d (key d) here, get_or-map key xs j d (key d) within) at (rise i j (key d) before (omega (arith, within, length-map xs key)))

same_texts : (xs ys : List (List ℕ)) → IsRising xs → IsRising ys → ((x : List ℕ) → Contains xs x → Contains ys x) → ((x : List ℕ) → Contains ys x → Contains xs x) → xs ≡ ys
same_texts = same_list IsBelow below_trans below_strict

abbrev IsHitBelow : Hit → Hit → Type 0
IsHitBelow g h = IsBelow g.path h.path

abbrev IsRowBelow : Row → Row → Type 0
IsRowBelow r s = IsBelow r.word s.word

-- an entry stands in a row
pub record IsIn (rows : List Row) (e : Entry) : Type 0 where
  pub row : Row
  pub hit : Hit
  pub among : Contains rows row
  pub has : Contains row.hits hit
  pub is : entry_of row.word hit ≡ e

pub in_rows : (rows : List Row) (e : Entry) → Contains (flat_map row_entries rows) e → IsIn rows e
in_rows [] e h = absurd (omega (arith, h.1))
in_rows (r ∷ rows) e h = ⊎_elim
    (λ k. let o = from_map (entry_of r.word) r.hits e k in record { row = r; hit = o.0; among = (0, omega arith, refl); has = o.1; is = o.2 })
    (λ k. let o = in_rows rows e k in record { row = o.row; hit = o.hit; among = (suc o.among.0, omega (arith, o.among.1), o.among.2); has = o.has; is = o.is })
    (Contains-append_cases (row_entries r) (flat_map row_entries rows) e h)

pub from_rows : (rows : List Row) (r : Row) (h : Hit) → Contains rows r → Contains r.hits h → Contains (flat_map row_entries rows) (entry_of r.word h)
from_rows [] r h k has = absurd (omega (arith, k.1))
from_rows (q ∷ rows) r h k has = ⊎_elim
    (λ (e : q ≡ r). Contains-append_left (row_entries q) (flat_map row_entries rows) (entry_of r.word h) (subst (λ (s : Row). Contains (row_entries s) (entry_of r.word h)) (sym e) (to_map (entry_of r.word) r.hits h has)))
    (λ m. Contains-append_right (row_entries q) (flat_map row_entries rows) (entry_of r.word h) (from_rows rows r h m has))
    (cons_cases IsRowBelow q rows r k)

abbrev hit_in : Entry → Hit
hit_in e = record { path = e.path; count = e.count; line = e.line }

module _ (a b : Index) (in_order : IsOrdered a) (ordered : IsOrdered b)
    (there : (e : Entry) → Contains (entries a) e → Contains (entries b) e) (back : (e : Entry) → Contains (entries b) e → Contains (entries a) e) where
  -- rows of the same word
  one_row : (rows : List Row) → IsRising (map (λ r. r.word) rows) → (r s : Row) → Contains rows r → Contains rows s → r.word ≡ s.word → r ≡ s
  one_row rows rise r s h k same = one_element IsRowBelow rows (key_apart (λ (r : Row). r.word) rows rise) r s h k
      (λ less. not_below r.word s.word same less) (λ less. not_below s.word r.word (sym same) less)

  -- the files of a row are those of the row of its word
  hits_over : (r s : Row) → Contains a.rows r → Contains b.rows s → r.word ≡ s.word → (h : Hit) → Contains r.hits h → Contains s.hits h
  hits_over r s among has same h k =
      let i = in_rows b.rows (entry_of r.word h) (there (entry_of r.word h) (from_rows a.rows r h among k)) in
      let row = one_row b.rows ordered.words i.row s i.among has (ap (λ (e : Entry). e.word) i.is ∙ same) in
      subst (λ (g : Hit). Contains s.hits g) (ap hit_in i.is) (subst (λ (q : Row). Contains q.hits i.hit) row i.has)

  -- the row of the first entry's word
  row_of_word : (r : Row) → Contains a.rows r → (s : Row) × Contains b.rows s × (r.word ≡ s.word)
  row_of_word r among =
      let some = (in_order.hits among.0 r among.1).0 in
      let full : 0 < length r.hits = subst (λ (q : Row). 0 < length q.hits) among.2 some in
      let none : Hit = record { path = []; count = 0; line = 0 } in
      let h = get_or r.hits 0 none in
      let has : Contains r.hits h = (0, full, get_or_default r.hits 0 h none full) in
      let i = in_rows b.rows (entry_of r.word h) (there (entry_of r.word h) (from_rows a.rows r h among has)) in
      (i.row, i.among, sym (ap (λ (e : Entry). e.word) i.is))

  hits_apart : (x : Index) → IsOrdered x → (r : Row) → Contains x.rows r → AllPairs IsHitBelow r.hits
  hits_apart x o r among = key_apart (λ (h : Hit). h.path) r.hits (subst (λ (q : Row). IsRising (map (λ h. h.path) q.hits)) among.2 (o.hits among.0 r among.1).1)

  row_over : ((r s : Row) → Contains b.rows s → Contains a.rows r → s.word ≡ r.word → (h : Hit) → Contains s.hits h → Contains r.hits h) → (r : Row) → Contains a.rows r → Contains b.rows r
  row_over under r among =
      let o = row_of_word r among in
      let hits = same_list IsHitBelow (λ x y z. below_trans x.path y.path z.path) (λ x. below_strict x.path) r.hits o.0.hits (hits_apart a in_order r among) (hits_apart b ordered o.0 o.1)
      (hits_over r o.0 among o.1 o.2) (under r o.0 o.1 among (sym o.2)) in
      let same : o.0 ≡ r = (λ i. record { word = sym o.2 i; hits = sym hits i }) in
      subst (λ (q : Row). Contains b.rows q) same o.1

pub one_index : (fs : List File) (a b : Index) → IsIndexOf fs a → IsIndexOf fs b → a ≡ b
one_index fs a b x y = λ i. record { paths = paths i; skipped = skipped i; rows = rows i }
  where
    paths : a.paths ≡ b.paths
    paths = same_texts a.paths b.paths x.ordered.paths y.ordered.paths (λ p h. (y.paths p).1 ((x.paths p).0 h)) (λ p h. (x.paths p).1 ((y.paths p).0 h))

    skipped : a.skipped ≡ b.skipped
    skipped = same_texts a.skipped b.skipped x.ordered.skipped y.ordered.skipped (λ p h. (y.skipped p).1 ((x.skipped p).0 h)) (λ p h. (x.skipped p).1 ((y.skipped p).0 h))

    there : (e : Entry) → Contains (entries a) e → Contains (entries b) e
    there e h = (y.entries e).1 ((x.entries e).0 h)

    back : (e : Entry) → Contains (entries b) e → Contains (entries a) e
    back e h = (x.entries e).1 ((y.entries e).0 h)

    rows : a.rows ≡ b.rows
    rows = same_list IsRowBelow (λ r s q. below_trans r.word s.word q.word) (λ r. below_strict r.word) a.rows b.rows
        (key_apart (λ (r : Row). r.word) a.rows x.ordered.words) (key_apart (λ (r : Row). r.word) b.rows y.ordered.words)
        (row_over a b x.ordered y.ordered there back (λ r s. hits_over b a y.ordered x.ordered back there s r))
        (row_over b a y.ordered x.ordered back there (λ r s. hits_over a b x.ordered y.ordered there back s r))
