-- Pieces on a pile.
use Rattle.std.proofs.Common.{◌≡◌, ◌∙◌, ℕ, ◌-◌, List, [], ◌∷◌, ◌++◌, map, sym, ap, subst, refl, arith, inl, inr, Contains, AllPairs, take, length}
use Rattle.std.proofs.lemmas.List.{append_assoc, append-nil, map-append}
use Rattle.std.proofs.lemmas.List.Elements.{Contains-append_cases, Contains-append_left, Contains-append_right}
use Rattle.firefly_outside.specs.Trees.{Path}
use Rattle.word_index.specs.Index.{File, Index, IsIndexOf, IsUnion, Meet}
use Rattle.walker.specs.Pile.{IsPileOf, AreApart}
use Rattle.walker.proofs.ListLemmas.{Contains-head, Contains-nil, Contains-cons_cases, All-at, All-from, AllPairs-head, AllPairs-tail, AllPairs-nil, AllPairs-append}
use Rattle.std.proofs.lemmas.List.Kept.{AllPairs-cons}

-- parts of a list whose elements keep a relation
pub AllPairs-left : {X : Type 0} (R : X → X → Type 0) (xs ys : List X) → AllPairs R (xs ++ ys) → AllPairs R xs
AllPairs-left R [] ys h = AllPairs-nil R
AllPairs-left R (x ∷ xs) ys h =
    AllPairs-cons R x xs (All-from (R x) xs (λ y k. All-at (R x) (xs ++ ys) y (AllPairs-head R x (xs ++ ys) h) (Contains-append_left xs ys y k)))
    (AllPairs-left R xs ys (AllPairs-tail R x (xs ++ ys) h))

pub AllPairs-right : {X : Type 0} (R : X → X → Type 0) (xs ys : List X) → AllPairs R (xs ++ ys) → AllPairs R ys
AllPairs-right R [] ys h = h
AllPairs-right R (x ∷ xs) ys h = AllPairs-right R xs ys (AllPairs-tail R x (xs ++ ys) h)

pub AllPairs-across : {X : Type 0} (R : X → X → Type 0) (xs ys : List X) (x y : X) → AllPairs R (xs ++ ys) → Contains xs x → Contains ys y → R x y
AllPairs-across R [] ys x y h first second = absurd (Contains-nil x first)
AllPairs-across R (z ∷ xs) ys x y h first second = elim (Contains-cons_cases z xs x first) [
  | inl is ↦ subst (λ w. R w y) is (All-at (R z) (xs ++ ys) y (AllPairs-head R z (xs ++ ys) h) (Contains-append_right xs ys y second))
  | inr later ↦ AllPairs-across R xs ys x y (AllPairs-tail R z (xs ++ ys) h) later second
]

pub AllPairs-one : {X : Type 0} (R : X → X → Type 0) (x : X) → AllPairs R (x ∷ [])
AllPairs-one R x i j d below within = absurd (omega arith)

abbrev pub NoMeet : Index → Index → Type 0
NoMeet a b = ¬ Meet a b

-- one more piece that meets none
pub AreApart-push : (pieces : List Index) (top : Index) → AreApart pieces → ((a : Index) → Contains pieces a → ¬ Meet a top) → AreApart (pieces ++ top ∷ [])
AreApart-push pieces top apart none = AllPairs-append NoMeet pieces (top ∷ []) apart (AllPairs-one NoMeet top)
    (λ a b h k. elim (Contains-cons_cases top [] b k) [ inl is ↦ subst (λ c. ¬ Meet a c) is (none a h) | inr m ↦ absurd (Contains-nil b m) ])

-- the two pieces on top
pub apart_top : (pieces : List Index) (a b : Index) → AreApart ((pieces ++ a ∷ []) ++ b ∷ []) → ¬ Meet a b
apart_top pieces a b apart = AllPairs-across NoMeet (pieces ++ a ∷ []) (b ∷ []) a b apart (Contains-append_right pieces (a ∷ []) a (Contains-head a [])) (Contains-head b [])

-- their union in their place
pub apart_merged : (pieces : List Index) (a b c : Index) → AreApart ((pieces ++ a ∷ []) ++ b ∷ []) → IsUnion a b c → AreApart (pieces ++ c ∷ [])
apart_merged pieces a b c apart union = AreApart-push pieces c (AllPairs-left NoMeet pieces (a ∷ []) (AllPairs-left NoMeet (pieces ++ a ∷ []) (b ∷ []) apart))
    (λ x h meet. elim ((union.paths meet.0).0 meet.2) [
      | inl in_a ↦ AllPairs-across NoMeet pieces (a ∷ []) x a (AllPairs-left NoMeet (pieces ++ a ∷ []) (b ∷ []) apart) h (Contains-head a []) (meet.0, meet.1, in_a)
      | inr in_b ↦ AllPairs-across NoMeet (pieces ++ a ∷ []) (b ∷ []) x b apart (Contains-append_left pieces (a ∷ []) x h) (Contains-head b []) (meet.0, meet.1, in_b)
    ])

-- one more piece on the pile
pub pile_push : (pieces : List Index) (top : Index) (fs gs : List File) → IsPileOf pieces fs → IsIndexOf gs top → IsPileOf (pieces ++ top ∷ []) (fs ++ gs)
pile_push [] top fs gs none index = (gs, [], index, refl, ap (λ l. l ++ gs) none ∙ sym (append-nil gs))
pile_push (p ∷ pieces) top fs gs pile index =
    (pile.0, pile.1 ++ gs, pile.2, pile_push pieces top pile.1 gs pile.3 index, ap (λ l. l ++ gs) pile.4 ∙ append_assoc pile.0 pile.1 gs)

-- the union of the two pieces on top in their place
pub pile_merge : (pieces : List Index) (a b c : Index) (fs : List File) → ((xs ys : List File) → IsIndexOf xs a → IsIndexOf ys b → IsIndexOf (xs ++ ys) c)
    → IsPileOf ((pieces ++ a ∷ []) ++ b ∷ []) fs → IsPileOf (pieces ++ c ∷ []) fs
pile_merge [] a b c fs both pile =
    let x = pile.0 in
    let y = pile.3.0 in
    (x ++ y, [], both x y pile.2 pile.3.2, refl, pile.4 ∙ ap (λ l. x ++ l) (pile.3.4 ∙ ap (λ l. y ++ l) pile.3.3 ∙ append-nil y) ∙ sym (append-nil (x ++ y)))
pile_merge (p ∷ pieces) a b c fs both pile = (pile.0, pile.1, pile.2, pile_merge pieces a b c pile.1 both pile.3, pile.4)

-- the piece of a pile of one
pub pile_one : (piece : Index) (fs : List File) → IsPileOf (piece ∷ []) fs → IsIndexOf fs piece
pile_one piece fs pile = subst (λ (l : List File). IsIndexOf l piece) (sym (pile.4 ∙ ap (λ l. pile.0 ++ l) pile.3 ∙ append-nil pile.0)) pile.2

-- the paths that a piece of the pile covers are those of the files
pub pile_paths : (pieces : List Index) (fs : List File) (a : Index) (p : Path) → IsPileOf pieces fs → Contains pieces a → Contains a.paths p → Contains (map (λ f. f.path) fs) p
pile_paths [] fs a p pile h k = absurd (Contains-nil a h)
pile_paths (q ∷ pieces) fs a p pile h k =
    let split : map (λ (f : File). f.path) fs ≡ map (λ (f : File). f.path) pile.0 ++ map (λ (f : File). f.path) pile.1 = ap (map (λ (f : File). f.path)) pile.4 ∙ map-append (λ (f : File). f.path) pile.0 pile.1 in
    subst (λ (ps : List Path). Contains ps p) (sym split) (elim (Contains-cons_cases q pieces a h) [
      | inl is ↦ Contains-append_left (map (λ (f : File). f.path) pile.0) (map (λ (f : File). f.path) pile.1) p ((pile.2.paths p).0 (subst (λ (b : Index). Contains b.paths p) (sym is) k))
      | inr m ↦ Contains-append_right (map (λ (f : File). f.path) pile.0) (map (λ (f : File). f.path) pile.1) p (pile_paths pieces pile.1 a p pile.3 m k)
    ])

-- what meets neither of the two on top doesn't meet their union
pub first_merged : (first : Index) (pieces : List Index) (a b c : Index) → ((x : Index) → Contains ((pieces ++ a ∷ []) ++ b ∷ []) x → ¬ Meet first x) → IsUnion a b c
    → (x : Index) → Contains (pieces ++ c ∷ []) x → ¬ Meet first x
first_merged first pieces a b c none union x h meet = elim (Contains-append_cases pieces (c ∷ []) x h) [
  | inl was ↦ none x (Contains-append_left (pieces ++ a ∷ []) (b ∷ []) x (Contains-append_left pieces (a ∷ []) x was)) meet
  | inr now ↦ elim (Contains-cons_cases c [] x now) [
    | inl is ↦ elim ((union.paths meet.0).0 (subst (λ (y : Index). Contains y.paths meet.0) (sym is) meet.2)) [
      | inl in_a ↦ none a (Contains-append_left (pieces ++ a ∷ []) (b ∷ []) a (Contains-append_right pieces (a ∷ []) a (Contains-head a []))) (meet.0, meet.1, in_a)
      | inr in_b ↦ none b (Contains-append_right (pieces ++ a ∷ []) (b ∷ []) b (Contains-head b [])) (meet.0, meet.1, in_b)
    ]
    | inr m ↦ Contains-nil x m
  ]
]

-- a list that gives no last element is empty
pub nothing_left : (xs ys : List Index) (n : ℕ) → xs ≡ ys ++ [] → n ≡ 0 → ys ≡ take (n - 1) xs → xs ≡ []
nothing_left xs ys n is none rest = is ∙ append-nil ys ∙ rest ∙ ap (λ m. take (m - 1) xs) none

-- files whose index covers no path are none
none_in : {X : Type 0} (xs : List X) (x : X) → length xs ≡ 0 → Contains xs x → ⊥
none_in [] x none h = Contains-nil x h
none_in (y ∷ ys) x none h = absurd (omega arith)

pub no_files : (fs : List File) (index : Index) → length index.paths ≡ 0 → IsIndexOf fs index → fs ≡ []
no_files [] index none is = refl
no_files (f ∷ fs) index none is = absurd (none_in index.paths f.path none ((is.paths f.path).1 (Contains-head f.path (map (λ (g : File). g.path) fs))))
