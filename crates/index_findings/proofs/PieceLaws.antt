-- Pieces that are merged.
use Rattle.std.proofs.Common.{◌≡◌, ◌<◌, List, [], ◌∷◌, ◌++◌, Option, Contains, AllPairs, inl, inr, ◌⊎◌, ap, sym, subst, length, length-append, arith}
use Rattle.std.specs.Prelude.{All}
use Rattle.std.proofs.lemmas.List.Elements.{All-append, All-cons, All-nil, Contains-append_cases, Contains-append_left, Contains-append_right}
use Rattle.firefly_outside.specs.Trees.{Path, Contents}
use Rattle.std.proofs.lemmas.List.Kept.{AllPairs-cons}
use Rattle.walker.proofs.ListLemmas.{All-at, All-from, AllPairs-append, AllPairs-head, AllPairs-nil, AllPairs-tail, Contains-head, Contains-map, Contains-nil, Contains-cons_cases}
use Rattle.walker.specs.Pile.{AreApart}
use Rattle.walker.specs.TreeIndex.{IsFileAt, IsPartOf}
use Rattle.walker.specs.Walk.{Walk}
use Rattle.word_index.specs.Index.{File, Index, IsIndexOf, IsUnion, Meet}
use Rattle.index_findings.specs.Pieces.{IsFilesPiece, IsCovered, AreMergedFrom}
use Rattle.index_findings.proofs.ReportedLaws.{reported_all, reported_both}

-- the index of the files of both
joins_files : (a b c : Index) → ((fs gs : List File) → IsIndexOf fs a → IsIndexOf gs b → IsIndexOf (fs ++ gs) c) → (tree : Option Contents) (root : Path) → IsFilesPiece tree root a → IsFilesPiece tree root b → IsFilesPiece tree root c
joins_files a b c both tree root x y = record {
  files = x.files ++ y.files;
  index = both x.files y.files x.index y.index;
  reported = reported_both tree (λ t. (f : File) → Contains x.files f → IsFileAt t root f) (λ t. (f : File) → Contains y.files f → IsFileAt t root f)
      (λ t. (f : File) → Contains (x.files ++ y.files) f → IsFileAt t root f)
      (λ t p q f h. elim (Contains-append_cases x.files y.files f h) [ inl m ↦ p f m | inr m ↦ q f m ]) x.reported y.reported;
}

pub merged_same : (xs ys : List Index) → xs ≡ ys → AreMergedFrom xs ys
merged_same xs ys e = subst (AreMergedFrom xs) e (record { files = λ tree root all. all; covers = λ path. ((λ h. h), (λ h. h)); apart = λ h. h })

pub merged_on : (xs ys zs : List Index) → AreMergedFrom xs ys → AreMergedFrom ys zs → AreMergedFrom xs zs
merged_on xs ys zs first second = record {
  files = λ tree root all. second.files tree root (first.files tree root all);
  covers = λ path. ((λ h. (first.covers path).0 ((second.covers path).0 h)), (λ h. (second.covers path).1 ((first.covers path).1 h)));
  apart = λ h. second.apart (first.apart h);
}

pub covered_one : (x : Index) → Contains (x ∷ []) x
covered_one x = Contains-head x []

pub is_one : (c x : Index) → Contains (c ∷ []) x → c ≡ x
is_one c x h = elim (Contains-cons_cases c [] x h) [ inl e ↦ e | inr m ↦ absurd (Contains-nil x m) ]

-- the parts of a list of which each two elements stand so
ahead : {X : Type 0} (R : X → X → Type 0) (xs ys : List X) → AllPairs R (xs ++ ys) → AllPairs R xs
ahead R [] ys h = AllPairs-nil R
ahead R (x ∷ xs) ys h = AllPairs-cons R x xs (All-from (R x) xs (λ y k. All-at (R x) (xs ++ ys) y (AllPairs-head R x (xs ++ ys) h) (Contains-append_left xs ys y k))) (ahead R xs ys (AllPairs-tail R x (xs ++ ys) h))

following : {X : Type 0} (R : X → X → Type 0) (xs ys : List X) → AllPairs R (xs ++ ys) → AllPairs R ys
following R [] ys h = h
following R (x ∷ xs) ys h = following R xs ys (AllPairs-tail R x (xs ++ ys) h)

across : {X : Type 0} (R : X → X → Type 0) (xs ys : List X) → AllPairs R (xs ++ ys) → (x y : X) → Contains xs x → Contains ys y → R x y
across R [] ys h x y first second = absurd (Contains-nil x first)
across R (z ∷ xs) ys h x y first second = elim (Contains-cons_cases z xs x first) [
  | inl is ↦ subst (λ u. R u y) is (All-at (R z) (xs ++ ys) y (AllPairs-head R z (xs ++ ys) h) (Contains-append_right xs ys y second))
  | inr later ↦ across R xs ys (AllPairs-tail R z (xs ++ ys) h) x y later second
]

abbrev Apart : Index → Index → Type 0
Apart a b = ¬ Meet a b

pub apart_ahead : (xs ys : List Index) → AreApart (xs ++ ys) → AreApart xs
apart_ahead xs ys h = ahead Apart xs ys h

-- the last two cover no common path
pub last_apart : (xs : List Index) (a b : Index) → AreApart ((xs ++ a ∷ []) ++ b ∷ []) → ¬ Meet a b
last_apart xs a b h = across Apart (xs ++ a ∷ []) (b ∷ []) h a b (Contains-append_right xs (a ∷ []) a (Contains-head a [])) (Contains-head b [])

covered_append : (xs ys : List Index) (path : Path) → IsCovered (xs ++ ys) path → IsCovered xs path ⊎ IsCovered ys path
covered_append xs ys path h = elim (Contains-append_cases xs ys h.piece h.among) [
  | inl first ↦ inl (record { piece = h.piece; among = first; covers = h.covers })
  | inr last ↦ inr (record { piece = h.piece; among = last; covers = h.covers })
]

covered_left : (xs ys : List Index) (path : Path) → IsCovered xs path → IsCovered (xs ++ ys) path
covered_left xs ys path h = record { piece = h.piece; among = Contains-append_left xs ys h.piece h.among; covers = h.covers }

covered_right : (xs ys : List Index) (path : Path) → IsCovered ys path → IsCovered (xs ++ ys) path
covered_right xs ys path h = record { piece = h.piece; among = Contains-append_right xs ys h.piece h.among; covers = h.covers }

-- pieces that stand ahead of others are merged
pub merged_ahead : (xs ys zs : List Index) → AreMergedFrom xs ys → AreMergedFrom (xs ++ zs) (ys ++ zs)
merged_ahead xs ys zs merged = record {
  files = λ tree root all.
      let P = λ (i : Index). IsFilesPiece tree root i in
      All-append P ys zs (merged.files tree root (All-from P xs (λ x h. All-at P (xs ++ zs) x all (Contains-append_left xs zs x h)))) (All-from P zs (λ x h. All-at P (xs ++ zs) x all (Contains-append_right xs zs x h)));
  covers = λ path. (
    (λ h. elim (covered_append ys zs path h) [ inl first ↦ covered_left xs zs path ((merged.covers path).0 first) | inr last ↦ covered_right xs zs path last ]),
    (λ h. elim (covered_append xs zs path h) [ inl first ↦ covered_left ys zs path ((merged.covers path).1 first) | inr last ↦ covered_right ys zs path last ]),
  );
  apart = λ h. AllPairs-append Apart ys zs (merged.apart (ahead Apart xs zs h)) (following Apart xs zs h)
      (λ y z first second meet.
      let was = (merged.covers meet.0).0 (record { piece = y; among = first; covers = meet.1 }) in
      across Apart xs zs h was.piece z was.among second (meet.0, was.covers, meet.2));
}

module _ (pieces : List Index) (a b c : Index) where
  has_a : Contains ((pieces ++ a ∷ []) ++ b ∷ []) a
  has_a = Contains-append_left (pieces ++ a ∷ []) (b ∷ []) a (Contains-append_right pieces (a ∷ []) a (Contains-head a []))

  has_b : Contains ((pieces ++ a ∷ []) ++ b ∷ []) b
  has_b = Contains-append_right (pieces ++ a ∷ []) (b ∷ []) b (Contains-head b [])

  has_c : Contains (pieces ++ c ∷ []) c
  has_c = Contains-append_right pieces (c ∷ []) c (Contains-head c [])

  has_other : (x : Index) → Contains pieces x → Contains ((pieces ++ a ∷ []) ++ b ∷ []) x
  has_other x h = Contains-append_left (pieces ++ a ∷ []) (b ∷ []) x (Contains-append_left pieces (a ∷ []) x h)

  forth : IsUnion a b c → (path : Path) → IsCovered (pieces ++ c ∷ []) path → IsCovered ((pieces ++ a ∷ []) ++ b ∷ []) path
  forth union path k = elim (Contains-append_cases pieces (c ∷ []) k.piece k.among) [
    | inl was ↦ record { piece = k.piece; among = has_other k.piece was; covers = k.covers }
    | inr now ↦ elim ((union.paths path).0 (subst (λ (i : Index). Contains i.paths path) (sym (is_one c k.piece now)) k.covers)) [
      | inl in_a ↦ record { piece = a; among = has_a; covers = in_a }
      | inr in_b ↦ record { piece = b; among = has_b; covers = in_b }
    ]
  ]

  back : IsUnion a b c → (path : Path) → IsCovered ((pieces ++ a ∷ []) ++ b ∷ []) path → IsCovered (pieces ++ c ∷ []) path
  back union path k = elim (Contains-append_cases (pieces ++ a ∷ []) (b ∷ []) k.piece k.among) [
    | inl first ↦ elim (Contains-append_cases pieces (a ∷ []) k.piece first) [
      | inl was ↦ record { piece = k.piece; among = Contains-append_left pieces (c ∷ []) k.piece was; covers = k.covers }
      | inr is ↦ record { piece = c; among = has_c; covers = (union.paths path).1 (inl (subst (λ (i : Index). Contains i.paths path) (sym (is_one a k.piece is)) k.covers)) }
    ]
    | inr is ↦ record { piece = c; among = has_c; covers = (union.paths path).1 (inr (subst (λ (i : Index). Contains i.paths path) (sym (is_one b k.piece is)) k.covers)) }
  ]

  -- none of the others covers what the last two covered
  still_apart : IsUnion a b c → AreApart ((pieces ++ a ∷ []) ++ b ∷ []) → AreApart (pieces ++ c ∷ [])
  still_apart union apart = AllPairs-append Apart pieces (c ∷ []) (ahead Apart pieces (a ∷ []) (ahead Apart (pieces ++ a ∷ []) (b ∷ []) apart)) (AllPairs-cons Apart c [] (All-nil (Apart c)) (AllPairs-nil Apart))
      (λ x y first last meet. elim ((union.paths meet.0).0 (subst (λ (i : Index). Contains i.paths meet.0) (sym (is_one c y last)) meet.2)) [
        | inl in_a ↦ across Apart pieces (a ∷ []) (ahead Apart (pieces ++ a ∷ []) (b ∷ []) apart) x a first (Contains-head a []) (meet.0, meet.1, in_a)
        | inr in_b ↦ across Apart (pieces ++ a ∷ []) (b ∷ []) apart x b (Contains-append_left pieces (a ∷ []) x first) (Contains-head b []) (meet.0, meet.1, in_b)
      ])

  -- the last two in one
  pub merged_two : ((fs gs : List File) → IsIndexOf fs a → IsIndexOf gs b → IsIndexOf (fs ++ gs) c) → IsUnion a b c → AreMergedFrom ((pieces ++ a ∷ []) ++ b ∷ []) (pieces ++ c ∷ [])
  merged_two both union = record {
    files = λ tree root all. All-from (IsFilesPiece tree root) (pieces ++ c ∷ []) (λ x h. elim (Contains-append_cases pieces (c ∷ []) x h) [
      | inl was ↦ All-at (IsFilesPiece tree root) ((pieces ++ a ∷ []) ++ b ∷ []) x all (has_other x was)
      | inr now ↦ subst (IsFilesPiece tree root) (is_one c x now)
          (joins_files a b c both tree root (All-at (IsFilesPiece tree root) ((pieces ++ a ∷ []) ++ b ∷ []) a all has_a) (All-at (IsFilesPiece tree root) ((pieces ++ a ∷ []) ++ b ∷ []) b all has_b))
    ]);
    covers = λ path. (forth union path, back union path);
    apart = still_apart union;
  }

-- the index of no file
pub of_none : (tree : Option Contents) (root : Path) (piece : Index) → IsIndexOf [] piece → IsFilesPiece tree root piece
of_none tree root piece index = record {
  files = [];
  index = index;
  reported = reported_all tree (λ t. (f : File) → Contains [] f → IsFileAt t root f) (λ t f h. absurd (Contains-nil f h));
}

-- the index of no file, for no pieces
pub merged_none : (pieces : List Index) (piece : Index) → pieces ≡ [] → IsIndexOf [] piece → AreMergedFrom pieces (piece ∷ [])
merged_none pieces piece none index = subst (λ (l : List Index). AreMergedFrom l (piece ∷ [])) (sym none) (record {
  files = λ tree root all. All-cons (IsFilesPiece tree root) piece [] (of_none tree root piece index) (All-nil (IsFilesPiece tree root));
  covers = λ path. (
    (λ h. absurd (Contains-nil path ((index.paths path).0 (subst (λ (i : Index). Contains i.paths path) (sym (is_one piece h.piece h.among)) h.covers)))),
    (λ h. absurd (Contains-nil h.piece h.among)),
  );
  apart = λ h. AllPairs-cons Apart piece [] (All-nil (Apart piece)) (AllPairs-nil Apart);
})

-- all but the last, and the last
pub all_prefix : (P : Index → Type 0) (xs : List Index) (x : Index) → All P (xs ++ x ∷ []) → All P xs
all_prefix P xs x all = All-from P xs (λ y h. All-at P (xs ++ x ∷ []) y all (Contains-append_left xs (x ∷ []) y h))

pub all_last : (P : Index → Type 0) (xs : List Index) (x : Index) → All P (xs ++ x ∷ []) → P x
all_last P xs x all = All-at P (xs ++ x ∷ []) x all (Contains-append_right xs (x ∷ []) x (Contains-head x []))

pub all_more : (P : Index → Type 0) (xs : List Index) (x : Index) → All P xs → P x → All P (xs ++ x ∷ [])
all_more P xs x all one = All-append P xs (x ∷ []) all (All-cons P x [] one (All-nil P))

pub covered_prefix : (xs : List Index) (x : Index) (path : Path) → IsCovered xs path → IsCovered (xs ++ x ∷ []) path
covered_prefix xs x path h = record { piece = h.piece; among = Contains-append_left xs (x ∷ []) h.piece h.among; covers = h.covers }

pub covered_last : (xs : List Index) (x : Index) (path : Path) → Contains x.paths path → IsCovered (xs ++ x ∷ []) path
covered_last xs x path h = record { piece = x; among = Contains-append_right xs (x ∷ []) x (Contains-head x []); covers = h }

-- a path is covered before the last, or by the last
pub covered_cases : (xs : List Index) (x : Index) (path : Path) → IsCovered (xs ++ x ∷ []) path → IsCovered xs path ⊎ Contains x.paths path
covered_cases xs x path h = elim (Contains-append_cases xs (x ∷ []) h.piece h.among) [
  | inl first ↦ inl (record { piece = h.piece; among = first; covers = h.covers })
  | inr last ↦ inr (subst (λ (i : Index). Contains i.paths path) (sym (is_one x h.piece last)) h.covers)
]

-- files whose paths the walk has found, by a piece that is their index
pub part_of_walk : (tree : Option Contents) (w : Walk) (piece : Index) → IsFilesPiece tree w.root piece → ((path : Path) → Contains piece.paths path → Contains w.files path) → IsPartOf tree w piece
part_of_walk tree w piece h found = record {
  files = h.files;
  index = h.index;
  found = λ f among. found f.path ((h.index.paths f.path).1 (Contains-map (λ (g : File). g.path) h.files f among));
  reported = h.reported;
}

-- with one in the place of the last two there is one less
pub one_less : (rest more old new : List Index) (a b both : Index) → old ≡ more ++ b ∷ [] → more ≡ rest ++ a ∷ [] → new ≡ rest ++ both ∷ [] → length new < length old
one_less rest more old new a b both is_old is_more is_new =
    let n = ap length is_old in
    let m = ap length is_more in
    let k = ap length is_new in
    let last = length-append more (b ∷ []) in
    let before = length-append rest (a ∷ []) in
    let merged = length-append rest (both ∷ []) in
    omega arith
