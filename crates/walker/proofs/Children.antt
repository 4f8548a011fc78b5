-- The children of one kind among the entries of a directory.
use Rattle.std.proofs.Common.{◌≡◌, ◌≢◌, ◌∙◌, Bool, true, false, List, [], ◌∷◌, ◌++◌, sym, ap, subst, refl, arith, inl, inr, Contains, AllPairs, if◌then◌else◌, ◌↔◌}
use Rattle.std.specs.Bool.{nat_eq, Decides}
use Rattle.std.specs.Cmp.Lexicographic.{pointwise}
use Rattle.std.specs.List.Sorted.{IsPermutation}
use Rattle.std.proofs.lemmas.Bool.Decides.{Decides-eqb}
use Rattle.std.proofs.lemmas.Slice.Eq.{slice_eq-Decides}
use Rattle.std.proofs.lemmas.List.{append_cancel_left, append_assoc, append-nil}
use Rattle.std.proofs.lemmas.List.Elements.{Contains-append_cases, Contains-append_left, Contains-append_right}
use Rattle.std.proofs.lemmas.Map.Made.{AllPairs-from_IsDistinct, IsDistinct-from_AllPairs}
use Rattle.std.proofs.lemmas.Map.Keys.{IsDistinct-IsPermutation}
use Rattle.std.specs.Cmp.Lexicographic.{nat_list_eq_equiv}
use Rattle.firefly_outside.specs.Trees.{Path, child, slash, IsName, IsChild, AreEntries}
use Rattle.firefly_outside.specs.declared.tree.Entry.{Entry}
use Rattle.firefly_outside.specs.declared.tree.Kind.{Kind}
use Rattle.firefly_outside.specs.declared.tree.Kind.TheVariants.{File, Dir}
use Rattle.std.specs.List.Sorted.{IsSorted}
use Rattle.std.specs.Cmp.Lexicographic.{slice_cmp}
use Rattle.std.specs.Ordering.{nat_cmp}
use Rattle.std.specs.Prelude.{Option, Some, None, IfSome, Ok}
use Rattle.std.proofs.Common.{Vec, Global}
use Rattle.firefly_outside.specs.Trees.{Contents, Calls, Lists}
use Rattle.walker.specs.Listings.{IsListingOf, ListsDir}
use Rattle.walker.specs.declared.listing.Listing.{Listing}
use Rattle.walker.specs.Walk.{IsNamed}
use Rattle.walker.specs.Kinds.{same_kind, path_as}
use Rattle.walker.proofs.ListLemmas.{Distinct, Contains-head, Contains-tail, Contains-nil, Contains-cons_cases, All-at, AllPairs-head, AllPairs-tail, AllPairs-nil, AllPairs-append}

same_kind-refl : (k : Kind) → same_kind k k ≡ true
same_kind-refl File = refl
same_kind-refl Dir = refl

same_kind-is : (k j : Kind) → same_kind k j ≡ true → k ≡ j
same_kind-is File File e = refl
same_kind-is File Dir e = cc
same_kind-is Dir File e = cc
same_kind-is Dir Dir e = refl

-- the paths of the entries of one kind
abbrev pub paths_as : Path → Kind → List Entry → List Path
paths_as dir kind [] = []
paths_as dir kind (e ∷ es) = path_as dir kind e ++ paths_as dir kind es

-- one more entry
pub paths_as-push : (dir : Path) (kind : Kind) (es : List Entry) (e : Entry) → paths_as dir kind (es ++ e ∷ []) ≡ paths_as dir kind es ++ path_as dir kind e
paths_as-push dir kind [] e = append-nil (path_as dir kind e)
paths_as-push dir kind (f ∷ es) e = ap (λ l. path_as dir kind f ++ l) (paths_as-push dir kind es e) ∙ sym (append_assoc (path_as dir kind f) (paths_as dir kind es) (path_as dir kind e))

-- the one path of an entry of the kind
path_as-is : (dir : Path) (kind : Kind) (e : Entry) (p : Path) → Contains (path_as dir kind e) p → (e.kind ≡ kind) × (p ≡ child dir e.name)
path_as-is dir kind e p h = at (same_kind e.kind kind) refl h
  where
    at : (b : Bool) → same_kind e.kind kind ≡ b → Contains (if b then child dir e.name ∷ [] else []) p → (e.kind ≡ kind) × (p ≡ child dir e.name)
    at true t k = elim (Contains-cons_cases (child dir e.name) [] p k) [ inl is ↦ (same_kind-is e.kind kind t, sym is) | inr m ↦ absurd (Contains-nil p m) ]
    at false f k = absurd (Contains-nil p k)

path_as-has : (dir : Path) (kind : Kind) (e : Entry) → e.kind ≡ kind → Contains (path_as dir kind e) (child dir e.name)
path_as-has dir kind e called =
    let holds : same_kind e.kind kind ≡ true = ap (λ k. same_kind k kind) called ∙ same_kind-refl kind in
    rw holds (Contains-head (child dir e.name) [])

pub named_from : (dir : Path) (kind : Kind) (es : List Entry) (p : Path) → Contains (paths_as dir kind es) p → IsNamed dir es kind p
named_from dir kind [] p h = absurd (Contains-nil p h)
named_from dir kind (e ∷ es) p h = elim (Contains-append_cases (path_as dir kind e) (paths_as dir kind es) p h) [
  | inl here ↦ (let is = path_as-is dir kind e p here in record { entry = e; among = Contains-head e es; called = is.0; is = is.1 })
  | inr m ↦ (let n = named_from dir kind es p m in record { entry = n.entry; among = Contains-tail e es n.entry n.among; called = n.called; is = n.is })
]

pub named_to : (dir : Path) (kind : Kind) (es : List Entry) (e : Entry) → Contains es e → e.kind ≡ kind → Contains (paths_as dir kind es) (child dir e.name)
named_to dir kind [] e h called = absurd (Contains-nil e h)
named_to dir kind (f ∷ es) e h called = elim (Contains-cons_cases f es e h) [
  | inl is ↦ Contains-append_left (path_as dir kind f) (paths_as dir kind es) (child dir e.name)
      (subst (λ (x : Entry). Contains (path_as dir kind x) (child dir e.name)) (sym is) (path_as-has dir kind e called))
  | inr m ↦ Contains-append_right (path_as dir kind f) (paths_as dir kind es) (child dir e.name) (named_to dir kind es e m called)
]

-- a directory's children of the same path have the same name
pub child_name : (dir n m : Path) → child dir n ≡ child dir m → n ≡ m
child_name dir n m same = let tails : slash ∷ n ≡ slash ∷ m = append_cancel_left dir (slash ∷ n) (slash ∷ m) same in cc

pub Distinct-paths_as : (dir : Path) (kind : Kind) (es : List Entry) → AllPairs (λ e f. e.name ≢ f.name) es → Distinct (paths_as dir kind es)
Distinct-paths_as dir kind [] apart = AllPairs-nil (λ x y. x ≢ y)
Distinct-paths_as dir kind (e ∷ es) apart =
    AllPairs-append (λ x y. x ≢ y) (path_as dir kind e) (paths_as dir kind es) (one (same_kind e.kind kind))
    (Distinct-paths_as dir kind es (AllPairs-tail (λ e f. e.name ≢ f.name) e es apart))
    (λ p q h k same.
    let is = path_as-is dir kind e p h in
    let n = named_from dir kind es q k in
    All-at (λ f. e.name ≢ f.name) es n.entry (AllPairs-head (λ e f. e.name ≢ f.name) e es apart) n.among (child_name dir e.name n.entry.name (sym is.1 ∙ same ∙ n.is)))
  where
    one : (b : Bool) → Distinct (if b then child dir e.name ∷ [] else [])
    one true = λ i j d below within. absurd (omega arith)
    one false = AllPairs-nil (λ x y. x ≢ y)

-- distinct paths stay so in another order
pub Distinct-permutation : (ps qs : List Path) → IsPermutation ps qs → Distinct ps → Distinct qs
Distinct-permutation ps qs moved apart =
    AllPairs-from_IsDistinct decides qs (IsDistinct-IsPermutation (pointwise nat_eq) nat_list_eq_equiv.symm ps qs moved (IsDistinct-from_AllPairs decides ps apart))
  where
    decides : (a b : Path) → Decides (pointwise nat_eq a b) (a ≡ b)
    decides a b = slice_eq-Decides Decides-eqb a b (pointwise nat_eq a b) refl

-- two entries of the same name are the same
pub same_entry : (es : List Entry) (e f : Entry) → AllPairs (λ e f. e.name ≢ f.name) es → Contains es e → Contains es f → e.name ≡ f.name → e ≡ f
same_entry [] e f apart h k same = absurd (Contains-nil e h)
same_entry (x ∷ es) e f apart h k same = elim (Contains-cons_cases x es e h) [
  | inl a ↦ elim (Contains-cons_cases x es f k) [
    | inl b ↦ sym a ∙ b
    | inr b ↦ absurd (All-at (λ f. x.name ≢ f.name) es f (AllPairs-head (λ e f. e.name ≢ f.name) x es apart) b (ap (λ (y : Entry). y.name) a ∙ same))
  ]
  | inr a ↦ elim (Contains-cons_cases x es f k) [
    | inl b ↦ absurd (All-at (λ f. x.name ≢ f.name) es e (AllPairs-head (λ e f. e.name ≢ f.name) x es apart) a (ap (λ (y : Entry). y.name) b ∙ sym same))
    | inr b ↦ same_entry es e f (AllPairs-tail (λ e f. e.name ≢ f.name) x es apart) a b same
  ]
]

-- what the sorted paths of the entries of both kinds are
pub lawful_listing : (dir : Path) (es : List Entry) (l : Listing) → AreEntries es
    → IsSorted (slice_cmp nat_cmp) l.dirs.items → ((p : Path) → Contains l.dirs.items p ↔ IsNamed dir es Dir p) → Distinct l.dirs.items
    → IsSorted (slice_cmp nat_cmp) l.files.items → ((p : Path) → Contains l.files.items p ↔ IsNamed dir es File p) → Distinct l.files.items
    → IsListingOf dir l
lawful_listing dir es l lawful dirs_sorted dirs dirs_apart files_sorted files files_apart = record {
  dirs = dirs_sorted;
  files = files_sorted;
  children = λ p h. elim (Contains-append_cases l.dirs.items l.files.items p h) [
    | inl d ↦ child_of Dir p ((dirs p).0 d)
    | inr f ↦ child_of File p ((files p).0 f)
  ];
  distinct = AllPairs-append (λ x y. x ≢ y) l.dirs.items l.files.items dirs_apart files_apart (λ p q d f same.
      let n = (dirs p).0 d in
      let m = (files q).0 f in
      let one : n.entry ≡ m.entry = same_entry es n.entry m.entry lawful.distinct n.among m.among (child_name dir n.entry.name m.entry.name (sym n.is ∙ same ∙ m.is)) in
      let kinds : Dir ≡ File = sym n.called ∙ ap (λ (e : Entry). e.kind) one ∙ m.called in
      cc);
}
  where
    child_of : (kind : Kind) (p : Path) → IsNamed dir es kind p → (name : Path) × IsChild dir name p
    child_of kind p n = (n.entry.name, record { lawful = All-at (λ e. IsName e.name) es n.entry lawful.names n.among; is = n.is })

-- entries that are the same ones name the same paths
pub named_same : (dir : Path) (es ds : List Entry) (kind : Kind) → ((e : Entry) → Contains es e ↔ Contains ds e) → (p : Path) → IsNamed dir es kind p ↔ IsNamed dir ds kind p
named_same dir es ds kind same p = (
  λ n. record { entry = n.entry; among = (same n.entry).0 n.among; called = n.called; is = n.is },
  λ n. record { entry = n.entry; among = (same n.entry).1 n.among; called = n.called; is = n.is },
)

-- what a listing of a tree that tells gives
pub reported_listing : (o : Option Contents) (weak : List Path) (dir : Path) (old new : Calls) (v : Vec Entry Global) (l : Listing)
    → IfSome o (Lists (λ (v : Vec Entry Global). v.items) weak dir old new (Ok v))
    → ((p : Path) → Contains l.dirs.items p ↔ IsNamed dir v.items Dir p) → ((p : Path) → Contains l.files.items p ↔ IsNamed dir v.items File p)
    → IfSome o (ListsDir weak dir old new (Ok l))
reported_listing None weak dir old new v l h dirs files = tt
reported_listing (Some t) weak dir old new v l h dirs files = (
  record {
    entries = h.0.entries;
    here = h.0.here;
    dirs = λ p. let n = named_same dir v.items h.0.entries Dir h.0.same p in (λ k. n.0 ((dirs p).0 k), λ k. (dirs p).1 (n.1 k));
    files = λ p. let n = named_same dir v.items h.0.entries File h.0.same p in (λ k. n.0 ((files p).0 k), λ k. (files p).1 (n.1 k));
  },
  h.1,
)
