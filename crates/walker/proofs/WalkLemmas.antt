-- A walk with one more directory listed.
use Rattle.std.proofs.Common.{◌≡◌, ◌≢◌, ◌∙◌, Bool, true, false, ◌||◌, List, [], ◌∷◌, ◌++◌, length, map, sym, ap, subst, refl, arith, inl, inr, ◌⊎◌, Contains}
use Rattle.std.specs.Bool.{nat_eq, Decides}
use Rattle.std.specs.Cmp.Lexicographic.{pointwise}
use Rattle.std.proofs.lemmas.Bool.Decides.{Decides-eqb}
use Rattle.std.proofs.lemmas.Slice.Eq.{slice_eq-Decides}
use Rattle.std.proofs.lemmas.List.{append_assoc, length-append}
use Rattle.std.proofs.lemmas.List.Elements.{Contains-append_cases, Contains-append_left, Contains-append_right}
use Rattle.firefly_outside.specs.Trees.{Path, child, slash, IsChild}
use Rattle.firefly_outside.proofs.PathLemmas.{child-unique}
use Rattle.walker.specs.Walk.{Walk, dirs_of, IsListed, IsUnlisted, HasListedParent, IsSound, marked}
use Rattle.walker.specs.Found.{IsBelow, AreBelow, AreNew}
use Rattle.walker.specs.Listings.{IsListingOf}
use Rattle.walker.specs.declared.listing.Listing.{Listing}
use Rattle.walker.proofs.FoundLemmas.{names-append}
use Rattle.walker.proofs.ListLemmas.{Distinct, HasOrigin, Contains-nil, Contains-cons_cases, Contains-map, Contains-unmap, All-at, AllPairs-head, AllPairs-tail, AllPairs-nil, Distinct-left, Distinct-right, All-from}
use Rattle.std.proofs.lemmas.List.Kept.{AllPairs-cons}

-- the walk with the directory listed, whose children are these
abbrev pub noted : Walk → Path → List Path → List Path → Walk
noted w dir dirs names = record { root = w.root; dirs = marked dir w.dirs ++ map (λ p. (p, false)) dirs; files = w.files ++ names }

path_decides : (a b : Path) → Decides (pointwise nat_eq a b) (a ≡ b)
path_decides a b = slice_eq-Decides Decides-eqb a b (pointwise nat_eq a b) refl

pub names-marked : (dir : Path) (ds : List (Path × Bool)) → map (λ d. d.0) (marked dir ds) ≡ map (λ d. d.0) ds
names-marked dir [] = refl
names-marked dir (d ∷ ds) = ap (λ l. d.0 ∷ l) (names-marked dir ds)

pub dirs_of-noted : (w : Walk) (dir : Path) (dirs names : List Path) → dirs_of (noted w dir dirs names) ≡ dirs_of w ++ dirs
dirs_of-noted w dir dirs names = names-append (marked dir w.dirs) dirs ∙ ap (λ l. l ++ dirs) (names-marked dir w.dirs)

-- what was listed stays so
pub listed_stays : (w : Walk) (dir : Path) (dirs names : List Path) (d : Path) → IsListed w d → IsListed (noted w dir dirs names) d
listed_stays w dir dirs names d h = Contains-append_left (marked dir w.dirs) (map (λ p. (p, false)) dirs) (d, true) (Contains-map (λ (e : Path × Bool). (e.0, e.1 || pointwise nat_eq dir e.0)) w.dirs (d, true) h)

-- the directory is listed now
pub listed_now : (w : Walk) (dir : Path) (dirs names : List Path) → IsUnlisted w dir → IsListed (noted w dir dirs names) dir
listed_now w dir dirs names h =
    Contains-append_left (marked dir w.dirs) (map (λ p. (p, false)) dirs) (dir, true)
    (subst (λ (b : Bool). Contains (marked dir w.dirs) (dir, b)) ((path_decides dir dir).1 refl)
    (Contains-map (λ (e : Path × Bool). (e.0, e.1 || pointwise nat_eq dir e.0)) w.dirs (dir, false) h))

-- nothing else is
pub listed_from : (w : Walk) (dir : Path) (dirs names : List Path) (d : Path) → IsListed (noted w dir dirs names) d → IsListed w d ⊎ (d ≡ dir)
listed_from w dir dirs names d h = elim (Contains-append_cases (marked dir w.dirs) (map (λ p. (p, false)) dirs) (d, true) h) [
  | inl here ↦ from (Contains-unmap (λ (e : Path × Bool). (e.0, e.1 || pointwise nat_eq dir e.0)) w.dirs (d, true) here)
  | inr new ↦ (let o = Contains-unmap (λ (p : Path). (p, false)) dirs (d, true) new in let bad : false ≡ true = ap (λ (e : Path × Bool). e.1) o.is in cc)
]
  where
    at : (b : Bool) (e : Path) → Contains w.dirs (e, b) → e ≡ d → (b || pointwise nat_eq dir e) ≡ true → IsListed w d ⊎ (d ≡ dir)
    at true e among same on = inl (subst (λ (p : Path). Contains w.dirs (p, true)) same among)
    at false e among same on = inr (sym same ∙ sym ((path_decides dir e).0 on))

    from : HasOrigin {Y = Path × Bool} (λ (e : Path × Bool). (e.0, e.1 || pointwise nat_eq dir e.0)) w.dirs (d, true) → IsListed w d ⊎ (d ≡ dir)
    from o = at o.origin.1 o.origin.0 o.among (ap (λ (e : Path × Bool). e.0) o.is) (ap (λ (e : Path × Bool). e.1) o.is)

-- no directory is both listed and not
pub listed_once : (w : Walk) (d : Path) → IsSound w → IsListed w d → ¬ IsUnlisted w d
listed_once w d sound on off = apart w.dirs sound.dirs on off
  where
    apart : (ds : List (Path × Bool)) → Distinct (map (λ e. e.0) ds) → Contains ds (d, true) → ¬ Contains ds (d, false)
    apart [] unique h k = absurd (Contains-nil (d, true) h)
    apart (e ∷ ds) unique h k = elim (Contains-cons_cases e ds (d, true) h) [
      | inl a ↦ elim (Contains-cons_cases e ds (d, false) k) [
        | inl b ↦ (let bad : true ≡ false = ap (λ (x : Path × Bool). x.1) (sym a ∙ b) in cc)
        | inr b ↦ All-at (λ y. e.0 ≢ y) (map (λ e. e.0) ds) d (AllPairs-head (λ x y. x ≢ y) e.0 (map (λ e. e.0) ds) unique) (Contains-map (λ (x : Path × Bool). x.0) ds (d, false) b) (ap (λ (x : Path × Bool). x.0) a)
      ]
      | inr a ↦ elim (Contains-cons_cases e ds (d, false) k) [
        | inl b ↦ All-at (λ y. e.0 ≢ y) (map (λ e. e.0) ds) d (AllPairs-head (λ x y. x ≢ y) e.0 (map (λ e. e.0) ds) unique) (Contains-map (λ (x : Path × Bool). x.0) ds (d, true) a) (ap (λ (x : Path × Bool). x.0) b)
        | inr b ↦ apart ds (AllPairs-tail (λ x y. x ≢ y) e.0 (map (λ e. e.0) ds) unique) a b
      ]
    ]

pub found_unlisted : (w : Walk) (d : Path) → IsUnlisted w d → Contains (dirs_of w) d
found_unlisted w d h = Contains-map (λ (e : Path × Bool). e.0) w.dirs (d, false) h

pub found_listed : (w : Walk) (d : Path) → IsListed w d → Contains (dirs_of w) d
found_listed w d h = Contains-map (λ (e : Path × Bool). e.0) w.dirs (d, true) h

-- a path whose parent isn't listed isn't found, but for the root
pub child_is_new : (w : Walk) (dir name p : Path) → IsSound w → IsUnlisted w dir → IsChild dir name p → ¬ HasListedParent w p
child_is_new w dir name p sound off is parent =
    let one = child-unique parent.dir dir parent.name name (sym parent.under.is ∙ is.is) parent.under.lawful.plain is.lawful.plain in
    listed_once w dir sound (subst (IsListed w) one.0 parent.listed) off

-- the root is nobody's child
pub root_is_no_child : (w : Walk) (dir name : Path) → IsSound w → Contains (dirs_of w) dir → child dir name ≢ w.root
root_is_no_child w dir name sound found same = elim (sound.below dir found) [
  | inl root ↦ absurd (omega (arith, ap length same, length-append dir (slash ∷ name), ap length root))
  | inr more ↦ absurd (omega (arith, ap length same, length-append dir (slash ∷ name), ap length more.1, length-append w.root (slash ∷ more.0)))
]

-- a child of a directory found is below the root
pub child_is_below : (w : Walk) (dir name p : Path) → IsSound w → Contains (dirs_of w) dir → p ≡ child dir name → IsBelow w.root p
child_is_below w dir name p sound found is = elim (sound.below dir found) [
  | inl root ↦ (name, is ∙ ap (λ d. child d name) root)
  | inr more ↦ (child more.0 name, is ∙ ap (λ d. child d name) more.1 ∙ append_assoc w.root (slash ∷ more.0) (slash ∷ name))
]

-- the files of a listing are below the root
pub AreBelow-listing : (w : Walk) (dir : Path) (l : Listing) → IsSound w → IsUnlisted w dir → IsListingOf dir l → AreBelow w.root l.files.items
AreBelow-listing w dir l sound off lawful p h =
    let c = lawful.children p (Contains-append_right l.dirs.items l.files.items p h) in
    child_is_below w dir c.0 p sound (found_unlisted w dir off) c.1.is

-- the directories of a listing are new
pub AreNew-dirs : (w : Walk) (dir : Path) (l : Listing) → IsSound w → IsUnlisted w dir → IsListingOf dir l → AreNew (dirs_of w) l.dirs.items
AreNew-dirs w dir l sound off lawful = record {
  fresh = λ p h was.
      let c = lawful.children p (Contains-append_left l.dirs.items l.files.items p h) in
      elim (sound.dir_parents p was) [
        | inl root ↦ root_is_no_child w dir c.0 sound (found_unlisted w dir off) (sym c.1.is ∙ root)
        | inr parent ↦ child_is_new w dir c.0 p sound off c.1 parent
      ];
  distinct = Distinct-left l.dirs.items l.files.items lawful.distinct;
}

-- an image of distinct elements has distinct origins
Distinct-unmap : (f : Path → Path) (xs : List Path) → Distinct (map f xs) → Distinct xs
Distinct-unmap f [] h = AllPairs-nil (λ x y. x ≢ y)
Distinct-unmap f (x ∷ xs) h =
    AllPairs-cons (λ x y. x ≢ y) x xs
    (All-from (λ y. x ≢ y) xs (λ y k same. All-at (λ z. f x ≢ z) (map f xs) (f y) (AllPairs-head (λ x y. x ≢ y) (f x) (map f xs) h) (Contains-map f xs y k) (ap f same)))
    (Distinct-unmap f xs (AllPairs-tail (λ x y. x ≢ y) (f x) (map f xs) h))

-- the files of a listing are new
pub AreNew-files : (w : Walk) (dir : Path) (l : Listing) (names : List Path) → IsSound w → IsUnlisted w dir → IsListingOf dir l → map (child w.root) names ≡ l.files.items → AreNew w.files names
AreNew-files w dir l names sound off lawful are = record {
  fresh = λ p h was.
      let c = lawful.children (child w.root p) (Contains-append_right l.dirs.items l.files.items (child w.root p) (subst (λ (ps : List Path). Contains ps (child w.root p)) are (Contains-map (child w.root) names p h))) in
      child_is_new w dir c.0 (child w.root p) sound off c.1 (sound.file_parents p was);
  distinct = Distinct-unmap (child w.root) names (subst Distinct (sym are) (Distinct-right l.dirs.items l.files.items lawful.distinct));
}
