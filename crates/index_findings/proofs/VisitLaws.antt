-- Listings that are put into a walk, in the order of their directories.
use Rattle.std.proofs.Common.{◌≡◌, ◌≢◌, ◌∙◌, ℕ, Bool, true, false, List, [], ◌∷◌, ◌++◌, length, map, inl, inr, ◌⊎◌, Contains, AllPairs, sym, ap, subst, refl, arith}
use Rattle.std.specs.Prelude.{◌↔◌, All, IsPermutation}
use denote.Param.Members.{Mut}
use Rattle.std.specs.Borrow.{Bor}
use Rattle.std.specs.Cmp.{IsStrictWeakOrder, nat_cmp_is}
use Rattle.std.specs.Fn.{Called, ComparesAs}
use Rattle.std.proofs.lemmas.Fn.{always_returns_same}
use Rattle.std.specs.declared.cmp.Ordering.{Ordering}
use Rattle.std.specs.Cmp.Lexicographic.{slice_cmp, nat_list_cmp_total}
use Rattle.std.specs.Ordering.{is_lt, nat_cmp, ordering_then}
use Rattle.std.specs.declared.cmp.Ordering.TheVariants.{Equal}
use Rattle.std.specs.List.Sorted.{IsSortedBy}
use Rattle.std.proofs.lemmas.List.{append-nil, map-append, length-append}
use Rattle.std.proofs.lemmas.List.Elements.{Contains-append_cases, Contains-append_left, Contains-append_right}
use Rattle.std.proofs.lemmas.List.Sorted.{All-permutation, Contains-permutation, IsPermutation-map, IsPermutation-sym, ranks_by, sorted_far}
use Rattle.firefly_outside.specs.Trees.{Path, child, slash}
use Rattle.walker.specs.Listings.{IsListingOf, Notes}
use Rattle.walker.specs.Walk.{Walk, IsListed, IsUnlisted, dirs_of, files_of, marked, new_walk}
use Rattle.walker.proofs.Children.{Distinct-permutation}
use Rattle.walker.proofs.ListLemmas.{All-at, AllPairs-head, AllPairs-tail, Contains-cons_cases, Contains-head, Contains-map, Contains-nil, Contains-unmap, Distinct-across}
use Rattle.walker.proofs.WalkLemmas.{dirs_of-noted, listed_from, listed_now, listed_stays}
use Rattle.index_findings.specs.declared.findings.Visit.{Visit}
use Rattle.index_findings.specs.Visits.{AreVisits, HasNoted, IsFoundDir, IsFoundFile, dirs_listed}

-- a directory comes before what lies below it
comes_before : (dir rest : Path) (x : ℕ) → is_lt (slice_cmp nat_cmp dir (dir ++ x ∷ rest)) ≡ true
comes_before [] rest x = refl
comes_before (y ∷ dir) rest x =
    ap (λ o. is_lt (ordering_then o (slice_cmp nat_cmp dir (dir ++ x ∷ rest)))) (sym (nat_cmp_is y y Equal refl)) ∙ comes_before dir rest x

abbrev before : Visit → Visit → Bool
before u v = is_lt (slice_cmp nat_cmp u.dir v.dir)

-- no listing comes before one that stands ahead of it
abbrev pub InOrder : List Visit → Type 0
InOrder visits = AllPairs (λ u v. is_lt (slice_cmp nat_cmp v.dir u.dir) ≡ false) visits

in_order : (visits : List Visit) → IsSortedBy before visits → InOrder visits
in_order visits up i j d low within = sorted_far before (ranks_by nat_list_cmp_total (λ (v : Visit). v.dir)) visits up i j d (omega (arith, low)) within

-- what sorting by the directories ensures
pub sorted_by_dir : {F : Type 0} {g : Mut F (Bor Visit × (Bor Visit × Unit {0})) Ordering} {f : F} (visits : List Visit) → ((lt : Visit → Visit → Bool) → IsStrictWeakOrder lt → ComparesAs g lt f → IsSortedBy lt visits)
    → ((a : Bor Visit × (Bor Visit × Unit {0})) (r : Ordering) (f' : F) → Called g f a r f' → (r ≡ slice_cmp nat_cmp a.0.now.dir a.1.0.now.dir) × (f' ≡ f)) → InOrder visits
sorted_by_dir {g = g} {f = f} visits up h = in_order visits (up before (ranks_by nat_list_cmp_total (λ (v : Visit). v.dir))
    (always_returns_same g (λ a r. is_lt r ≡ before a.0.now a.1.0.now) f (λ a r f' k. (ap is_lt (h a r f' k).0, (h a r f' k).1))))

following : {X : Type 0} (R : X → X → Type 0) (xs ys : List X) → AllPairs R (xs ++ ys) → AllPairs R ys
following R [] ys h = h
following R (x ∷ xs) ys h = following R xs ys (AllPairs-tail R x (xs ++ ys) h)

untrue : true ≡ false → ⊥
untrue e = cc

-- who found the directory that is next stands ahead of it
found_ahead : (done rest : List Visit) (x u : Visit) (name : Path) → InOrder (done ++ x ∷ rest) → Contains (done ++ x ∷ rest) u → x.dir ≡ child u.dir name → Contains done u
found_ahead done rest x u name order among is = elim (Contains-append_cases done (x ∷ rest) u among) [
  | inl ahead ↦ ahead
  | inr later ↦ absurd (elim (Contains-cons_cases x rest u later) [
    | inl same ↦ omega (arith, ap length (is ∙ ap (λ (v : Visit). child v.dir name) (sym same)), length-append x.dir (slash ∷ name))
    | inr far ↦ untrue (sym (ap (λ d. is_lt (slice_cmp nat_cmp u.dir d)) is ∙ comes_before u.dir name slash)
        ∙ All-at (λ v. before v x ≡ false) rest u (AllPairs-head (λ u v. before v u ≡ false) x rest (following (λ u v. before v u ≡ false) done (x ∷ rest) order)) far)
  ])
]

pub noted_none : (root : Path) → HasNoted root [] (new_walk root)
noted_none root = record {
  same = refl;
  listed = λ p. (
    (λ h. elim (Contains-cons_cases (root, false) [] (p, true) h) [
      | inl e ↦ absurd (untrue (sym (ap (λ (d : Path × Bool). d.1) e)))
      | inr m ↦ absurd (Contains-nil (p, true) m)
    ]),
    (λ h. absurd (Contains-nil p h)),
  );
  dirs = λ p h. elim h [
    | inl e ↦ subst (Contains (root ∷ [])) (sym e) (Contains-head root [])
    | inr f ↦ absurd (Contains-nil f.visit f.among)
  ];
  files = λ p f. absurd (Contains-nil f.visit f.among);
}

-- with one listing more
dir_more : (done : List Visit) (x : Visit) → dirs_listed (done ++ x ∷ []) ≡ dirs_listed done ++ x.dir ∷ []
dir_more done x = map-append (λ (v : Visit). v.dir) done (x ∷ [])

is_only : {X : Type 0} (x y : X) → Contains (x ∷ []) y → x ≡ y
is_only x y h = elim (Contains-cons_cases x [] y h) [ inl e ↦ e | inr m ↦ absurd (Contains-nil y m) ]

module _ (root : Path) (done : List Visit) (x : Visit) (w v : Walk) (off : IsUnlisted w x.dir) (notes : Notes w v x.dir x.listing) (was : HasNoted root done w) where
  abbrev Listings : List (Path × Bool) → Path → Type 0
  Listings ds p = Contains ds (p, true)

  listed_more : (p : Path) → IsListed v p ↔ Contains (dirs_listed (done ++ x ∷ [])) p
  listed_more p = (
    (λ h. subst (λ (ps : List Path). Contains ps p) (sym (dir_more done x)) (elim (listed_from w x.dir x.listing.dirs.items [] p (subst (λ ds. Listings ds p) notes.dirs h)) [
      | inl old ↦ Contains-append_left (dirs_listed done) (x.dir ∷ []) p ((was.listed p).0 old)
      | inr e ↦ Contains-append_right (dirs_listed done) (x.dir ∷ []) p (subst (Contains (x.dir ∷ [])) (sym e) (Contains-head x.dir []))
    ])),
    (λ h. subst (λ ds. Listings ds p) (sym notes.dirs) (elim (Contains-append_cases (dirs_listed done) (x.dir ∷ []) p (subst (λ (ps : List Path). Contains ps p) (dir_more done x) h)) [
      | inl old ↦ listed_stays w x.dir x.listing.dirs.items [] p ((was.listed p).1 old)
      | inr new ↦ subst (λ (q : Path). Listings (marked x.dir w.dirs ++ map (λ (d : Path). (d, false)) x.listing.dirs.items) q) (is_only x.dir p new) (listed_now w x.dir x.listing.dirs.items [] off)
    ])),
  )

  dirs_are : dirs_of v ≡ dirs_of w ++ x.listing.dirs.items
  dirs_are = ap (map (λ (d : Path × Bool). d.0)) notes.dirs ∙ dirs_of-noted w x.dir x.listing.dirs.items []

  dirs_more : (p : Path) → (p ≡ root) ⊎ IsFoundDir (done ++ x ∷ []) p → Contains (dirs_of v) p
  dirs_more p h = subst (λ (ps : List Path). Contains ps p) (sym dirs_are) (elim h [
    | inl e ↦ Contains-append_left (dirs_of w) x.listing.dirs.items p (was.dirs p (inl e))
    | inr f ↦ elim (Contains-append_cases done (x ∷ []) f.visit f.among) [
      | inl old ↦ Contains-append_left (dirs_of w) x.listing.dirs.items p (was.dirs p (inr (record { visit = f.visit; among = old; found = f.found })))
      | inr new ↦ Contains-append_right (dirs_of w) x.listing.dirs.items p (subst (λ (u : Visit). Contains u.listing.dirs.items p) (sym (is_only x f.visit new)) f.found)
    ]
  ])

  files_are : files_of v ≡ files_of w ++ x.listing.files.items
  files_are = ap (λ (r : Path). map (child r) v.files) notes.root ∙ notes.files

  files_more : (p : Path) → IsFoundFile (done ++ x ∷ []) p → Contains (files_of v) p
  files_more p f = subst (λ (ps : List Path). Contains ps p) (sym files_are) (elim (Contains-append_cases done (x ∷ []) f.visit f.among) [
    | inl old ↦ Contains-append_left (files_of w) x.listing.files.items p (was.files p (record { visit = f.visit; among = old; found = f.found }))
    | inr new ↦ Contains-append_right (files_of w) x.listing.files.items p (subst (λ (u : Visit). Contains u.listing.files.items p) (sym (is_only x f.visit new)) f.found)
  ])

  pub noted_more : HasNoted root (done ++ x ∷ []) v
  noted_more = record { same = notes.root ∙ was.same; listed = listed_more; dirs = dirs_more; files = files_more }

-- what was found is listed or isn't
listed_or_not : (w : Walk) (p : Path) → Contains (dirs_of w) p → IsListed w p ⊎ IsUnlisted w p
listed_or_not w p h =
    let o = Contains-unmap (λ (d : Path × Bool). d.0) w.dirs p h in
    by_mark o.origin.1 (subst (λ (q : Path). Contains w.dirs (q, o.origin.1)) o.is o.among)
  where
    by_mark : (b : Bool) → Contains w.dirs (p, b) → IsListed w p ⊎ IsUnlisted w p
    by_mark true k = inl k
    by_mark false k = inr k

-- each of these was found in a listing of its parent
pub record AreNext (root : Path) (all : List Visit) : Type 0 where
  pub visits : AreVisits root all
  pub lawful : All (λ v. IsListingOf v.dir v.listing) all
  pub order : InOrder all

-- the listing that is next is one of its directory
pub next_lawful : (all done rest : List Visit) (x : Visit) → All (λ v. IsListingOf v.dir v.listing) all → all ≡ done ++ x ∷ rest → IsListingOf x.dir x.listing
next_lawful all done rest x lawful is =
    All-at (λ (v : Visit). IsListingOf v.dir v.listing) all x lawful (subst (λ (l : List Visit). Contains l x) (sym is) (Contains-append_right done (x ∷ rest) x (Contains-head x rest)))

-- the directory that is next was found and isn't listed
pub next_unlisted : (root : Path) (all done rest : List Visit) (x : Visit) (w : Walk) → AreNext root all → all ≡ done ++ x ∷ rest → HasNoted root done w → IsUnlisted w x.dir
next_unlisted root all done rest x w next is noted =
    let here : Contains all x = subst (λ (l : List Visit). Contains l x) (sym is) (Contains-append_right done (x ∷ rest) x (Contains-head x rest)) in
    let found : Contains (dirs_of w) x.dir = noted.dirs x.dir (elim (next.visits.found x.dir (Contains-map (λ (v : Visit). v.dir) all x here)) [
      | inl e ↦ inl e
      | inr f ↦ inr (
          let lawful = All-at (λ (v : Visit). IsListingOf v.dir v.listing) all f.visit next.lawful f.among in
          let c = lawful.children x.dir (Contains-append_left f.visit.listing.dirs.items f.visit.listing.files.items x.dir f.found) in
          record {
            visit = f.visit;
            among = found_ahead done rest x f.visit c.0 (subst InOrder is next.order) (subst (λ (l : List Visit). Contains l f.visit) is f.among) c.1.is;
            found = f.found;
          }
          )
    ]) in
    elim (listed_or_not w x.dir found) [
      | inl on ↦ absurd (
          Distinct-across (dirs_listed done) (dirs_listed (x ∷ rest)) x.dir
          (subst (AllPairs (λ p q. p ≢ q)) (ap dirs_listed is ∙ map-append (λ (v : Visit). v.dir) done (x ∷ rest)) next.visits.once)
          ((noted.listed x.dir).0 on) (Contains-head x.dir (dirs_listed rest))
          )
      | inr off ↦ off
    ]

-- the same listings in another order
module _ (visits sorted : List Visit) (same : IsPermutation visits sorted) where
  dirs_same : IsPermutation (dirs_listed visits) (dirs_listed sorted)
  dirs_same = IsPermutation-map (λ (v : Visit). v.dir) visits sorted same

  visits_sorted : (root : Path) → AreVisits root visits → AreVisits root sorted
  visits_sorted root h = record {
    once = Distinct-permutation (dirs_listed visits) (dirs_listed sorted) dirs_same h.once;
    found = λ p k. elim (h.found p (Contains-permutation (dirs_listed sorted) (dirs_listed visits) p (IsPermutation-sym (dirs_listed visits) (dirs_listed sorted) dirs_same) k)) [
      | inl e ↦ inl e
      | inr f ↦ inr (record { visit = f.visit; among = Contains-permutation visits sorted f.visit same f.among; found = f.found })
    ];
  }

  pub noted_sorted : (root : Path) (w : Walk) → HasNoted root sorted w → HasNoted root visits w
  noted_sorted root w h = record {
    same = h.same;
    listed = λ p. (
      (λ k. Contains-permutation (dirs_listed sorted) (dirs_listed visits) p (IsPermutation-sym (dirs_listed visits) (dirs_listed sorted) dirs_same) ((h.listed p).0 k)),
      (λ k. (h.listed p).1 (Contains-permutation (dirs_listed visits) (dirs_listed sorted) p dirs_same k)),
    );
    dirs = λ p k. h.dirs p (elim k [
      | inl e ↦ inl e
      | inr f ↦ inr (record { visit = f.visit; among = Contains-permutation visits sorted f.visit same f.among; found = f.found })
    ]);
    files = λ p f. h.files p (record { visit = f.visit; among = Contains-permutation visits sorted f.visit same f.among; found = f.found });
  }

  -- they are noted in order
  pub are_next : (root : Path) → AreVisits root visits → All (λ v. IsListingOf v.dir v.listing) visits → InOrder sorted → AreNext root sorted
  are_next root h lawful order = record { visits = visits_sorted root h; lawful = All-permutation (λ (v : Visit). IsListingOf v.dir v.listing) visits sorted same lawful; order = order }

-- the listing that is next among the sorted ones
pub sorted_at : (all sorted done left rest : List Visit) (x : Visit) → all ≡ sorted → done ++ left ≡ all → left ≡ x ∷ rest → sorted ≡ done ++ x ∷ rest
sorted_at all sorted done left rest x gives whole steps = sym (ap (λ (l : List Visit). done ++ l) (sym steps) ∙ (whole ∙ gives))

pub none_left : {X : Type 0} (xs : List X) → length xs ≡ 0 → xs ≡ []
none_left [] none = refl
none_left (x ∷ xs) none = absurd (omega arith)

-- where none is left, all are done
pub all_yielded : (done left all sorted : List Visit) → done ++ left ≡ all → left ≡ [] → all ≡ sorted → done ≡ sorted
all_yielded done left all sorted whole none gives = sym (append-nil done) ∙ (ap (λ (l : List Visit). done ++ l) (sym none) ∙ (whole ∙ gives))
