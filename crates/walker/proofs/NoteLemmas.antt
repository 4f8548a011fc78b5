-- What a walk keeps when a directory is listed.
use Rattle.std.proofs.Common.{◌≡◌, ◌≢◌, ◌∙◌, Bool, true, false, List, [], ◌∷◌, ◌++◌, map, sym, ap, subst, refl, arith, inl, inr, ◌⊎◌, Contains}
use Rattle.std.specs.Prelude.{Some}
use Rattle.std.specs.String.{string_bytes}
use Rattle.std.specs.declared.string.String.{String}
use Rattle.std.proofs.lemmas.List.{map-append}
use Rattle.std.proofs.lemmas.List.Elements.{Contains-append_cases, Contains-append_left, Contains-append_right}
use Rattle.firefly_outside.specs.Trees.{Path, Contents, Directory, child}
use Rattle.firefly_outside.specs.declared.tree.Entry.{Entry}
use Rattle.firefly_outside.specs.declared.tree.Kind.{Kind}
use Rattle.firefly_outside.specs.declared.tree.Kind.TheVariants.{File, Dir}
use Rattle.walker.specs.Walk.{Walk, dirs_of, files_of, IsListed, IsUnlisted, HasListedParent, IsSound, new_walk, marked, IsNamed, IsSeen, IsWalkOf}
use Rattle.walker.specs.Listings.{IsListingOf, IsReportedBy, Notes}
use Rattle.walker.specs.declared.listing.Listing.{Listing}
use Rattle.walker.proofs.ListLemmas.{Distinct, Contains-head, Contains-nil, Contains-cons_cases, Contains-map, AllPairs-nil, AllPairs-append}
use Rattle.walker.proofs.WalkLemmas.{noted, dirs_of-noted, listed_stays, listed_now, listed_from, found_unlisted, child_is_below, AreNew-dirs, AreNew-files}

module _ (w : Walk) (dir : Path) (l : Listing) (names : List Path) (sound : IsSound w) (off : IsUnlisted w dir) (lawful : IsListingOf dir l) (are : map (child w.root) names ≡ l.files.items) where
  next : Walk
  next = noted w dir l.dirs.items names

  parent_stays : (p : Path) → HasListedParent w p → HasListedParent (noted w dir l.dirs.items names) p
  parent_stays p h = record { dir = h.dir; name = h.name; under = h.under; listed = listed_stays w dir l.dirs.items names h.dir h.listed }

  parent_now : (p : Path) → Contains (l.dirs.items ++ l.files.items) p → HasListedParent (noted w dir l.dirs.items names) p
  parent_now p h = let c = lawful.children p h in record { dir = dir; name = c.0; under = c.1; listed = listed_now w dir l.dirs.items names off }

  found_cases : (p : Path) → Contains (dirs_of (noted w dir l.dirs.items names)) p → Contains (dirs_of w) p ⊎ Contains l.dirs.items p
  found_cases p h = Contains-append_cases (dirs_of w) l.dirs.items p (subst (λ (ps : List Path). Contains ps p) (dirs_of-noted w dir l.dirs.items names) h)

  found_old : (p : Path) → Contains (dirs_of w) p → Contains (dirs_of (noted w dir l.dirs.items names)) p
  found_old p h = subst (λ (ps : List Path). Contains ps p) (sym (dirs_of-noted w dir l.dirs.items names)) (Contains-append_left (dirs_of w) l.dirs.items p h)

  found_new : (p : Path) → Contains l.dirs.items p → Contains (dirs_of (noted w dir l.dirs.items names)) p
  found_new p h = subst (λ (ps : List Path). Contains ps p) (sym (dirs_of-noted w dir l.dirs.items names)) (Contains-append_right (dirs_of w) l.dirs.items p h)

  files_are : files_of (noted w dir l.dirs.items names) ≡ files_of w ++ l.files.items
  files_are = map-append (child w.root) w.files names ∙ ap (λ ps. files_of w ++ ps) are

  pub IsSound-noted : IsSound (noted w dir l.dirs.items names)
  IsSound-noted =
      let dirs_new = AreNew-dirs w dir l sound off lawful in
      let files_new = AreNew-files w dir l names sound off lawful are in
      record {
        root = found_old w.root sound.root;
        dirs = subst Distinct (sym (dirs_of-noted w dir l.dirs.items names)) (AllPairs-append (λ x y. x ≢ y) (dirs_of w) l.dirs.items sound.dirs dirs_new.distinct (λ x y h k same. dirs_new.fresh y k (subst (λ (p : Path). Contains (dirs_of w) p) same h)));
        files = AllPairs-append (λ x y. x ≢ y) w.files names sound.files files_new.distinct (λ x y h k same. files_new.fresh y k (subst (λ (p : Path). Contains w.files p) same h));
        dir_parents = λ p h. elim (found_cases p h) [
          | inl was ↦ elim (sound.dir_parents p was) [ inl root ↦ inl root | inr parent ↦ inr (parent_stays p parent) ]
          | inr new ↦ inr (parent_now p (Contains-append_left l.dirs.items l.files.items p new))
        ];
        file_parents = λ p h. elim (Contains-append_cases w.files names p h) [
          | inl was ↦ parent_stays (child w.root p) (sound.file_parents p was)
          | inr new ↦ parent_now (child w.root p) (Contains-append_right l.dirs.items l.files.items (child w.root p) (subst (λ (ps : List Path). Contains ps (child w.root p)) are (Contains-map (child w.root) names p new)))
        ];
        below = λ p h. elim (found_cases p h) [
          | inl was ↦ sound.below p was
          | inr new ↦ (let c = lawful.children p (Contains-append_left l.dirs.items l.files.items p new) in inr (child_is_below w dir c.0 p sound (found_unlisted w dir off) c.1.is))
        ];
      }

  seen_stays : (t : Contents) (kind : Kind) (p : Path) → IsSeen t w kind p → IsSeen t (noted w dir l.dirs.items names) kind p
  seen_stays t kind p s = record { dir = s.dir; entries = s.entries; listed = listed_stays w dir l.dirs.items names s.dir s.listed; here = s.here; named = s.named }

  seen_now : (t : Contents) (reported : IsReportedBy t dir l) (kind : Kind) (p : Path) → IsNamed dir reported.entries kind p → IsSeen t (noted w dir l.dirs.items names) kind p
  seen_now t reported kind p n = record { dir = dir; entries = reported.entries; listed = listed_now w dir l.dirs.items names off; here = reported.here; named = n }

  seen_cases : (t : Contents) (reported : IsReportedBy t dir l) (kind : Kind) (p : Path) → IsSeen t (noted w dir l.dirs.items names) kind p → IsSeen t w kind p ⊎ IsNamed dir reported.entries kind p
  seen_cases t reported kind p s = elim (listed_from w dir l.dirs.items names s.dir s.listed) [
    | inl was ↦ inl (record { dir = s.dir; entries = s.entries; listed = was; here = s.here; named = s.named })
    | inr now ↦ (
        let both : Some (Directory s.entries) ≡ Some (Directory reported.entries) = sym s.here ∙ ap t now ∙ reported.here in
        let same : s.entries ≡ reported.entries = cc in
        inr (subst (λ (d : Path). IsNamed d reported.entries kind p) now (subst (λ (es : List Entry). IsNamed s.dir es kind p) same s.named)))
  ]

  pub IsWalkOf-noted : (t : Contents) → IsWalkOf w t → IsReportedBy t dir l → IsWalkOf (noted w dir l.dirs.items names) t
  IsWalkOf-noted t walk reported = record {
    listed = λ d h. elim (listed_from w dir l.dirs.items names d h) [
      | inl was ↦ walk.listed d was
      | inr now ↦ (reported.entries, ap t now ∙ reported.here)
    ];
    dirs = λ p. (
      λ h. elim (found_cases p h) [
        | inl was ↦ elim ((walk.dirs p).0 was) [ inl root ↦ inl root | inr s ↦ inr (seen_stays t Dir p s) ]
        | inr new ↦ inr (seen_now t reported Dir p ((reported.dirs p).0 new))
      ],
      λ h. elim h [
        | inl root ↦ found_old p ((walk.dirs p).1 (inl root))
        | inr s ↦ elim (seen_cases t reported Dir p s) [ inl was ↦ found_old p ((walk.dirs p).1 (inr was)) | inr n ↦ found_new p ((reported.dirs p).1 n) ]
      ],
    );
    files = λ p. (
      λ h. elim (Contains-append_cases (files_of w) l.files.items p (subst (λ (ps : List Path). Contains ps p) files_are h)) [
        | inl was ↦ seen_stays t File p ((walk.files p).0 was)
        | inr new ↦ seen_now t reported File p ((reported.files p).0 new)
      ],
      λ s. subst (λ (ps : List Path). Contains ps p) (sym files_are) (elim (seen_cases t reported File p s) [
        | inl was ↦ Contains-append_left (files_of w) l.files.items p ((walk.files p).1 was)
        | inr n ↦ Contains-append_right (files_of w) l.files.items p ((reported.files p).1 n)
      ]),
    );
  }

  pub Notes-noted : Notes w (noted w dir l.dirs.items names) dir l
  Notes-noted = record { root = refl; dirs = refl; files = files_are }

-- a new walk
pub IsSound-new : (root : Path) → IsSound (new_walk root)
IsSound-new root = record {
  root = Contains-head root [];
  dirs = λ i j d below within. absurd (omega arith);
  files = AllPairs-nil (λ x y. x ≢ y);
  dir_parents = λ p h. elim (Contains-cons_cases root [] p h) [ inl is ↦ inl (sym is) | inr m ↦ absurd (Contains-nil p m) ];
  file_parents = λ p h. absurd (Contains-nil p h);
  below = λ p h. elim (Contains-cons_cases root [] p h) [ inl is ↦ inl (sym is) | inr m ↦ absurd (Contains-nil p m) ];
}

none_listed : (root d : Path) → ¬ IsListed (new_walk root) d
none_listed root d h = elim (Contains-cons_cases (root, false) [] (d, true) h) [
  | inl is ↦ (let bad : false ≡ true = ap (λ (e : Path × Bool). e.1) is in cc)
  | inr m ↦ absurd (Contains-nil (d, true) m)
]

pub IsWalkOf-new : (root : Path) (t : Contents) → IsWalkOf (new_walk root) t
IsWalkOf-new root t = record {
  listed = λ d h. absurd (none_listed root d h);
  dirs = λ p. (
    λ h. elim (Contains-cons_cases root [] p h) [ inl is ↦ inl (sym is) | inr m ↦ absurd (Contains-nil p m) ],
    λ h. elim h [ inl is ↦ subst (λ (q : Path). Contains (root ∷ []) q) (sym is) (Contains-head root []) | inr s ↦ absurd (none_listed root s.dir s.listed) ],
  );
  files = λ p. (λ h. absurd (Contains-nil p h), λ s. absurd (none_listed root s.dir s.listed));
}

-- the parts of a new walk
pub is_new : (root name : Path) (dirs : List (Path × Bool)) (files : List Path) → name ≡ root → dirs ≡ (root, false) ∷ [] → files ≡ []
    → new_walk root ≡ record { root = name; dirs = dirs; files = files }
is_new root name dirs files e f g = λ i. record { root = sym e i; dirs = sym f i; files = sym g i }

-- the lists of a walk after the steps that note a listing
pub is_noted : (root dir : Path) (before marks after : List (Path × Bool)) (was now dirs names : List Path) → marks ≡ marked dir before → after ≡ marks ++ map (λ p. (p, false)) dirs → now ≡ was ++ names
    → noted (record { root = root; dirs = before; files = was }) dir dirs names ≡ record { root = root; dirs = after; files = now }
is_noted root dir before marks after was now dirs names e f g = λ i. record {
  root = root;
  dirs = (ap (λ l. l ++ map (λ p. (p, false)) dirs) (sym e) ∙ sym f) i;
  files = sym g i;
}

-- a walk whose maps hold what they held
pub kept_walk : (root : Path) (before after : List (Path × Bool)) (was now : List Path) → after ≡ before → now ≡ was
    → ◌≡◌ {A = Walk} (record { root = root; dirs = after; files = now }) (record { root = root; dirs = before; files = was })
kept_walk root before after was now e f = λ i. record { root = root; dirs = e i; files = f i }
