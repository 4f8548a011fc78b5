-- What a walk has found is what lies under the root.
use Rattle.std.proofs.Common.{◌≡◌, ◌≢◌, ℕ, ◌+◌, ◌<◌, ◌≤◌, Bool, true, false, List, ◌∷◌, length, sym, ap, subst, refl, arith, inl, inr, ⊎_elim, Contains, zero, suc}
use Rattle.std.specs.Bool.{nat_eq, Decides}
use Rattle.std.specs.Set.{is_member}
use Rattle.std.specs.Cmp.Lexicographic.{pointwise, nat_list_eq_equiv}
use Rattle.std.proofs.lemmas.Bool.Decides.{Decides-eqb}
use Rattle.std.proofs.lemmas.Slice.Eq.{slice_eq-Decides}
use Rattle.std.proofs.lemmas.List.{length-append, length-map}
use Rattle.std.proofs.lemmas.List.Kept.{AllPairs-cons}
use Rattle.std.proofs.lemmas.Map.Made.{IsDistinct-from_AllPairs, length-le_from_is_member, is_member-Decides}
use Rattle.firefly_outside.specs.Trees.{Path, Contents, child, slash}
use Rattle.firefly_outside.specs.Under.{IsUnder, at_root, by_entry, AreMany}
use Rattle.firefly_outside.specs.declared.tree.Kind.{Kind}
use Rattle.firefly_outside.specs.declared.tree.Kind.TheVariants.{File, Dir}
use Rattle.walker.specs.Walk.{Walk, dirs_of, files_of, IsListed, IsSound, IsSeen, IsWalkOf}
use Rattle.walker.specs.Progress.{IsListedWhole}
use Rattle.walker.proofs.ListLemmas.{Distinct, All-from, Contains-cons_cases, Contains-unmap, Distinct-map}
use Rattle.walker.proofs.WalkLemmas.{found_listed}
use Rattle.walker.proofs.Children.{child_name}

-- a seen path is reached where its directory is
seen_reached : (t : Contents) (w : Walk) (kind : Kind) (p : Path) → (s : IsSeen t w kind p) → IsUnder t w.root Dir s.dir → IsUnder t w.root kind p
seen_reached t w kind p s under = by_entry kind p s.dir s.entries s.named.entry under s.here s.named.among (sym s.named.called) s.named.is

seen_longer : (t : Contents) (w : Walk) (kind : Kind) (p : Path) → (s : IsSeen t w kind p) → length s.dir < length p
seen_longer t w kind p s = omega (arith, ap length s.named.is, length-append s.dir (slash ∷ s.named.entry.name))

reached_within : (n : ℕ) (t : Contents) (w : Walk) → IsWalkOf w t → (p : Path) → length p < n → Contains (dirs_of w) p → IsUnder t w.root Dir p
reached_within zero t w walk p short h = absurd (omega (arith, short))
reached_within (suc n) t w walk p short h = elim ((walk.dirs p).0 h) [
  | inl root ↦ at_root Dir p refl root
  | inr s ↦ seen_reached t w Dir p s (reached_within n t w walk s.dir (omega (arith, short, seen_longer t w Dir p s)) (found_listed w s.dir s.listed))
]

-- a directory found is reached
pub dir_reached : (t : Contents) (w : Walk) → IsWalkOf w t → (p : Path) → Contains (dirs_of w) p → IsUnder t w.root Dir p
dir_reached t w walk p h = reached_within (length p + 1) t w walk p (omega arith) h

-- a file found is reached
pub file_reached : (t : Contents) (w : Walk) → IsWalkOf w t → (p : Path) → Contains (files_of w) p → IsUnder t w.root File p
file_reached t w walk p h = let s = (walk.files p).0 h in seen_reached t w File p s (dir_reached t w walk s.dir (found_listed w s.dir s.listed))

-- where all is listed, what is reached is found
abbrev pub IsFoundAs : Walk → Kind → Path → Type 0
IsFoundAs w File p = Contains (files_of w) p
IsFoundAs w Dir p = Contains (dirs_of w) p

seen_found : (t : Contents) (w : Walk) → IsWalkOf w t → (kind : Kind) (p : Path) → IsSeen t w kind p → IsFoundAs w kind p
seen_found t w walk File p s = (walk.files p).1 s
seen_found t w walk Dir p s = (walk.dirs p).1 (inr s)

pub listed_if_found : (w : Walk) → IsListedWhole w → (p : Path) → Contains (dirs_of w) p → IsListed w p
listed_if_found w whole p h = from (Contains-unmap (λ (e : Path × Bool). e.0) w.dirs p h).origin.1 (Contains-unmap (λ (e : Path × Bool). e.0) w.dirs p h).origin.0 (Contains-unmap (λ (e : Path × Bool). e.0) w.dirs p h).among (Contains-unmap (λ (e : Path × Bool). e.0) w.dirs p h).is
  where
    from : (b : Bool) (q : Path) → Contains w.dirs (q, b) → q ≡ p → IsListed w p
    from true q among same = subst (λ (r : Path). Contains w.dirs (r, true)) same among
    from false q among same = absurd (whole q among)

pub found_if_reached : (t : Contents) (w : Walk) → IsWalkOf w t → IsListedWhole w → (kind : Kind) (p : Path) → IsUnder t w.root kind p → IsFoundAs w kind p
found_if_reached t w walk whole kind p (at_root k q is root) = subst (λ (j : Kind). IsFoundAs w j p) (sym is) ((walk.dirs p).1 (inl root))
found_if_reached t w walk whole kind p (by_entry k q dir es e under here among called is) =
    let listed = listed_if_found w whole dir (found_if_reached t w walk whole Dir dir under) in
    seen_found t w walk kind p (record { dir = dir; entries = es; listed = listed; here = here; named = record { entry = e; among = among; called = sym called; is = is } })

-- distinct paths among those of a list are at most as many
pub few_paths : (ps qs : List Path) → Distinct ps → ((p : Path) → Contains ps p → Contains qs p) → length ps ≤ length qs
few_paths ps qs apart among = length-le_from_is_member nat_list_eq_equiv ps qs (IsDistinct-from_AllPairs decides ps apart)
    (λ p h. (is_member-Decides decides qs p).1 (among p ((is_member-Decides decides ps p).0 h)))
  where
    decides : (a b : Path) → Decides (pointwise nat_eq a b) (a ≡ b)
    decides a b = slice_eq-Decides Decides-eqb a b (pointwise nat_eq a b) refl

-- as many distinct paths among those of a list are all of them
pub all_paths : (ps qs : List Path) → Distinct ps → ((p : Path) → Contains ps p → Contains qs p) → length ps ≡ length qs → (p : Path) → Contains qs p → Contains ps p
all_paths ps qs apart among many p h = by (is_member (pointwise nat_eq) ps p) (is_member-Decides decides ps p)
  where
    decides : (a b : Path) → Decides (pointwise nat_eq a b) (a ≡ b)
    decides a b = slice_eq-Decides Decides-eqb a b (pointwise nat_eq a b) refl

    by : (b : Bool) → Decides b (Contains ps p) → Contains ps p
    by true d = d.0 refl
    by false d =
        let more = few_paths (p ∷ ps) qs (AllPairs-cons (λ x y. x ≢ y) p ps (All-from (λ y. p ≢ y) ps (λ y k same. (let e : false ≡ true = d.1 (subst (Contains ps) (sym same) k) in cc))) apart)
        (λ q k. ⊎_elim (λ (is : p ≡ q). subst (Contains qs) is h) (λ (m : Contains ps q). among q m) (Contains-cons_cases p ps q k)) in
        absurd (omega (arith, more, many))

-- there are no more directories and files under the root than were found
pub few_dirs : (t : Contents) (w : Walk) (n : ℕ) → IsWalkOf w t → IsListedWhole w → length w.dirs ≤ n → ¬ AreMany t w.root Dir (n + 1)
few_dirs t w n walk whole within many =
    absurd (omega (arith, many.enough, within, length-map w.dirs (λ (e : Path × Bool). e.0), few_paths many.paths (dirs_of w) many.distinct (λ p h. found_if_reached t w walk whole Dir p (many.under p h))))

pub few_files : (t : Contents) (w : Walk) (n : ℕ) → IsWalkOf w t → IsListedWhole w → length w.files ≤ n → ¬ AreMany t w.root File (n + 1)
few_files t w n walk whole within many =
    absurd (omega (arith, many.enough, within, length-map w.files (child w.root), few_paths many.paths (files_of w) many.distinct (λ p h. found_if_reached t w walk whole File p (many.under p h))))

-- the directories and files found are as many under the root
pub many_dirs : (t : Contents) (w : Walk) (n : ℕ) → IsSound w → IsWalkOf w t → n ≤ length w.dirs → AreMany t w.root Dir n
many_dirs t w n sound walk enough = record {
  paths = dirs_of w;
  under = dir_reached t w walk;
  distinct = sound.dirs;
  enough = omega (arith, enough, length-map w.dirs (λ (e : Path × Bool). e.0));
}

pub Distinct-files_of : (w : Walk) → IsSound w → Distinct (files_of w)
Distinct-files_of w sound = Distinct-map (child w.root) w.files (λ x y h k same. child_name w.root x y same) sound.files

pub many_files : (t : Contents) (w : Walk) (n : ℕ) → IsSound w → IsWalkOf w t → n ≤ length w.files → AreMany t w.root File n
many_files t w n sound walk enough = record {
  paths = files_of w;
  under = file_reached t w walk;
  distinct = Distinct-files_of w sound;
  enough = omega (arith, enough, length-map w.files (child w.root));
}
