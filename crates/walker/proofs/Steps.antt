-- Steps of the walk that lists the rest.
use Rattle.std.proofs.Common.{◌≡◌, ◌≢◌, ◌∙◌, ℕ, ◌+◌, ◌<◌, ◌≤◌, Bool, true, false, ◌||◌, List, [], ◌∷◌, ◌++◌, length, map, sym, ap, subst, refl, arith, inl, inr, ◌⊎◌, Contains, AllPairs, get_or, take, slice_get, zero, suc}
use Rattle.std.specs.Prelude.{Option, Some, None, IfSome, Result, Ok, Err, OnOk, IfOk}
use Rattle.std.proofs.lemmas.List.{append_assoc, append-nil, get_or_default, take_more, take-append-le, length-map, length-take}
use Rattle.std.proofs.lemmas.List.Elements.{Contains-push, Contains-push_cases, Contains-append_left}
use Rattle.std.proofs.lemmas.List.Quantifiers.{all_pairs_push}
use Rattle.firefly_outside.specs.Trees.{Path, Contents, Calls, child, IsFault}
use Rattle.firefly_outside.specs.Under.{IsThere, IsUnder, AreMany}
use Rattle.firefly_outside.specs.declared.tree.Kind.TheVariants.{File, Dir}
use Rattle.walker.specs.Walk.{Walk, dirs_of, IsListed, IsUnlisted, IsSound, IsWalkOf, marked}
use Rattle.walker.specs.Listings.{Notes, IsReportedBy, ListsDir, with_listed}
use Rattle.walker.specs.Closing.{CallsOnce, IsDone, failed_by, IsNumbered, HasRisen}
use Rattle.walker.specs.Progress.{IsWithinLimits, IsPassed, ListsMore, KeptLimits, StopsListing, ListsOne, ListsAt, ListsRest, IsListedBelow, IsListedWhole, Grows, StepStays}
use Rattle.firefly_outside.specs.declared.tree.TreeError.TheVariants as TreeError
use Rattle.std.specs.Bool.{nat_eq}
use Rattle.std.specs.Cmp.Lexicographic.{pointwise}
use Rattle.std.proofs.lemmas.Bool.Decides.{Decides-eqb}
use Rattle.std.proofs.lemmas.Slice.Eq.{slice_eq-Decides}
use Rattle.std.proofs.lemmas.Option.{slice_get_cases}
use Rattle.std.proofs.lemmas.Grind.{common_steps}
use Rattle.walker.proofs.Children.{child_name}
use Rattle.walker.specs.declared.listing.Listing.{Listing}
use Rattle.walker.specs.declared.answer.WalkAnswer.{WalkAnswer}
use Rattle.walker.specs.declared.answer.WalkAnswer.TheVariants.{Done, Stopped, ReadFault, TooMany, Memory}
use Rattle.walker.proofs.ListLemmas.{HasOrigin, Contains-nil, Contains-map, Contains-unmap, AllPairs-nil}
use Rattle.walker.proofs.WalkLemmas.{listed_stays, listed_now, listed_from, listed_once, found_listed, found_unlisted}
use Rattle.walker.proofs.Reached.{dir_reached, many_dirs, many_files}

-- nothing was called yet
pub ListsMore-refl : (w : Walk) (c : Calls) → ListsMore w w c c
ListsMore-refl w c = record {
  dirs = [];
  listed = sym (append-nil c.listed);
  read = refl;
  failed = refl;
  once = AllPairs-nil (λ p q. p ≢ q);
  fresh = λ p h. absurd (Contains-nil p h);
  marks = λ p h. absurd (Contains-nil p h);
  stays = λ p h. h;
  only = λ p h. inl h;
}

noted_listed : (old new : Walk) (dir : Path) (l : Listing) → Notes old new dir l → (d : Path) → IsListed old d → IsListed new d
noted_listed old new dir l n d h = subst (λ (ds : List (Path × Bool)). Contains ds (d, true)) (sym n.dirs) (listed_stays old dir l.dirs.items [] d h)

noted_from : (old new : Walk) (dir : Path) (l : Listing) → Notes old new dir l → (d : Path) → IsListed new d → IsListed old d ⊎ (d ≡ dir)
noted_from old new dir l n d h = listed_from old dir l.dirs.items [] d (subst (λ (ds : List (Path × Bool)). Contains ds (d, true)) n.dirs h)

noted_now : (old new : Walk) (dir : Path) (l : Listing) → Notes old new dir l → IsUnlisted old dir → IsListed new dir
noted_now old new dir l n off = subst (λ (ds : List (Path × Bool)). Contains ds (dir, true)) (sym n.dirs) (listed_now old dir l.dirs.items [] off)

-- what was listed since the start is under the root
pub listed_under : (t : Contents) (first w : Walk) (start before : Calls) → IsWalkOf w t → first.root ≡ w.root → (m : ListsMore first w start before) → (p : Path) → Contains m.dirs p → IsUnder t first.root Dir p
listed_under t first w start before walk root m p h = subst (λ (r : Path). IsUnder t r Dir p) (sym root) (dir_reached t w walk p (found_listed w p (m.marks p h)))

-- one more directory among those listed since the start
module _ (first old : Walk) (start before : Calls) (dir : Path) (sound : IsSound old) (off : IsUnlisted old dir) (m : ListsMore first old start before) where
  pub more_once : AllPairs (λ p q. p ≢ q) (m.dirs ++ dir ∷ [])
  more_once = all_pairs_push (λ p q. p ≢ q) m.dirs dir m.once
      (λ k d within same. listed_once old dir sound (subst (IsListed old) same (m.marks (get_or m.dirs k d) (k, within, get_or_default m.dirs k _ d within))) off)

  pub more_fresh : (p : Path) → Contains (m.dirs ++ dir ∷ []) p → ¬ IsListed first p
  more_fresh p h on = elim (Contains-push_cases m.dirs dir p h) [
    | inl was ↦ m.fresh p was on
    | inr now ↦ listed_once old dir sound (subst (IsListed old) (sym now) (m.stays p on)) off
  ]

  pub ListsMore-next : (new : Walk) (l : Listing) (now : Calls) → Notes old new dir l → now ≡ with_listed before dir → ListsMore first new start now
  ListsMore-next new l now n is = record {
    dirs = m.dirs ++ dir ∷ [];
    listed = ap (λ (c : Calls). c.listed) is ∙ ap (λ ds. ds ++ dir ∷ []) m.listed ∙ append_assoc start.listed m.dirs (dir ∷ []);
    read = ap (λ (c : Calls). c.files_read) is ∙ m.read;
    failed = ap (λ (c : Calls). c.failed) is ∙ m.failed;
    once = more_once;
    fresh = more_fresh;
    marks = λ p h. elim (Contains-push_cases m.dirs dir p h) [
      | inl was ↦ noted_listed old new dir l n p (m.marks p was)
      | inr here ↦ subst (IsListed new) here (noted_now old new dir l n off)
    ];
    stays = λ p h. noted_listed old new dir l n p (m.stays p h);
    only = λ p h. elim (noted_from old new dir l n p h) [
      | inl was ↦ elim (m.only p was) [ inl early ↦ inl early | inr among ↦ inr (Contains-append_left m.dirs (dir ∷ []) p among) ]
      | inr is ↦ inr (subst (λ (q : Path). Contains (m.dirs ++ dir ∷ []) q) (sym is) (Contains-push m.dirs dir))
    ];
  }

  -- memory wants after a listing
  pub CallsOnce-listed : (t : Contents) (now : Calls) (covered : List Path) → IsWalkOf old t → first.root ≡ old.root → now ≡ with_listed before dir → CallsOnce t first covered start now Memory
  CallsOnce-listed t now covered walk root is = record {
    dirs = m.dirs ++ dir ∷ [];
    listed = ap (λ (c : Calls). c.listed) is ∙ ap (λ ds. ds ++ dir ∷ []) m.listed ∙ append_assoc start.listed m.dirs (dir ∷ []);
    dirs_once = more_once;
    dirs_new = more_fresh;
    dirs_under = λ p h. elim (Contains-push_cases m.dirs dir p h) [
      | inl was ↦ listed_under t first old start before walk root m p was
      | inr here ↦ subst (λ (r : Path). IsUnder t r Dir p) (sym root) (dir_reached t old walk p (subst (λ (q : Path). Contains (dirs_of old) q) here (found_unlisted old dir off)))
    ];
    dirs_all = λ done. absurd done;
    files = [];
    read = ap (λ (c : Calls). c.files_read) is ∙ m.read ∙ sym (append-nil start.files_read);
    files_once = AllPairs-nil (λ p q. p ≢ q);
    files_new = λ p h k. Contains-nil (child first.root p) k;
    files_under = λ p h. absurd (Contains-nil p h);
    files_all = λ done. absurd done;
    failed = ap (λ (c : Calls). c.failed) is ∙ m.failed ∙ sym (append-nil start.failed);
  }

-- the calls since the start where the answer adds these failed ones
pub CallsOnce-listing : (t : Contents) (first w : Walk) (start before now : Calls) (covered : List Path) (answer : WalkAnswer) → IsWalkOf w t → first.root ≡ w.root → ¬ IsDone answer → ListsMore first w start before
    → now ≡ record before { failed = before.failed ++ failed_by answer } → CallsOnce t first covered start now answer
CallsOnce-listing t first w start before now covered answer walk root undone m is = record {
  dirs = m.dirs;
  listed = ap (λ (c : Calls). c.listed) is ∙ m.listed;
  dirs_once = m.once;
  dirs_new = m.fresh;
  dirs_under = listed_under t first w start before walk root m;
  dirs_all = λ done. absurd (undone done);
  files = [];
  read = ap (λ (c : Calls). c.files_read) is ∙ m.read ∙ sym (append-nil start.files_read);
  files_once = AllPairs-nil (λ p q. p ≢ q);
  files_new = λ p h k. Contains-nil (child first.root p) k;
  files_under = λ p h. absurd (Contains-nil p h);
  files_all = λ done. absurd (undone done);
  failed = ap (λ (c : Calls). c.failed) is ∙ ap (λ ps. ps ++ failed_by answer) m.failed;
}

same_calls : (c : Calls) → c ≡ record c { failed = c.failed ++ [] }
same_calls c = ap (λ ps. record c { failed = ps }) (sym (append-nil c.failed))

-- a directory that can't be listed
pub Stops-fault : (old : Walk) (dir : Path) (weak : List Path) (before now : Calls) (t : Contents) → IsUnlisted old dir → IsFault weak dir (IsThere t Dir dir) before now → StopsListing old weak before now (ReadFault dir) t
Stops-fault old dir weak before now t off fault sound walk first start root m stop = (
  record { kind = Dir; under = subst (λ r. IsUnder t r Dir dir) (sym root) (dir_reached t old walk dir (found_unlisted old dir off)); may = fault.may },
  λ covered. CallsOnce-listing t first old start before now covered (ReadFault dir) walk root (λ done. done) m fault.noted,
  λ limits. record {
    walk = old;
    calls = before;
    reached = record { sound = sound; reported = walk; more = m };
    limits = limits;
    listed = ap (λ (c : Calls). c.listed) fault.noted;
  },
)

-- memory wants
pub Stops-memory : (old : Walk) (dir : Path) (weak : List Path) (before now : Calls) (t : Contents) → IsUnlisted old dir → (now ≡ before) ⊎ (now ≡ with_listed before dir) → StopsListing old weak before now Memory t
Stops-memory old dir weak before now t off (inl same) sound walk first start root m stop = (tt, λ covered. CallsOnce-listing t first old start before now covered Memory walk root (λ done. done) m (same ∙ same_calls before), λ limits. tt)
Stops-memory old dir weak before now t off (inr more) sound walk first start root m stop = (tt, λ covered. CallsOnce-listed first old start before dir sound off m t now covered walk root more, λ limits. tt)

-- a limit is passed
pub Stops-passed : (first w : Walk) (stop : Option ℕ) (weak : List Path) (start now : Calls) (t : Contents) (answer : WalkAnswer) → IsSound w → IsWalkOf w t → first.root ≡ w.root → ListsMore first w start now
    → (now.listed ≡ start.listed) ⊎ KeptLimits first stop start now t → IsPassed w stop answer → ListsRest {T = Unit {0}} first w stop weak start now (Err answer) t
Stops-passed first w stop weak start now t (Done piece) sound walk root m earlier p = absurd p
Stops-passed first w stop weak start now t (Stopped many) sound walk root m earlier p = (
  subst (λ r. AreMany t r File many) (sym root) (many_files t w many sound walk (omega (arith, p.1.2, p.1.3))),
  λ covered. CallsOnce-listing t first w start now now covered (Stopped many) walk root (λ done. done) m (same_calls now),
  record { walk = w; reached = record { sound = sound; reported = walk; more = m }; passed = p; earlier = earlier },
)
Stops-passed first w stop weak start now t (ReadFault path) sound walk root m earlier p = absurd p
Stops-passed first w stop weak start now t (TooMany many) sound walk root m earlier p = (
  subst (λ r. AreMany t r Dir many) (sym root) (many_dirs t w many sound walk (omega (arith, p.0, p.1))),
  λ covered. CallsOnce-listing t first w start now now covered (TooMany many) walk root (λ done. done) m (same_calls now),
  record { walk = w; reached = record { sound = sound; reported = walk; more = m }; passed = p; earlier = earlier },
)
Stops-passed first w stop weak start now t Memory sound walk root m earlier p = absurd p

-- an element at a place
pub some_at : {X : Type 0} (xs : List X) (i : ℕ) (x : X) → slice_get xs i ≡ Some x → (i < length xs) × (get_or xs i x ≡ x)
some_at xs i x here = elim (slice_get_cases xs i).1 [
  | inl c ↦ (
      let both : Some c.0 ≡ Some x = sym c.2 ∙ here in
      let same : c.0 ≡ x = cc in
      (c.1, subst (λ y. get_or xs i y ≡ y) same c.3))
  | inr c ↦ (let bad : None ≡ Some x = sym c.1 ∙ here in cc)
]

take-mark : (dir : Path) (n : ℕ) (ds : List (Path × Bool)) → take n (marked dir ds) ≡ marked dir (take n ds)
take-mark dir zero ds = refl
take-mark dir (suc n) [] = refl
take-mark dir (suc n) (d ∷ ds) = ap (λ l. (d.0, d.1 || pointwise nat_eq dir d.0) ∷ l) (take-mark dir n ds)

-- the places before and at this one are listed
pub below_next : (old new : Walk) (dir : Path) (l : Listing) (at : ℕ) → Notes old new dir l → slice_get old.dirs at ≡ Some (dir, false) → IsListedBelow old at → IsListedBelow new (at + 1)
below_next old new dir l at n here below p h =
    let s = some_at old.dirs at (dir, false) here in
    let long : at + 1 ≤ length (marked dir old.dirs) = omega (arith, s.0, length-map {B = Path × Bool} old.dirs (λ (d : Path × Bool). (d.0, d.1 || pointwise nat_eq dir d.0))) in
    let prefix : take (at + 1) new.dirs ≡ marked dir (take at old.dirs ++ (dir, false) ∷ []) =
    ap (take (at + 1)) n.dirs ∙ take-append-le (at + 1) (marked dir old.dirs) (map (λ p. (p, false)) l.dirs.items) long ∙ take-mark dir (at + 1) old.dirs
    ∙ ap (marked dir) (take_more old.dirs at (dir, false) s.0 ∙ ap (λ (e : Path × Bool). take at old.dirs ++ e ∷ []) s.1) in
    from (Contains-unmap (λ (d : Path × Bool). (d.0, d.1 || pointwise nat_eq dir d.0)) (take at old.dirs ++ (dir, false) ∷ []) (p, false) (subst (λ (ds : List (Path × Bool)). Contains ds (p, false)) prefix h))
  where
    no : (b : Bool) (q : Path) → Contains (take at old.dirs ++ (dir, false) ∷ []) (q, b) → (b || pointwise nat_eq dir q) ≡ false → ⊥
    no true q among off = cc
    no false q among off = elim (Contains-push_cases (take at old.dirs) (dir, false) (q, false) among) [
      | inl was ↦ below q was
      | inr is ↦ (
          let same : dir ≡ q = ap (λ (e : Path × Bool). e.0) is in
          let on : pointwise nat_eq dir q ≡ true = (slice_eq-Decides Decides-eqb dir q (pointwise nat_eq dir q) refl).1 same in
          let bad : true ≡ false = sym on ∙ off in cc)
    ]

    from : HasOrigin {Y = Path × Bool} (λ (d : Path × Bool). (d.0, d.1 || pointwise nat_eq dir d.0)) (take at old.dirs ++ (dir, false) ∷ []) (p, false) → ⊥
    from o = no o.origin.1 o.origin.0 o.among (ap (λ (e : Path × Bool). e.1) o.is)

pub below_same : (w : Walk) (at : ℕ) → at < length w.dirs → ((p : Path) → slice_get w.dirs at ≢ Some (p, false)) → IsListedBelow w at → IsListedBelow w (at + 1)
below_same w at within listed below p h = elim (slice_get_cases w.dirs at).1 [
  | inl c ↦ elim (Contains-push_cases (take at w.dirs) c.0 (p, false) (subst (λ (ds : List (Path × Bool)). Contains ds (p, false)) (take_more w.dirs at c.0 within ∙ ap (λ (e : Path × Bool). take at w.dirs ++ e ∷ []) c.3) h)) [
    | inl was ↦ below p was
    | inr is ↦ listed p (c.2 ∙ ap (λ (e : Path × Bool). Some e) is)
  ]
  | inr c ↦ absurd (omega (arith, c.0, within))
]

pub below_all : (w : Walk) (at : ℕ) → length w.dirs ≤ at → IsListedBelow w at → IsListedWhole w
below_all w at end below p h =
    let all : take at w.dirs ≡ w.dirs = grind (arith, common_steps) in
    below p (subst (λ (ds : List (Path × Bool)). Contains ds (p, false)) (sym all) h)

pub below_none : (w : Walk) → IsListedBelow w 0
below_none w p h = absurd (omega (arith, h.1, length-take 0 w.dirs))

pub Grows-noted : (old new : Walk) (dir : Path) (l : Listing) → Notes old new dir l → Grows old new
Grows-noted old new dir l n = record {
  root = n.root;
  files = λ p h.
      let o = Contains-unmap (child old.root) new.files (child old.root p) (subst (λ (ps : List Path). Contains ps (child old.root p)) (sym n.files) (Contains-append_left (map (child old.root) old.files) l.files.items (child old.root p) (Contains-map (child old.root) old.files p h))) in
      subst (λ (q : Path). Contains new.files q) (child_name old.root o.origin p o.is) o.among;
}

-- the same, where the tree may tell
module _ (o : Option Contents) (old new : Walk) (dir path : Path) (weak : List Path) (before now : Calls) (off : IsUnlisted old dir) (same : path ≡ dir) where
  pub reported_ok : (l : Listing) → IfSome o (ListsDir weak path before now (Ok l)) → Notes old new path l → ((t : Contents) → IsWalkOf old t → IsReportedBy t path l → IsWalkOf new t)
      → IfSome o (ListsAt {T = Unit {0}} old new weak before now (Ok tt))
  reported_ok l h n keeps = at o h
    where
      at : (q : Option Contents) → IfSome q (ListsDir weak path before now (Ok l)) → IfSome q (ListsAt {T = Unit {0}} old new weak before now (Ok tt))
      at None k = tt
      at (Some t) k = (
        λ walk. keeps t walk k.0,
        λ sound first start m. ListsMore-next first old start before path sound (subst (IsUnlisted old) (sym same) off) m new l now n k.1,
        inr (path, ap (λ (c : Calls). c.listed) k.1),
      )

  pub reported_unnoted : (l : Listing) → IfSome o (ListsDir weak path before now (Ok l)) → IfSome o (ListsAt {T = Unit {0}} old new weak before now (Err Memory))
  reported_unnoted l h = at o h
    where
      at : (q : Option Contents) → IfSome q (ListsDir weak path before now (Ok l)) → IfSome q (ListsAt {T = Unit {0}} old new weak before now (Err Memory))
      at None k = tt
      at (Some t) k = Stops-memory old path weak before now t (subst (IsUnlisted old) (sym same) off) (inr k.1)

  pub reported_memory : IfSome o (ListsDir weak path before now (Err TreeError.Memory)) → IfSome o (ListsAt {T = Unit {0}} old new weak before now (Err Memory))
  reported_memory h = at o h
    where
      at : (q : Option Contents) → IfSome q (ListsDir weak path before now (Err TreeError.Memory)) → IfSome q (ListsAt {T = Unit {0}} old new weak before now (Err Memory))
      at None k = tt
      at (Some t) k = Stops-memory old path weak before now t (subst (IsUnlisted old) (sym same) off) k

  pub reported_fault : IfSome o (ListsDir weak path before now (Err TreeError.Failed)) → IfSome o (ListsAt {T = Unit {0}} old new weak before now (Err (ReadFault dir)))
  reported_fault h = at o h
    where
      at : (q : Option Contents) → IfSome q (ListsDir weak path before now (Err TreeError.Failed)) → IfSome q (ListsAt {T = Unit {0}} old new weak before now (Err (ReadFault dir)))
      at None k = tt
      at (Some t) k = Stops-fault old dir weak before now t off (subst (λ (p : Path). IsFault weak p (IsThere t Dir p) before now) same k)

-- the same, where nothing is done
pub reported_same : (o : Option Contents) (w : Walk) (weak : List Path) (calls : Calls) → IfSome o (ListsAt {T = Unit {0}} w w weak calls calls (Ok tt))
reported_same None w weak calls = tt
reported_same (Some t) w weak calls = (λ walk. walk, λ sound first start m. m, inl (refl, refl))

pub reported_unread : (o : Option Contents) (w : Walk) (dir : Path) (weak : List Path) (calls : Calls) → IsUnlisted w dir → IfSome o (ListsAt {T = Unit {0}} w w weak calls calls (Err Memory))
reported_unread None w dir weak calls off = tt
reported_unread (Some t) w dir weak calls off = Stops-memory w dir weak calls calls t off (inl refl)

pub unlisted_from : (w : Walk) (at : ℕ) (dir : Path) → slice_get w.dirs at ≡ Some (dir, false) → IsUnlisted w dir
unlisted_from w at dir here = let s = some_at w.dirs at (dir, false) here in (at, s.0, s.1)

pub Grows-refl : (w : Walk) → Grows w w
Grows-refl w = record { root = refl; files = λ p h. h }

pub Grows-trans : (a b c : Walk) → Grows a b → Grows b c → Grows a c
Grows-trans a b c f g = record { root = g.root ∙ f.root; files = λ p h. g.files p (f.files p h) }

-- what a walk has told since its start, where the tree tells
abbrev pub IsGoing : Walk → Walk → Calls → Calls → Contents → Type 0
IsGoing first w start now t = IsWalkOf w t × ListsMore first w start now

pub going_next : (o : Option Contents) (first old new : Walk) (weak : List Path) (start before now : Calls) → IsSound old → IfSome o (IsGoing first old start before) → IfSome o (ListsAt {T = Unit {0}} old new weak before now (Ok tt)) → IfSome o (IsGoing first new start now)
going_next None first old new weak start before now sound g h = tt
going_next (Some t) first old new weak start before now sound g h = (h.0 g.0, h.1 sound first start g.1)

pub rest_stopped : (o : Option Contents) (first old new : Walk) (stop : Option ℕ) (weak : List Path) (start before now : Calls) (answer : WalkAnswer) → IsSound old → IsWithinLimits old stop → Grows first old → IfSome o (IsGoing first old start before)
    → IfSome o (ListsAt {T = Unit {0}} old new weak before now (Err answer)) → IfSome o (ListsRest {T = Unit {0}} first new stop weak start now (Err answer))
rest_stopped None first old new stop weak start before now answer sound limits grows g h = tt
rest_stopped (Some t) first old new stop weak start before now answer sound limits grows g h =
    let s = h sound g.0 first start (sym grows.root) g.1 stop in
    (s.0, s.1, s.2 limits)

-- a walk within its limits passes none
within_passes_none : (w : Walk) (stop : Option ℕ) (answer : WalkAnswer) → IsWithinLimits w stop → IsPassed w stop answer → ⊥
within_passes_none w stop (Done piece) limits p = p
within_passes_none w stop (Stopped many) limits p = absurd (omega (arith, limits.files p.1.0 p.1.1, p.1.3))
within_passes_none w stop (ReadFault path) limits p = p
within_passes_none w stop (TooMany many) limits p = absurd (omega (arith, limits.dirs, p.1))
within_passes_none w stop Memory limits p = p

-- what a walk has told that passed no limit before its last listing
abbrev pub IsPassing : Walk → Walk → Option ℕ → Calls → Calls → Contents → Type 0
IsPassing first w stop start now t = IsGoing first w start now t × ((now.listed ≡ start.listed) ⊎ KeptLimits first stop start now t)

pub passing_start : (o : Option Contents) (w : Walk) (stop : Option ℕ) (calls : Calls) → IfSome o (IsWalkOf w) → IfSome o (IsPassing w w stop calls calls)
passing_start None w stop calls h = tt
passing_start (Some t) w stop calls h = ((h, ListsMore-refl w calls), inl refl)

pub passing_next : (o : Option Contents) (first old new : Walk) (stop : Option ℕ) (weak : List Path) (start before now : Calls) (answer : WalkAnswer) → IsSound old → IsWithinLimits old stop → IsPassed new stop answer
    → IfSome o (IsGoing first old start before) → IfSome o (ListsAt {T = Unit {0}} old new weak before now (Ok tt)) → IfSome o (IsPassing first new stop start now)
passing_next None first old new stop weak start before now answer sound limits p g h = tt
passing_next (Some t) first old new stop weak start before now answer sound limits p g h = ((h.0 g.0, h.1 sound first start g.1), kept h.2)
  where
    kept : ListsOne old new before now → (now.listed ≡ start.listed) ⊎ KeptLimits first stop start now t
    kept (inl same) = absurd (within_passes_none old stop answer limits (subst (λ (v : Walk). IsPassed v stop answer) same.0 p))
    kept (inr one) = inr (record { walk = old; calls = before; reached = record { sound = sound; reported = g.0; more = g.1 }; limits = limits; last = one.0; listed = one.1 })

pub rest_passed : (o : Option Contents) (first w : Walk) (stop : Option ℕ) (weak : List Path) (start now : Calls) (answer : WalkAnswer) → IsSound w → Grows first w → IfSome o (IsPassing first w stop start now)
    → IsPassed w stop answer → IfSome o (ListsRest {T = Unit {0}} first w stop weak start now (Err answer))
rest_passed None first w stop weak start now answer sound grows g p = tt
rest_passed (Some t) first w stop weak start now answer sound grows g p = Stops-passed first w stop weak start now t answer sound g.0.0 (sym grows.root) g.0.1 g.1 p

pub passed_numbers : (w : Walk) (stop : Option ℕ) (answer : WalkAnswer) → IsPassed w stop answer → IsNumbered stop answer
passed_numbers w stop (Done piece) p = absurd p
passed_numbers w stop (Stopped many) p = (p.1.0, p.1.1, p.1.2)
passed_numbers w stop (ReadFault path) p = absurd p
passed_numbers w stop (TooMany many) p = p.0
passed_numbers w stop Memory p = absurd p

-- a limit that is passed leaves the count
pub passed_counts : (w : Walk) (stop : Option ℕ) (answer : WalkAnswer) (count : ℕ) → IsPassed w stop answer → HasRisen count count answer
passed_counts w stop (Done piece) count p = absurd p
passed_counts w stop (Stopped many) count p = refl
passed_counts w stop (ReadFault path) count p = absurd p
passed_counts w stop (TooMany many) count p = refl
passed_counts w stop Memory count p = absurd p

-- an end after steps that left all as it was
pub stays_then : {T U : Type 0} {tree mid reported : Option Contents} {weak between vague : List Path} {before middle now : ℕ} {answer : WalkAnswer} → mid ≡ tree → between ≡ weak → middle ≡ before
    → StepStays {T = T} mid reported between vague middle now (Err answer) → StepStays {T = U} tree reported weak vague before now (Err answer)
stays_then {now} {answer} tree weak count h = record { tree = h.tree ∙ tree; weak = h.weak ∙ weak; count = subst (λ (n : ℕ). HasRisen n now answer) count h.count }

-- an end at a limit after steps that left all as it was
pub stays_passed : {T : Type 0} {tree reported : Option Contents} {weak vague : List Path} {before now : ℕ} → reported ≡ tree → vague ≡ weak → now ≡ before
    → (w : Walk) (stop : Option ℕ) (answer : WalkAnswer) → IsPassed w stop answer → StepStays {T = T} tree reported weak vague before now (Err answer)
stays_passed {before} tree weak count w stop answer passed = record { tree = tree; weak = weak; count = subst (λ (n : ℕ). HasRisen before n answer) (sym count) (passed_counts w stop answer before passed) }

pub OnOk-map : {T E : Type 0} (r : Result T E) (P Q : Type 0) → (P → Q) → OnOk r P → OnOk r Q
OnOk-map (Ok v) P Q f h = f h
OnOk-map (Err e) P Q f h = tt

pub IfOk-map : {T E : Type 0} (r : Result T E) (P Q : T → Type 0) → ((x : T) → P x → Q x) → IfOk r P → IfOk r Q
IfOk-map (Ok v) P Q f h = f v h
IfOk-map (Err e) P Q f h = tt

-- a step over a tree that tells the same
pub moved_step : (o q : Option Contents) (old new : Walk) (weak vague : List Path) (before now : Calls) (r : Result (Unit {0}) WalkAnswer) → o ≡ q → weak ≡ vague
    → IfSome o (ListsAt {T = Unit {0}} old new weak before now r) → IfSome q (ListsAt {T = Unit {0}} old new vague before now r)
moved_step o q old new weak vague before now r e f h = subst (λ (p : Option Contents). IfSome p (ListsAt {T = Unit {0}} old new vague before now r)) e (subst (λ (w : List Path). IfSome o (ListsAt {T = Unit {0}} old new w before now r)) f h)
