-- The files of a walk as they are read.
use Rattle.std.proofs.Common.{◌≡◌, ◌≢◌, ◌∙◌, ℕ, ◌+◌, ◌<◌, List, get_or, [], ◌∷◌, ◌++◌, length, map, sym, ap, subst, refl, arith, inl, inr, ◌⊎◌, Contains, take, slice_get}
use Rattle.std.specs.Prelude.{Option, Some, None, IfSome, Result, Ok, Err}
use Rattle.std.proofs.lemmas.List.{append_assoc, append-nil, map-append, take_more, get_or-take, length-take, take_all}
use Rattle.std.proofs.lemmas.List.Elements.{Contains-append_cases, Contains-append_left, Contains-append_right, Contains-push, Contains-push_cases}
use Rattle.firefly_outside.specs.Trees.{Path, Contents, Calls, Reads, IsFault, child}
use Rattle.firefly_outside.specs.Under.{IsUnder, IsThere}
use Rattle.firefly_outside.specs.declared.tree.Kind.TheVariants.{File as a_file}
use Rattle.firefly_outside.specs.declared.tree.TreeError.TheVariants as TreeError
use Rattle.firefly_outside.specs.declared.tree.FileBytes.{FileBytes}
use Rattle.word_index.specs.Index.{File, Index, IsIndexOf}
use Rattle.word_index.specs.Batch.{Held, HoldsFiles}
use Rattle.walker.specs.Walk.{Walk, IsSound, IsWalkOf}
use Rattle.walker.specs.TreeIndex.{IsTreeIndex, IsFileAt, IsPartOf}
use Rattle.walker.specs.Closing.{IsDone, failed_by}
use Rattle.walker.specs.Progress.{IsListedWhole}
use Rattle.walker.specs.Pile.{IsPileOf, AreApart, AreKept, AreDistinct, HasRead, ReadsSome, StopsReading, ReadsNext, ReadsAt, ReadsRest, with_read, with_reads}
use Rattle.walker.specs.declared.answer.WalkAnswer.{WalkAnswer}
use Rattle.walker.specs.declared.answer.WalkAnswer.TheVariants.{Done, Stopped, ReadFault, TooMany, Memory}
use Rattle.walker.proofs.ListLemmas.{Distinct, Distinct-across, HasOrigin, Contains-nil, Contains-cons_cases, Contains-map, Contains-unmap, AllPairs-nil, AllPairs-append, All-from}
use Rattle.walker.proofs.PileLemmas.{AllPairs-one, AreApart-push, NoMeet, pile_paths}
use Rattle.walker.proofs.Steps.{some_at}
use Rattle.walker.proofs.Reached.{all_paths, file_reached, found_if_reached}
use Rattle.word_index.proofs.Searches.{not_below}
use Rattle.std.proofs.lemmas.List.Kept.{AllPairs-cons}

abbrev pub paths_of : List File → List Path
paths_of files = map (λ f. f.path) files

-- what tells of a file that could not be read
pub reported_read_fault : (o : Option Contents) (weak : List Path) (root name path at : Path) (before now : Calls) → at ≡ child root name → path ≡ child root name
    → IfSome o (Reads weak at before now (Err TreeError.Failed)) → IfSome o (ReadsNext {T = FileBytes} root name weak before now (Err (ReadFault path)))
reported_read_fault None weak root name path at before now e f h = tt
reported_read_fault (Some t) weak root name path at before now e f h = (f, subst (λ (p : Path). IsFault weak p (IsThere t a_file p) before now) e h)

-- an element isn't before its place in a list of distinct ones
not_before : (xs : List Path) (at : ℕ) (x : Path) → Distinct xs → slice_get xs at ≡ Some x → ¬ Contains (take at xs) x
not_before xs at x apart here h =
    let s = some_at xs at x here in
    let early : h.0 < at = omega (arith, h.1, length-take at xs) in
    apart h.0 at x early s.0 (sym (get_or-take at xs h.0 x early) ∙ h.2 ∙ sym s.1)

-- an element of a part is one of the whole
Contains-take : (n : ℕ) (xs : List Path) (x : Path) → Contains (take n xs) x → Contains xs x
Contains-take n xs x h = (h.0, omega (arith, h.1, length-take n xs), sym (get_or-take n xs h.0 x (omega (arith, h.1, length-take n xs))) ∙ h.2)

take_next : (xs : List Path) (at : ℕ) (x : Path) → slice_get xs at ≡ Some x → take (at + 1) xs ≡ take at xs ++ x ∷ []
take_next xs at x here = let s = some_at xs at x here in take_more xs at x s.0 ∙ ap (λ y. take at xs ++ y ∷ []) s.1

paths_push : (files : List File) (f : File) (name : Path) → f.path ≡ name → paths_of (files ++ f ∷ []) ≡ paths_of files ++ name ∷ []
paths_push files f name called = map-append (λ (g : File). g.path) files (f ∷ []) ∙ ap (λ q. paths_of files ++ q ∷ []) called

-- a file that is covered
pub HasRead-covered : (o : Option Contents) (w : Walk) (covered : List Path) (start before : Calls) (at : ℕ) (Kept : List File → Type 0) (name : Path) → slice_get w.files at ≡ Some name → Contains covered name
    → HasRead o w covered start before at Kept → HasRead o w covered start before (at + 1) Kept
HasRead-covered o w covered start before at Kept name here is h = record {
  files = h.files;
  kept = h.kept;
  once = h.once;
  early = λ p k. (subst (λ (ps : List Path). Contains ps p) (sym (take_next w.files at name here)) (Contains-append_left (take at w.files) (name ∷ []) p (h.early p k).0), (h.early p k).1);
  all = λ p k. elim (Contains-push_cases (take at w.files) name p (subst (λ (ps : List Path). Contains ps p) (take_next w.files at name here) k)) [
    | inl was ↦ h.all p was
    | inr same ↦ inl (subst (λ (q : Path). Contains covered q) same is)
  ];
  reported = h.reported;
}

reads_push : (start : Calls) (root : Path) (names : List Path) (name : Path) → with_read (with_reads start root names) (child root name) ≡ with_reads start root (names ++ name ∷ [])
reads_push start root names name = ap (λ l. record start { files_read = l }) (append_assoc start.files_read (map (child root) names) (child root name ∷ []) ∙ ap (λ l. start.files_read ++ l) (sym (map-append (child root) names (name ∷ []))))

-- one more file among those read
module _ (o : Option Contents) (w : Walk) (covered : List Path) (start before : Calls) (at : ℕ) (Kept : List File → Type 0) (name : Path)
    (sound : IsSound w) (here : slice_get w.files at ≡ Some name) (fresh : ¬ Contains covered name) (h : HasRead o w covered start before at Kept) where
  pub names_once : Distinct (paths_of h.files ++ name ∷ [])
  names_once = AllPairs-append (λ p q. p ≢ q) (paths_of h.files) (name ∷ []) h.once (AllPairs-one (λ p q. p ≢ q) name)
      (λ p q k m same. elim (Contains-cons_cases name [] q m) [
        | inl is ↦ not_before w.files at name sound.files here (subst (λ (r : Path). Contains (take at w.files) r) (same ∙ sym is) (h.early p k).0)
        | inr none ↦ Contains-nil q none
      ])

  pub names_fresh : (p : Path) → Contains (paths_of h.files ++ name ∷ []) p → ¬ Contains covered p
  names_fresh p k is = elim (Contains-push_cases (paths_of h.files) name p k) [
    | inl was ↦ (h.early p was).1 is
    | inr same ↦ fresh (subst (λ (q : Path). Contains covered q) (sym same) is)
  ]

  pub names_found : (p : Path) → Contains (paths_of h.files ++ name ∷ []) p → Contains w.files p
  names_found p k = elim (Contains-push_cases (paths_of h.files) name p k) [
    | inl was ↦ Contains-take at w.files p (h.early p was).0
    | inr same ↦ (let s = some_at w.files at name here in subst (λ (q : Path). Contains w.files q) same (at, s.0, s.1))
  ]

  pub HasRead-next : (now : Calls) (More : List File → Type 0) (f : File) → f.path ≡ name → IfSome o (λ t. IsFileAt t w.root f) → ((fs : List File) → Kept fs → More (fs ++ f ∷ []))
      → IfSome o (λ _. now ≡ with_read before (child w.root name)) → HasRead o w covered start now (at + 1) More
  HasRead-next now More f called here_reported keeps calls = record {
    files = h.files ++ f ∷ [];
    kept = keeps h.files h.kept;
    once = subst Distinct (sym are) names_once;
    early = λ p k. elim (Contains-push_cases (paths_of h.files) name p (subst (λ (ps : List Path). Contains ps p) are k)) [
      | inl was ↦ (subst (λ (ps : List Path). Contains ps p) (sym (take_next w.files at name here)) (Contains-append_left (take at w.files) (name ∷ []) p (h.early p was).0), (h.early p was).1)
      | inr same ↦ (subst (λ (ps : List Path). Contains ps p) (sym (take_next w.files at name here)) (subst (λ (q : Path). Contains (take at w.files ++ name ∷ []) q) same (Contains-push (take at w.files) name)), subst (λ (q : Path). ¬ Contains covered q) same fresh)
    ];
    all = λ p k. elim (Contains-push_cases (take at w.files) name p (subst (λ (ps : List Path). Contains ps p) (take_next w.files at name here) k)) [
      | inl was ↦ elim (h.all p was) [ inl c ↦ inl c | inr r ↦ inr (subst (λ (ps : List Path). Contains ps p) (sym are) (Contains-append_left (paths_of h.files) (name ∷ []) p r)) ]
      | inr same ↦ inr (subst (λ (ps : List Path). Contains ps p) (sym are) (subst (λ (q : Path). Contains (paths_of h.files ++ name ∷ []) q) same (Contains-push (paths_of h.files) name)))
    ];
    reported = tells o h.reported here_reported calls;
  }
    where
      are : paths_of (h.files ++ f ∷ []) ≡ paths_of h.files ++ name ∷ []
      are = paths_push h.files f name called

      tells : (q : Option Contents) → IfSome q (λ t. ((g : File) → Contains h.files g → IsFileAt t w.root g) × (before ≡ with_reads start w.root (paths_of h.files)))
          → IfSome q (λ t. IsFileAt t w.root f) → IfSome q (λ _. now ≡ with_read before (child w.root name))
          → IfSome q (λ t. ((g : File) → Contains (h.files ++ f ∷ []) g → IsFileAt t w.root g) × (now ≡ with_reads start w.root (paths_of (h.files ++ f ∷ []))))
      tells None was new k = tt
      tells (Some t) was new k = (
        λ g m. elim (Contains-push_cases h.files f g m) [ inl old ↦ was.0 g old | inr same ↦ subst (IsFileAt t w.root) same new ],
        k ∙ ap (λ (c : Calls). with_read c (child w.root name)) was.1 ∙ reads_push start w.root (paths_of h.files) name ∙ ap (with_reads start w.root) (sym are),
      )

  -- memory wants or the file can't be read
  pub stops_next : (answer : WalkAnswer) (weak : List Path) (now : Calls) → IfSome o (ReadsNext {T = FileBytes} w.root name weak before now (Err answer))
      → IfSome o (λ t. IsWalkOf w t → StopsReading w weak answer t × ReadsSome w covered start now answer)
  stops_next answer weak now k = stops o answer h.reported k
    where
      some : (answer : WalkAnswer) (names : List Path) → ¬ IsDone answer → Distinct names → ((p : Path) → Contains names p → ¬ Contains covered p) → ((p : Path) → Contains names p → Contains w.files p) → now ≡ record (with_reads start w.root names) { failed = start.failed ++ failed_by answer } → ReadsSome w covered start now answer
      some answer names undone once new found is = record {
        names = names;
        once = once;
        fresh = new;
        found = found;
        all = λ done. absurd (undone done);
        listed = ap (λ (c : Calls). c.listed) is;
        read = ap (λ (c : Calls). c.files_read) is;
        failed = ap (λ (c : Calls). c.failed) is;
      }

      among : Contains w.files name
      among = let s = some_at w.files at name here in (at, s.0, s.1)

      no_more : (c : Calls) → c ≡ record c { failed = c.failed ++ [] }
      no_more c = ap (λ l. record c { failed = l }) (sym (append-nil c.failed))

      stops : (q : Option Contents) (answer : WalkAnswer) → IfSome q (λ t. ((g : File) → Contains h.files g → IsFileAt t w.root g) × (before ≡ with_reads start w.root (paths_of h.files)))
          → IfSome q (ReadsNext {T = FileBytes} w.root name weak before now (Err answer)) → IfSome q (λ t. IsWalkOf w t → StopsReading w weak answer t × ReadsSome w covered start now answer)
      stops None answer was k = tt
      stops (Some t) (Done piece) was k = absurd k
      stops (Some t) (Stopped many) was k = absurd k
      stops (Some t) (ReadFault path) was k = λ walk. (
        record {
          kind = a_file;
          under = subst (IsUnder t w.root a_file) (sym k.0) (file_reached t w walk (child w.root name) (Contains-map (child w.root) w.files name among));
          may = subst (λ (p : Path). Contains weak p ⊎ ¬ IsThere t a_file p) (sym k.0) k.1.may;
        },
        some (ReadFault path) (paths_of h.files) (λ done. done) h.once (λ p m. (h.early p m).1) (λ p m. Contains-take at w.files p (h.early p m).0)
            (k.1.noted ∙ ap (λ (c : Calls). record c { failed = c.failed ++ child w.root name ∷ [] }) was.1 ∙ ap (λ (p : Path). record (with_reads start w.root (paths_of h.files)) { failed = start.failed ++ p ∷ [] }) (sym k.0)),
      )
      stops (Some t) (TooMany many) was k = absurd k
      stops (Some t) Memory was (inl same) = λ walk. (tt, some Memory (paths_of h.files) (λ done. done) h.once (λ p m. (h.early p m).1) (λ p m. Contains-take at w.files p (h.early p m).0) (same ∙ was.1 ∙ no_more (with_reads start w.root (paths_of h.files))))
      stops (Some t) Memory was (inr more) = λ walk. (
        tt,
        some Memory (paths_of h.files ++ name ∷ []) (λ done. done) names_once names_fresh names_found
            (more ∙ ap (λ (c : Calls). with_read c (child w.root name)) was.1 ∙ reads_push start w.root (paths_of h.files) name ∙ no_more (with_reads start w.root (paths_of h.files ++ name ∷ []))),
      )

reported_none : (o : Option Contents) (w : Walk) (c : Calls) → IfSome o (λ t. ((f : File) → Contains [] f → IsFileAt t w.root f) × (c ≡ with_reads c w.root []))
reported_none None w c = tt
reported_none (Some t) w c = (λ f k. absurd (Contains-nil f k), ap (λ l. record c { files_read = l }) (sym (append-nil c.files_read)))

-- nothing is read yet
pub HasRead-none : (o : Option Contents) (w : Walk) (covered : List Path) (c : Calls) (Kept : List File → Type 0) → Kept [] → HasRead o w covered c c 0 Kept
HasRead-none o w covered c Kept none = record {
  files = [];
  kept = none;
  once = AllPairs-nil (λ p q. p ≢ q);
  early = λ p k. absurd (Contains-nil p k);
  all = λ p k. absurd (omega (arith, k.1, length-take 0 w.files));
  reported = reported_none o w c;
}

-- nothing is left to be read
pub HasRead-all : (o : Option Contents) (w : Walk) (covered : List Path) (c : Calls) (Kept : List File → Type 0) → Kept [] → ((p : Path) → Contains w.files p → Contains covered p) → HasRead o w covered c c (length w.files) Kept
HasRead-all o w covered c Kept none all = record {
  files = [];
  kept = none;
  once = AllPairs-nil (λ p q. p ≢ q);
  early = λ p k. absurd (Contains-nil p k);
  all = λ p k. inl (all p (Contains-take (length w.files) w.files p k));
  reported = reported_none o w c;
}

-- a piece of files found that covers as many as were found covers each
pub covers_all : (o : Option Contents) (w : Walk) (piece : Index) → IsPartOf o w piece → length piece.paths ≡ length w.files → (p : Path) → Contains w.files p → Contains piece.paths p
covers_all o w piece part many = all_paths piece.paths w.files
    (λ i j d below within same. not_below (get_or piece.paths i d) (get_or piece.paths j d) same (part.index.ordered.paths i j d below within))
    (λ p k.
    let f = Contains-unmap (λ (g : File). g.path) part.files p ((part.index.paths p).0 k) in
    subst (Contains w.files) f.is (part.found f.origin f.among))
    many

-- the piece of the start meets none of the pile
pub apart_first : (o : Option Contents) (w : Walk) (first : Index) (start now : Calls) (at : ℕ) (pieces : List Index) → HasRead o w first.paths start now at (IsPileOf pieces) → AreApart pieces → AreApart (first ∷ pieces)
apart_first o w first start now at pieces h apart =
    AllPairs-cons NoMeet first pieces (All-from (NoMeet first) pieces (λ a k meet. (h.early meet.0 (pile_paths pieces h.files a meet.0 h.kept k meet.2)).1 meet.1)) apart

-- all is read and covered: the index of the tree
pub tree_index : (t : Contents) (w : Walk) (first whole : Index) (start now : Calls) (pieces : List Index) → IsWalkOf w t → IsListedWhole w → (part : IsPartOf (Some t) w first) → (h : HasRead (Some t) w first.paths start now (length w.files) (IsPileOf pieces))
    → IsIndexOf (part.files ++ h.files) whole → IsTreeIndex t w.root whole
tree_index t w first whole start now pieces walk listed part h index = record {
  files = part.files ++ h.files;
  index = index;
  under = λ f k. file_reached t w walk (child w.root f.path) (Contains-map (child w.root) w.files f.path (found f k));
  reported = λ f k. elim (Contains-append_cases part.files h.files f k) [ inl was ↦ part.reported f was | inr new ↦ h.reported.0 f new ];
  all = λ p under. at p (Contains-unmap (child w.root) w.files p (found_if_reached t w walk listed a_file p under));
}
  where
    ends : take (length w.files) w.files ≡ w.files
    ends = take_all (length w.files) w.files (omega arith)

    found : (f : File) → Contains (part.files ++ h.files) f → Contains w.files f.path
    found f k = elim (Contains-append_cases part.files h.files f k) [
      | inl was ↦ part.found f was
      | inr new ↦ subst (λ (ps : List Path). Contains ps f.path) ends (h.early f.path (Contains-map (λ (g : File). g.path) h.files f new)).0
    ]

    at : (p : Path) → HasOrigin (child w.root) w.files p → (f : File) × Contains (part.files ++ h.files) f × (p ≡ child w.root f.path)
    at p o = elim (h.all o.origin (subst (λ (ps : List Path). Contains ps o.origin) (sym ends) o.among)) [
      | inl covered ↦ (let g = Contains-unmap (λ (f : File). f.path) part.files o.origin ((part.index.paths o.origin).0 covered) in
          (g.origin, Contains-append_left part.files h.files g.origin g.among, sym o.is ∙ ap (child w.root) (sym g.is)))
      | inr read ↦ (let g = Contains-unmap (λ (f : File). f.path) h.files o.origin read in
          (g.origin, Contains-append_right part.files h.files g.origin g.among, sym o.is ∙ ap (child w.root) (sym g.is)))
    ]

-- memory wants after a read
pub read_lost : (o : Option Contents) (root name : Path) (weak : List Path) (before now : Calls) (p : FileBytes) → IfSome o (ReadsNext {T = FileBytes} root name weak before now (Ok p)) → IfSome o (ReadsNext {T = FileBytes} root name weak before now (Err Memory))
read_lost None root name weak before now p h = tt
read_lost (Some t) root name weak before now p h = inr h

-- over a tree that tells the same
pub moved_read : (o q : Option Contents) (w : Walk) (covered : List Path) (at : ℕ) (weak vague : List Path) (before now : Calls) (old : List File → Type 0) (new : Held → List File → Type 0) (r : Result Held WalkAnswer) → o ≡ q → weak ≡ vague
    → ReadsAt o w covered at weak before now old new r → ReadsAt q w covered at vague before now old new r
moved_read o q w covered at weak vague before now old new r e f h = subst (λ (p : Option Contents). ReadsAt p w covered at vague before now old new r) e (subst (λ (v : List Path). ReadsAt o w covered at v before now old new r) f h)

-- a walk that stops while it reads
pub read_stopped : (o : Option Contents) (w : Walk) (covered : List Path) (at : ℕ) (weak : List Path) (start before now : Calls) (old : List File → Type 0) (new : Held → List File → Type 0) (answer : WalkAnswer) → IfSome o (IsWalkOf w) → HasRead o w covered start before at old
    → ReadsAt o w covered at weak before now old new (Err answer) → IfSome o (λ t. StopsReading w weak answer t × ReadsSome w covered start now answer)
read_stopped o w covered at weak start before now old new answer walk h k = both o walk (k start h)
  where
    both : (q : Option Contents) → IfSome q (IsWalkOf w) → IfSome q (λ t. IsWalkOf w t → StopsReading w weak answer t × ReadsSome w covered start now answer) → IfSome q (λ t. StopsReading w weak answer t × ReadsSome w covered start now answer)
    both None a b = tt
    both (Some t) a b = b a

-- what the end of the reading tells
pub rest_stops : (o : Option Contents) (w : Walk) (covered weak : List Path) (before now : Calls) (answer : WalkAnswer) → IfSome o (λ t. StopsReading w weak answer t × ReadsSome w covered before now answer) → IfSome o (ReadsRest w covered weak before now answer)
rest_stops None w covered weak before now answer h = tt
rest_stops (Some t) w covered weak before now (Done piece) h = absurd h.0
rest_stops (Some t) w covered weak before now (Stopped many) h = absurd h.0
rest_stops (Some t) w covered weak before now (ReadFault path) h = h
rest_stops (Some t) w covered weak before now (TooMany many) h = absurd h.0
rest_stops (Some t) w covered weak before now Memory h = h.1

all_reads : (t : Contents) (w : Walk) (covered : List Path) (before now : Calls) (Kept : List File → Type 0) (answer : WalkAnswer) → failed_by answer ≡ [] → HasRead (Some t) w covered before now (length w.files) Kept → ReadsSome w covered before now answer
all_reads t w covered before now Kept answer none h = record {
  names = paths_of h.files;
  once = h.once;
  fresh = λ p k. (h.early p k).1;
  found = λ p k. Contains-take (length w.files) w.files p (h.early p k).0;
  all = λ done p k. h.all p (subst (λ (ps : List Path). Contains ps p) (sym (take_all (length w.files) w.files (omega arith))) k);
  listed = ap (λ (c : Calls). c.listed) h.reported.1;
  read = ap (λ (c : Calls). c.files_read) h.reported.1;
  failed = ap (λ (c : Calls). c.failed) h.reported.1 ∙ sym (ap (λ l. before.failed ++ l) none ∙ append-nil before.failed);
}

pub rest_done : (o : Option Contents) (w : Walk) (first whole : Index) (weak : List Path) (before now : Calls) (pieces : List Index) → IfSome o (IsWalkOf w) → IsListedWhole w → IsPartOf o w first → HasRead o w first.paths before now (length w.files) (IsPileOf pieces)
    → ((fs gs : List File) → IsIndexOf fs first → IsPileOf pieces gs → IsIndexOf (fs ++ gs) whole) → IfSome o (ReadsRest w first.paths weak before now (Done whole))
rest_done None w first whole weak before now pieces walk listed part h index = tt
rest_done (Some t) w first whole weak before now pieces walk listed part h index = (
  tree_index t w first whole before now pieces walk listed part h (index part.files h.files part.index h.kept),
  all_reads t w first.paths before now (IsPileOf pieces) (Done whole) refl h,
)

pub rest_lost : (o : Option Contents) (w : Walk) (covered weak : List Path) (before now : Calls) (pieces : List Index) → HasRead o w covered before now (length w.files) (IsPileOf pieces) → IfSome o (ReadsRest w covered weak before now Memory)
rest_lost None w covered weak before now pieces h = tt
rest_lost (Some t) w covered weak before now pieces h = all_reads t w covered before now (IsPileOf pieces) Memory refl h

-- the files of the pile and of the batch

-- nothing is kept yet
pub kept_none : (pieces : List Index) (held : Held) → pieces ≡ [] → HoldsFiles [] held → AreKept pieces held []
kept_none pieces held none empty = record { done = []; waiting = []; is = refl; pile = subst (λ (l : List Index). IsPileOf l []) (sym none) refl; batch = empty }

-- one more file in the batch
pub kept_more : (pieces : List Index) (held more : Held) (f : File) → ((ws : List File) → HoldsFiles ws held → HoldsFiles (ws ++ f ∷ []) more) → (files : List File) → AreKept pieces held files → AreKept pieces more (files ++ f ∷ [])
kept_more pieces held more f adds files k = record {
  done = k.done;
  waiting = k.waiting ++ f ∷ [];
  is = ap (λ l. l ++ f ∷ []) k.is ∙ append_assoc k.done k.waiting (f ∷ []);
  pile = k.pile;
  batch = adds k.waiting k.batch;
}

-- the batch lies on the pile, and one more file is in a new one
pub kept_fresh : (pieces : List Index) (more : Held) (f : File) (files : List File) → IsPileOf pieces files → HoldsFiles (f ∷ []) more → AreKept pieces more (files ++ f ∷ [])
kept_fresh pieces more f files pile holds = record { done = files; waiting = f ∷ []; is = refl; pile = pile; batch = holds }

-- the piece of the batch meets none of the pile
pub apart_batch : (pieces : List Index) (held : Held) (next : Index) (files : List File) → (k : AreKept pieces held files) → AreDistinct files → ((ws : List File) → HoldsFiles ws held → IsIndexOf ws next) → AreApart pieces → AreApart (pieces ++ next ∷ [])
apart_batch pieces held next files k once index apart = AreApart-push pieces next apart (λ a m meet.
    let split : paths_of files ≡ paths_of k.done ++ paths_of k.waiting = ap paths_of k.is ∙ map-append (λ (f : File). f.path) k.done k.waiting in
    Distinct-across (paths_of k.done) (paths_of k.waiting) meet.0 (subst Distinct split once) (pile_paths pieces k.done a meet.0 k.pile m meet.1) (((index k.waiting k.batch).paths meet.0).0 meet.2))

-- the files read are kept in another way
pub HasRead-kept : (o : Option Contents) (w : Walk) (covered : List Path) (before now : Calls) (at : ℕ) (Kept More : List File → Type 0) → ((fs : List File) → Kept fs → More fs) → HasRead o w covered before now at Kept → HasRead o w covered before now at More
HasRead-kept o w covered before now at Kept More keeps h = record { files = h.files; kept = keeps h.files h.kept; once = h.once; early = h.early; all = h.all; reported = h.reported }

-- all is read, and memory wants
pub reads_lost : (o : Option Contents) (w : Walk) (covered weak : List Path) (before now : Calls) (at : ℕ) (Kept : List File → Type 0) → at ≡ length w.files → HasRead o w covered before now at Kept → IfSome o (λ t. StopsReading w weak Memory t × ReadsSome w covered before now Memory)
reads_lost None w covered weak before now at Kept end h = tt
reads_lost (Some t) w covered weak before now at Kept end h = (tt, all_reads t w covered before now Kept Memory refl (subst (λ (k : ℕ). HasRead (Some t) w covered before now k Kept) end h))
