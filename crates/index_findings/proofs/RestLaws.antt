-- What the closing walk does beside the workers.
use Rattle.std.proofs.Common.{◌≡◌, List, [], ◌∷◌, ◌++◌, append-nil, inl, inr, refl, sym, ap, subst, ◌∙◌, Contains}
use Rattle.std.specs.Prelude.{◌↔◌}
use Rattle.firefly_outside.specs.Trees.{Path, Contents, Calls, child}
use Rattle.firefly_outside.specs.Under.{IsUnder}
use Rattle.firefly_outside.specs.declared.tree.Kind.TheVariants.{File, Dir}
use Rattle.word_index.specs.Index.{Index}
use Rattle.walker.specs.Closing.{CallsOnce, IsDone}
use Rattle.walker.specs.Walk.{Walk, IsListed, IsWalkOf, files_of}
use Rattle.walker.specs.declared.answer.WalkAnswer.{WalkAnswer}
use Rattle.walker.specs.declared.answer.WalkAnswer.TheVariants.{Memory}
use Rattle.walker.proofs.Children.{child_name}
use Rattle.std.proofs.lemmas.List.Elements.{Contains-append_cases, Contains-append_left, Contains-append_right}
use Rattle.walker.proofs.ListLemmas.{AllPairs-nil, Contains-cons_cases, Contains-head, Contains-map, Contains-nil, Contains-tail, Contains-unmap}
use Rattle.walker.proofs.Reached.{dir_reached, file_reached}
use Rattle.walker.proofs.WalkLemmas.{found_listed}
use Rattle.index_findings.specs.declared.findings.Fault.{Fault}
use Rattle.index_findings.specs.declared.findings.Visit.{Visit}
use Rattle.index_findings.specs.Faults.{ReportsFault}
use Rattle.index_findings.specs.Pieces.{AreMergedFrom, IsCovered}
use Rattle.index_findings.specs.Rest.{CallsRest, WalksRest}
use Rattle.index_findings.specs.Visits.{AreFound, IsFoundFile, dirs_listed}
use Rattle.index_findings.proofs.PieceLaws.{covered_one, is_one}

-- a file found, by its path below the root
pub by_name : (w : Walk) (root path name : Path) → root ≡ w.root → path ≡ child root name → Contains w.files name → Contains (files_of w) path
by_name w root path name same is h = subst (Contains (files_of w)) (sym (is ∙ ap (λ (r : Path). child r name) same)) (Contains-map (child w.root) w.files name h)

pub of_name : (w : Walk) (root path name : Path) → root ≡ w.root → path ≡ child root name → Contains (files_of w) path → Contains w.files name
of_name w root path name same is h =
    let o = Contains-unmap (child w.root) w.files path h in
    subst (Contains w.files) (child_name w.root o.origin name (o.is ∙ is ∙ ap (λ (r : Path). child r name) same)) o.among

-- the files that the pieces cover are those of a walk that has found what the listings have
pub found_in_walk : (w : Walk) (root : Path) (visits : List Visit) (pieces : List Index) → w.root ≡ root → ((p : Path) → IsFoundFile visits p → Contains (files_of w) p) → AreFound root visits pieces
    → (p : Path) → IsCovered pieces p → Contains w.files p
found_in_walk w root visits pieces same files found p h = of_name w root (child root p) p (sym same) refl (files (child root p) (found p h))

-- one piece covers what those covered that became it
pub walks_on : (t : Contents) (w : Walk) (pieces : List Index) (piece : Index) (before now : Calls) (answer : WalkAnswer) → AreMergedFrom pieces (piece ∷ []) → CallsOnce t w piece.paths before now answer → WalksRest t w pieces before now answer
walks_on t w pieces piece before now answer merged once = record {
  covered = piece.paths;
  covers = λ p. (
    (λ h. (merged.covers p).0 (record { piece = piece; among = covered_one piece; covers = h })),
    (λ h. let k = (merged.covers p).1 h in subst (λ (i : Index). Contains i.paths p) (sym (is_one piece k.piece k.among)) k.covers),
  );
  once = once;
}

-- the paths that pieces cover, one after the other
abbrev covered_by : List Index → List Path
covered_by [] = []
covered_by (x ∷ xs) = x.paths ++ covered_by xs

covered_in : (xs : List Index) (p : Path) → Contains (covered_by xs) p ↔ IsCovered xs p
covered_in [] p = ((λ h. absurd (Contains-nil p h)), (λ h. absurd (Contains-nil h.piece h.among)))
covered_in (x ∷ xs) p = (
  (λ h. elim (Contains-append_cases x.paths (covered_by xs) p h) [
    | inl first ↦ record { piece = x; among = Contains-head x xs; covers = first }
    | inr later ↦ (let k = (covered_in xs p).0 later in record { piece = k.piece; among = Contains-tail x xs k.piece k.among; covers = k.covers })
  ]),
  (λ h. elim (Contains-cons_cases x xs h.piece h.among) [
    | inl is ↦ Contains-append_left x.paths (covered_by xs) p (subst (λ (i : Index). Contains i.paths p) (sym is) h.covers)
    | inr later ↦ Contains-append_right x.paths (covered_by xs) p ((covered_in xs p).1 (record { piece = h.piece; among = later; covers = h.covers }))
  ]),
)

none_added : (ps : List Path) → ps ≡ ps ++ []
none_added ps = sym (append-nil ps)

-- nothing was called and no index is answered
pub rest_none : (t : Contents) (root : Path) (visits : List Visit) (pieces : List Index) (calls : Calls) (answer : WalkAnswer) → ¬ IsDone answer → CallsRest t root visits pieces calls calls answer
rest_none t root visits pieces calls answer undone = record {
  dirs = [];
  listed = none_added calls.listed;
  dirs_once = AllPairs-nil (λ p q. p ≡ q → ⊥);
  dirs_new = λ p h. absurd (Contains-nil p h);
  dirs_all = λ done. absurd (undone done);
  files = [];
  read = none_added calls.files_read;
  files_once = AllPairs-nil (λ p q. p ≡ q → ⊥);
  files_new = λ p h. absurd (Contains-nil p h);
  files_all = λ done. absurd (undone done);
}

-- a fault that is answered is no index
pub fault_undone : (w : Walk) (fault : Fault) (answer : WalkAnswer) → ReportsFault w fault answer → ¬ IsDone answer
fault_undone w fault answer tells done = elim tells [
  | inl lost ↦ subst IsDone lost.0 done
  | inr shown ↦ subst IsDone shown.0 done
]

-- the same beside a walk
pub walks_none : (t : Contents) (w : Walk) (pieces : List Index) (calls : Calls) → WalksRest t w pieces calls calls Memory
walks_none t w pieces calls = record {
  covered = covered_by pieces;
  covers = covered_in pieces;
  once = record {
    dirs = [];
    listed = none_added calls.listed;
    dirs_once = AllPairs-nil (λ p q. p ≡ q → ⊥);
    dirs_new = λ p h. absurd (Contains-nil p h);
    dirs_under = λ p h. absurd (Contains-nil p h);
    dirs_all = λ done. absurd done;
    files = [];
    read = none_added calls.files_read;
    files_once = AllPairs-nil (λ p q. p ≡ q → ⊥);
    files_new = λ p h k. absurd (Contains-nil (child w.root p) k);
    files_under = λ p h. absurd (Contains-nil p h);
    files_all = λ done. absurd done;
    failed = none_added calls.failed;
  };
}

-- beside a walk whose listings and files are these
pub rest_of_walk : (t : Contents) (w : Walk) (root : Path) (visits : List Visit) (pieces : List Index) (before now : Calls) (answer : WalkAnswer) → w.root ≡ root → IsWalkOf w t
    → ((p : Path) → IsListed w p ↔ Contains (dirs_listed visits) p) → ((p : Path) → IsCovered pieces p → Contains w.files p) → WalksRest t w pieces before now answer → CallsRest t root visits pieces before now answer
rest_of_walk t w root visits pieces before now answer same walk listed found rest =
    let once = rest.once in
    record {
      dirs = once.dirs;
      listed = once.listed;
      dirs_once = once.dirs_once;
      dirs_new = λ p h k. once.dirs_new p h ((listed p).1 k);
      dirs_all = λ done p. (
        (λ under. elim (once.dirs_all done p (subst (λ (r : Path). IsUnder t r Dir p) (sym same) under)) [ inl was ↦ inl ((listed p).0 was) | inr new ↦ inr new ]),
        (λ h. subst (λ (r : Path). IsUnder t r Dir p) same (elim h [ inl was ↦ dir_reached t w walk p (found_listed w p ((listed p).1 was)) | inr new ↦ once.dirs_under p new ])),
      );
      files = once.files;
      read = once.read;
      files_once = once.files_once;
      files_new = λ p h k. once.files_new k.name ((rest.covers k.name).1 k.covered) (subst (Contains once.files) (k.is ∙ ap (λ (r : Path). child r k.name) (sym same)) h);
      files_all = λ done p. (
        (λ under. elim (once.files_all done p (subst (λ (r : Path). IsUnder t r File p) (sym same) under)) [
          | inl was ↦ (let o = Contains-unmap (child w.root) rest.covered p was in
              inl (record { name = o.origin; is = sym o.is ∙ ap (λ (r : Path). child r o.origin) same; covered = (rest.covers o.origin).0 o.among }))
          | inr new ↦ inr new
        ]),
        (λ h. subst (λ (r : Path). IsUnder t r File p) same (elim h [
          | inl was ↦ file_reached t w walk p (by_name w root p was.name (sym same) was.is (found was.name was.covered))
          | inr new ↦ once.files_under p new
        ])),
      );
    }
