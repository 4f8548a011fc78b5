-- Files that were read, on the way to their pieces.
use Rattle.std.proofs.Common.{◌≡◌, ℕ, Bool, List, [], ◌∷◌, ◌++◌, Option, Result, Ok, Err, inl, inr, sym, ap, subst, ◌∙◌}
use Rattle.std.specs.Prelude.{All, Contains, IfOk, IfSome, OnOk, if◌then◌else◌}
use Rattle.std.proofs.lemmas.List.Elements.{All-append, All-cons, All-nil, Contains-append_cases}
use Rattle.firefly_outside.specs.Trees.{Path, Contents, IsFile, child, is_long}
use Rattle.firefly_outside.specs.declared.tree.FileBytes.{FileBytes}
use Rattle.walker.proofs.ListLemmas.{Contains-nil, Contains-cons_cases}
use Rattle.walker.specs.TreeIndex.{IsFileAt}
use Rattle.word_index.specs.Batch.{Held, HoldsFiles}
use Rattle.word_index.specs.Index.{File, Index, IsIndexOf}
use Rattle.word_index.specs.Read.{read_file}
use Rattle.index_findings.specs.declared.read_files.ReadFile.{ReadFile}
use Rattle.index_findings.specs.ReadFiles.{AreRead, HoldsRead, IsRead}
use Rattle.index_findings.specs.Pieces.{IsFilesPiece}
use Rattle.index_findings.proofs.ReportedLaws.{reported_all, reported_both}

pub if_ok_map : {T E : Type 0} (r : Result T E) (P Q : T → Type 0) → ((x : T) → P x → Q x) → IfOk r P → IfOk r Q
if_ok_map (Ok x) P Q f h = f x h
if_ok_map (Err e) P Q f h = tt

pub if_ok_two : {T E : Type 0} (r : Result T E) (P Q R : T → Type 0) → ((x : T) → P x → Q x → R x) → IfOk r P → IfOk r Q → IfOk r R
if_ok_two (Ok x) P Q R f h k = f x h k
if_ok_two (Err e) P Q R f h k = tt

pub on_ok : {T E : Type 0} (r : Result T E) (P : Type 0) → P → OnOk r P
on_ok (Ok x) P h = h
on_ok (Err e) P h = tt

-- one file more was read
pub read_more : (o : Option Contents) (files more : List ReadFile) (path text : Path) (file : FileBytes) → more ≡ files ++ record { path = path; file = file } ∷ [] → text ≡ path → IfSome o (λ t. IsFile t text file) → AreRead o files → AreRead o more
read_more o files more path text file all is reported read =
    let r : ReadFile = record { path = path; file = file } in
    let P : ReadFile → Type 0 = λ q. IsRead o q.path q.file in
    subst (AreRead o) (sym all) (All-append P files (r ∷ []) read (All-cons P r [] (subst (λ (q : Path). IsRead o q file) is reported) (All-nil P)))

file_of : Path → List ℕ → Bool → File
file_of path bytes long = record { path = path; bytes = bytes; long = long }

file_reported : (t : Contents) (root path name : Path) (file : FileBytes) → path ≡ child root name → IsFile t path file → IsFileAt t root (read_file name file)
unfolding file_of
file_reported t root path name file is h = record {
  bytes = h.bytes;
  here = ap t (sym is) ∙ h.here;
  shown = ap (λ bs. file_of name bs file.long) h.shown.bytes ∙ ap (λ l. file_of name (if is_long h.bytes then [] else h.bytes) l) h.shown.long;
}

module _ (o : Option Contents) (root : Path) where
  pub holds_none : (b : Held) → HoldsFiles [] b → HoldsRead o root b
  holds_none b h = record { files = []; holds = h; reported = reported_all o (λ t. (f : File) → Contains [] f → IsFileAt t root f) (λ t f m. absurd (Contains-nil f m)) }

  -- the batch with one file more
  pub holds_more : (b c : Held) (path name : Path) (file : FileBytes) → ((fs : List File) → HoldsFiles fs b → HoldsFiles (fs ++ read_file name file ∷ []) c) → path ≡ child root name → IsRead o path file → HoldsRead o root b → HoldsRead o root c
  holds_more b c path name file adds is read h = record {
    files = h.files ++ read_file name file ∷ [];
    holds = adds h.files h.holds;
    reported = reported_both o (λ t. (f : File) → Contains h.files f → IsFileAt t root f) (λ t. IsFile t path file) (λ t. (f : File) → Contains (h.files ++ read_file name file ∷ []) f → IsFileAt t root f)
        (λ t old new f m. elim (Contains-append_cases h.files (read_file name file ∷ []) f m) [
          | inl was ↦ old f was
          | inr now ↦ elim (Contains-cons_cases (read_file name file) [] f now) [
            | inl same ↦ subst (IsFileAt t root) same (file_reported t root path name file is new)
            | inr none ↦ absurd (Contains-nil f none)
          ]
        ]) h.reported read;
  }

  -- a batch of one file
  pub holds_one : (a c : Held) (path name : Path) (file : FileBytes) → HoldsFiles [] a → ((fs : List File) → HoldsFiles fs a → HoldsFiles (fs ++ read_file name file ∷ []) c) → path ≡ child root name → IsRead o path file → HoldsRead o root c
  holds_one a c path name file none adds is read = holds_more a c path name file adds is read (holds_none a none)

  -- the piece of a batch, after the others
  pub batch_piece : (b : Held) (piece : Index) (old new : List Index) → ((fs : List File) → HoldsFiles fs b → IsIndexOf fs piece) → new ≡ old ++ piece ∷ [] → HoldsRead o root b → All (IsFilesPiece o root) old → All (IsFilesPiece o root) new
  batch_piece b piece old new index is h all =
      let made : IsFilesPiece o root piece = record { files = h.files; index = index h.files h.holds; reported = h.reported } in
      subst (All (IsFilesPiece o root)) (sym is) (All-append (IsFilesPiece o root) old (piece ∷ []) all (All-cons (IsFilesPiece o root) piece [] made (All-nil (IsFilesPiece o root))))
