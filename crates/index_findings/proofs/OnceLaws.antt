-- Pieces and a batch that cover no path twice.
use Rattle.std.proofs.Common.{◌≡◌, ◌≢◌, ◌∙◌, List, [], ◌∷◌, ◌++◌, map, inl, inr, ◌⊎◌, Contains, AllPairs, sym, ap, subst}
use Rattle.std.specs.Prelude.{IsPermutation, ◌↔◌}
use Rattle.std.proofs.lemmas.List.Elements.{All-nil, Contains-append_cases}
use Rattle.std.proofs.lemmas.List.Kept.{AllPairs-cons}
use Rattle.std.proofs.lemmas.List.Sorted.{IsPermutation-map}
use Rattle.firefly_outside.specs.Trees.{Path, child}
use Rattle.firefly_outside.specs.declared.tree.FileBytes.{FileBytes}
use Rattle.walker.proofs.Children.{Distinct-permutation}
use Rattle.walker.proofs.ListLemmas.{All-at, AllPairs-append, AllPairs-head, AllPairs-nil, AllPairs-tail, Contains-cons_cases, Contains-head, Contains-map, Contains-nil, Contains-tail}
use Rattle.walker.specs.Pile.{AreApart}
use Rattle.word_index.specs.Batch.{Held, HoldsFiles}
use Rattle.word_index.specs.Index.{File, Index, IsIndexOf, Meet}
use Rattle.word_index.specs.Read.{read_file}
use Rattle.index_findings.specs.declared.read_files.ReadFile.{ReadFile}
use Rattle.index_findings.specs.ReadFiles.{AreHeldOnce, IsHeldAt, IsReadAt}
use Rattle.index_findings.specs.Pieces.{IsCovered}
use Rattle.index_findings.proofs.CoverLaws.{more_paths}
use Rattle.index_findings.proofs.PieceLaws.{is_one}

abbrev Apart : Index → Index → Type 0
Apart a b = ¬ Meet a b

only : (name path : Path) → Contains (name ∷ []) path → name ≡ path
only name path h = elim (Contains-cons_cases name [] path h) [ inl e ↦ e | inr m ↦ absurd (Contains-nil path m) ]

-- nothing is held
pub once_none : (pieces : List Index) (b : Held) → pieces ≡ [] → AreHeldOnce pieces b
once_none pieces b none = record {
  apart = subst AreApart (sym none) (AllPairs-nil Apart);
  ahead = λ path h. absurd (let k = subst (λ (l : List Index). IsCovered l path) none h in Contains-nil k.piece k.among);
}

-- the batch became a piece after the others
pub once_put : (b : Held) (piece : Index) (old new : List Index) (fs : List File) → HoldsFiles fs b → IsIndexOf fs piece → new ≡ old ++ piece ∷ [] → AreHeldOnce old b → AreApart new
once_put b piece old new fs holds index is once = subst AreApart (sym is)
    (AllPairs-append Apart old (piece ∷ []) once.apart (AllPairs-cons Apart piece [] (All-nil (Apart piece)) (AllPairs-nil Apart))
    (λ x y first last meet. once.ahead meet.0 (record { piece = x; among = first; covers = meet.1 })
    (subst (λ (ps : List Path). Contains ps meet.0) (sym holds.paths) ((index.paths meet.0).0 (subst (λ (i : Index). Contains i.paths meet.0) (sym (is_one piece y last)) meet.2)))))

-- a file that isn't held yet came into the batch
pub once_added : (pieces : List Index) (b c : Held) (name : Path) (file : FileBytes) (fs : List File) → HoldsFiles fs b → HoldsFiles (fs ++ read_file name file ∷ []) c → AreHeldOnce pieces b → ¬ IsHeldAt pieces b name → AreHeldOnce pieces c
once_added pieces b c name file fs was now once new = record {
  apart = once.apart;
  ahead = λ path h among. elim (Contains-append_cases b.paths (name ∷ []) path (subst (λ (ps : List Path). Contains ps path) (more_paths b c name file fs was now) among)) [
    | inl old ↦ once.ahead path h old
    | inr one ↦ new (inl (subst (IsCovered pieces) (sym (only name path one)) h))
  ];
}

-- or into a new one, and the batch before became a piece
pub once_begun : (old new : List Index) (b a c : Held) (name : Path) (file : FileBytes) → HoldsFiles [] a → HoldsFiles ([] ++ read_file name file ∷ []) c → AreApart new
    → ((path : Path) → IsCovered new path ↔ IsHeldAt old b path) → ¬ IsHeldAt old b name → AreHeldOnce new c
once_begun old new b a c name file none one apart put fresh = record {
  apart = apart;
  ahead = λ path h among. elim (Contains-append_cases a.paths (name ∷ []) path (subst (λ (ps : List Path). Contains ps path) (more_paths a c name file [] none one) among)) [
    | inl was ↦ Contains-nil path (subst (λ (ps : List Path). Contains ps path) none.paths was)
    | inr is ↦ fresh ((put name).0 (subst (IsCovered new) (sym (only name path is)) h))
  ];
}

abbrev pub paths_read : List ReadFile → List Path
paths_read files = map (λ r. r.path) files

pub read_once_sorted : (xs ys : List ReadFile) → IsPermutation xs ys → AllPairs (λ p q. p ≢ q) (paths_read xs) → AllPairs (λ p q. p ≢ q) (paths_read ys)
read_once_sorted xs ys same once = Distinct-permutation (paths_read xs) (paths_read ys) (IsPermutation-map (λ (r : ReadFile). r.path) xs ys same) once

-- no path is held twice, none that is to come is held, and none is to come twice
pub record AreOnce (root : Path) (pieces : List Index) (b : Held) (rest : List ReadFile) : Type 0 where
  pub held : AreHeldOnce pieces b
  pub once : AllPairs (λ p q. p ≢ q) (paths_read rest)
  pub fresh : (path : Path) → IsReadAt root rest path → ¬ IsHeldAt pieces b path

pub once_first : (root : Path) (pieces : List Index) (b : Held) (rest : List ReadFile) → pieces ≡ [] → b.paths ≡ [] → AllPairs (λ p q. p ≢ q) (paths_read rest) → AreOnce root pieces b rest
once_first root pieces b rest no_pieces no_paths once = record {
  held = once_none pieces b no_pieces;
  once = once;
  fresh = λ path to_come h. elim h [
    | inl covered ↦ (let k = subst (λ (l : List Index). IsCovered l path) no_pieces covered in Contains-nil k.piece k.among)
    | inr among ↦ Contains-nil path (subst (λ (ps : List Path). Contains ps path) no_paths among)
  ];
}

module _ (root : Path) (old rest : List ReadFile) (x : ReadFile) (steps : old ≡ x ∷ rest) (ps : List Index) (b : Held) (was : AreOnce root ps b old) where
  -- the file that is next isn't held
  pub next_fresh : (path : Path) → x.path ≡ child root path → ¬ IsHeldAt ps b path
  next_fresh path is = was.fresh path (subst (λ (l : List ReadFile). IsReadAt root l path) (sym steps) (record { read = x; among = Contains-head x rest; is = is }))

  apart_rest : AllPairs (λ p q. p ≢ q) (x.path ∷ paths_read rest)
  apart_rest = subst (AllPairs (λ p q. p ≢ q)) (ap paths_read steps) was.once

  -- it came to the others
  pub once_turn : (qs : List Index) (c : Held) → AreHeldOnce qs c → ((path : Path) → IsHeldAt qs c path ↔ (IsHeldAt ps b path ⊎ (x.path ≡ child root path))) → AreOnce root qs c rest
  once_turn qs c held one = record {
    held = held;
    once = AllPairs-tail (λ p q. p ≢ q) x.path (paths_read rest) apart_rest;
    fresh = λ path to_come h. elim ((one path).0 h) [
      | inl before ↦ was.fresh path (subst (λ (l : List ReadFile). IsReadAt root l path) (sym steps) (record { read = to_come.read; among = later to_come.read to_come.among; is = to_come.is })) before
      | inr is ↦ All-at (λ q. x.path ≢ q) (paths_read rest) to_come.read.path (AllPairs-head (λ p q. p ≢ q) x.path (paths_read rest) apart_rest) (Contains-map (λ (r : ReadFile). r.path) rest to_come.read to_come.among)
          (is ∙ sym to_come.is)
    ];
  }
    where
      later : (r : ReadFile) → Contains rest r → Contains (x ∷ rest) r
      later r h = Contains-tail x rest r h
