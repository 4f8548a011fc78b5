use Rattle.std.proofs.Common.{◌≡◌, ◌∙◌, ◌<◌, ◌≤◌, ℕ, true, false, List, Contains, Some, length, refl, sym, ap, subst, arith}
use Rattle.std.specs.Prelude.{slice_get}
use Rattle.std.specs.Str.{bytes_eq}
use Rattle.std.proofs.lemmas.Option.{slice_get_within, get_or_from_slice_get, slice_get-get_or}
use Rattle.std.proofs.lemmas.Slice.Eq.{bytes_eq-Decides}
use Rattle.firefly_outside.specs.Trees.{Path}
use Rattle.index_findings.proofs.faults.finds_name.Goals as goal

untrue : false ≡ true → ⊥
untrue e = cc

found_at : (files : List Path) (at : ℕ) (file name : Path) → slice_get files at ≡ Some file → bytes_eq file name ≡ true → Contains files name
found_at files at file name here same =
    let is : file ≡ name = (bytes_eq-Decides file name).0 same in
    subst (Contains files) is (at, slice_get_within files at file here, get_or_from_slice_get files at file file here)

none_below : (files : List Path) (at : ℕ) (name : Path) → length files ≤ at → ((k : ℕ) → k < at → slice_get files k ≡ Some name → ⊥) → Contains files name → ⊥
none_below files at name all none h = none h.0 (let within = h.1 in omega arith) (slice_get-get_or files h.0 name h.1 ∙ ap (λ (x : Path). Some x) h.2)

pub returns-then-eq : goal.returns-then-eq
returns-then-eq c = (
  (λ _. found_at c.args.walked.now.files c.loop-at.at c.file_at.result.now c.args.name.now c.file_at.ensures (sym c.eq.ensures ∙ c.if-eq.true)),
  (λ _. refl),
)

pub returns : goal.returns
returns c = (
  (λ no. absurd (untrue no)),
  (λ h. absurd (none_below c.args.walked.now.files c.loop-at.at c.args.name.now (let many = c.files_found-at-end.ensures.many in let end = c.loop-at-test.false in omega arith) c.loop-at.invariant h)),
)
