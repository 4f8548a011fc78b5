use Rattle.std.proofs.Common.{◌≡◌, ◌∙◌, ◌+◌, ◌<◌, sym, subst, arith, None}
use Rattle.firefly_outside.specs.Trees.{Path, Bytes, Adds, HasParent}
use Rattle.firefly_outside.specs.declared.tree.Kind.TheVariants.{File}
use Rattle.firefly_outside.specs.Seen.{tree_of}
use Rattle.firefly_outside.specs.Samples.{file_path, dir_count}
use Rattle.firefly_outside.proofs.SampleLines.{OnOk-then}
use Rattle.firefly_outside.proofs.SampleLemmas.{file_absent, file_parent, file_added, dir_there}
use Rattle.firefly_outside.proofs.samples.add_sample_file.Goals as goal

path_is : (c : goal.After-as_str) → c.as_str.result.now ≡ file_path c.args.file
path_is c = c.as_str.ensures.value ∙ c.in_ok-path.ensures.ok

few : (c : goal.After-as_str) → dir_count (c.args.file + 1) < 20000
few c = omega (arith, c.requires.file)

pub add_file-requires-clause-absent : goal.add_file-requires-clause-absent
add_file-requires-clause-absent c =
    subst (λ (p : Path). tree_of c.args.tree.now p ≡ None) (sym (path_is c)) (file_absent c.args.seed (dir_count (c.args.file + 1)) c.args.file (tree_of c.args.tree.now) (few c) c.requires.file c.requires.before)

pub add_file-requires-clause-parent : goal.add_file-requires-clause-parent
add_file-requires-clause-parent c =
    subst (λ (p : Path). HasParent (tree_of c.args.tree.now) p) (sym (path_is c)) (file_parent c.args.seed (dir_count (c.args.file + 1)) c.args.file (tree_of c.args.tree.now) c.requires.file (dir_there c.args.file) c.requires.before)

path_is_late : (c : goal.After-drop-path) → c.as_str.result.now ≡ file_path c.args.file
path_is_late c = c.as_str.ensures.value ∙ c.in_ok-path.ensures.ok

few_late : (c : goal.After-drop-path) → dir_count (c.args.file + 1) < 20000
few_late c = omega (arith, c.requires.file)

pub returns-clause-after : goal.returns-clause-after
returns-clause-after c = OnOk-then c.add_file.result
    (λ adds. file_added c.args.seed (dir_count (c.args.file + 1)) c.args.file (tree_of c.args.tree.now) (tree_of c.add_file.new.self) (few_late c) c.requires.file (dir_there c.args.file) c.requires.before
    (subst (λ b. Adds (tree_of c.args.tree.now) (tree_of c.add_file.new.self) (file_path c.args.file) File (Bytes b)) c.in_ok-bytes.ensures
    (subst (λ (p : Path). Adds (tree_of c.args.tree.now) (tree_of c.add_file.new.self) p File (Bytes c.in_ok-bytes.bytes.items)) (path_is_late c) adds)))
    c.add_file.ensures.ok
