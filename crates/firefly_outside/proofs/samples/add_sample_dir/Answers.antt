use Rattle.std.proofs.Common.{◌≡◌, ◌∙◌, ◌/◌, ◌%◌, [], sym, subst, inr, arith, None}
use Rattle.firefly_outside.specs.Trees.{Path, Directory, Adds, HasParent}
use Rattle.firefly_outside.specs.declared.tree.Kind.TheVariants.{Dir}
use Rattle.firefly_outside.specs.Seen.{tree_of}
use Rattle.firefly_outside.specs.Samples.{dir_path, HasSamples}
use Rattle.firefly_outside.proofs.SampleLines.{OnOk-then}
use Rattle.firefly_outside.proofs.SampleLemmas.{dir_absent, dir_parent, dir_added, dirs_before}
use Rattle.firefly_outside.proofs.samples.add_sample_dir.Goals as goal

path_is : (c : goal.After-as_str) → c.as_str.result.now ≡ dir_path (c.args.file / 100)
path_is c = c.as_str.ensures.value ∙ c.in_ok-path.ensures.ok

first : (c : goal.After-as_str) → c.args.file % 100 ≡ 0
first c = omega (arith, c.if-file-ne0.false)

before : (c : goal.After-as_str) → HasSamples c.args.seed (c.args.file / 100) c.args.file (tree_of c.args.tree.now)
before c = subst (λ n. HasSamples c.args.seed n c.args.file (tree_of c.args.tree.now)) (dirs_before c.args.file (first c)).0 c.requires.before

pub add_dir-requires-clause-absent : goal.add_dir-requires-clause-absent
add_dir-requires-clause-absent c =
    subst (λ (p : Path). tree_of c.args.tree.now p ≡ None) (sym (path_is c)) (dir_absent c.args.seed (c.args.file / 100) c.args.file (tree_of c.args.tree.now) (omega (arith, c.requires.file)) c.requires.file (before c))

pub add_dir-requires-clause-parent : goal.add_dir-requires-clause-parent
add_dir-requires-clause-parent c =
    inr (subst (λ (p : Path). HasParent (tree_of c.args.tree.now) p) (sym (path_is c)) (dir_parent c.args.seed (c.args.file / 100) c.args.file (tree_of c.args.tree.now) (omega (arith, c.requires.file)) (before c)))

path_is_late : (c : goal.After-drop-path) → c.as_str.result.now ≡ dir_path (c.args.file / 100)
path_is_late c = c.as_str.ensures.value ∙ c.in_ok-path.ensures.ok

first_late : (c : goal.After-drop-path) → c.args.file % 100 ≡ 0
first_late c = omega (arith, c.if-file-ne0.false)

before_late : (c : goal.After-drop-path) → HasSamples c.args.seed (c.args.file / 100) c.args.file (tree_of c.args.tree.now)
before_late c = subst (λ n. HasSamples c.args.seed n c.args.file (tree_of c.args.tree.now)) (dirs_before c.args.file (first_late c)).0 c.requires.before

pub returns-clause-after : goal.returns-clause-after
returns-clause-after c = OnOk-then c.add_dir.result
    (λ adds. subst (λ n. HasSamples c.args.seed n c.args.file (tree_of c.add_dir.new.self)) (sym (dirs_before c.args.file (first_late c)).1)
    (dir_added c.args.seed (c.args.file / 100) c.args.file (tree_of c.args.tree.now) (tree_of c.add_dir.new.self) (omega (arith, c.requires.file)) c.requires.file (omega (arith, first_late c)) (before_late c)
    (subst (λ (p : Path). Adds (tree_of c.args.tree.now) (tree_of c.add_dir.new.self) p Dir (Directory [])) (path_is_late c) adds)))
    c.add_dir.ensures.ok
