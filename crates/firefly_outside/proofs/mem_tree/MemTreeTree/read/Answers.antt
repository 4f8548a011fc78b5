use Rattle.std.proofs.Common.{◌≡◌, ◌∙◌, sym, ap, Some, List, ◌++◌, ◌∷◌, [], subst, inl, inr, rules}
use Rattle.std.specs.Option.{option_map}
use Rattle.firefly_outside.specs.Trees.{Bytes, Path, Calls}
use Rattle.firefly_outside.specs.MemTrees.{node_of}
use Rattle.firefly_outside.specs.Seen.{tree_of}
use Rattle.firefly_outside.specs.declared.tree.FileBytes.{FileBytes}
use Rattle.firefly_outside.proofs.Failing.{counts_fault, reads_fault, not_weak}
use Rattle.firefly_outside.proofs.mem_tree.MemTreeTree.read.Goals as goal
use Rattle.firefly_outside.proofs.mem_tree.MemTreeTree.read.Goals.{in_default-get-via-in-Some+in_default, in_default-get-via-in_default}

pub returns-in-Ok-push-clause-reported : goal.returns-in-Ok-push-clause-reported
returns-in-Ok-push-clause-reported c =
    let here : tree_of c.args.self.now c.in-Ok.path ≡ Some (Bytes c.in-Some-File.bytes.items) = sym (ap (option_map node_of) c.in-Some-File.ensures.value) ∙ ap (λ p. Some (node_of p)) c.in-Some-File.field-0-is in (
      record {
        bytes = c.in-Some-File.bytes.items;
        here = subst (λ (p : Path). tree_of c.args.self.now p ≡ Some (Bytes c.in-Some-File.bytes.items)) c.in-Ok.ensures here;
        shown = c.in-Ok-shown.ensures;
      },
      ap with_read (c.in-Ok-push.ensures.items ∙ ap (λ (p : Path). c.args.self.now.files_read.items ++ p ∷ []) c.in-Ok.ensures),
    )
  where
    with_read : List Path → Calls
    with_read l = record { listed = c.args.self.now.listed.items; files_read = l; failed = c.args.self.now.failed.items }

pub returns-in_default-get-clause-reported : goal.returns-in_default-get-clause-reported
returns-in_default-get-clause-reported c = reads_fault c.args.self.now c.fail-in_default-get.new.self c.args.path.now c.in-Ok.path c.fail-in_default-get.result c.fail-in_default-get.ensures c.in-Ok.ensures
    (elim c.in_default-get.branch [ in_default-get-via-in-Some+in_default w ↦ inr (λ h. search rules) | in_default-get-via-in_default w ↦ inr (λ h. search rules) ])

pub returns-in_default-get-clause-count : goal.returns-in_default-get-clause-count
returns-in_default-get-clause-count c = counts_fault FileBytes c.args.self.now c.fail-in_default-get.new.self c.in-Ok.path c.fail-in_default-get.result c.fail-in_default-get.ensures

pub returns-then-is_weak-clause-reported : goal.returns-then-is_weak-clause-reported
returns-then-is_weak-clause-reported c = reads_fault c.args.self.now c.fail.new.self c.args.path.now c.in-Ok.path c.fail.result c.fail.ensures c.in-Ok.ensures (inl (c.is_weak.ensures.0 c.if-is_weak.true))

pub returns-then-is_weak-clause-count : goal.returns-then-is_weak-clause-count
returns-then-is_weak-clause-count c = counts_fault FileBytes c.args.self.now c.fail.new.self c.in-Ok.path c.fail.result c.fail.ensures

pub returns-in-Ok-push-clause-exact : goal.returns-in-Ok-push-clause-exact
returns-in-Ok-push-clause-exact c = not_weak c.args.self.now.weak.items c.args.path.now c.in-Ok.path c.is_weak.result c.if-is_weak.false c.in-Ok.ensures c.is_weak.ensures.1

pub invariant_of-self : goal.invariant_of-self
invariant_of-self c = record { whole = c.args.self.now.whole }
