use Rattle.std.proofs.Common.{◌≡◌, ◌∙◌, sym, ap, Some, List, ◌++◌, ◌∷◌, [], subst, inl, inr, rules}
use Rattle.std.specs.Option.{option_map}
use Rattle.std.proofs.Common.{Vec, Global}
use Rattle.firefly_outside.specs.declared.tree.Entry.{Entry}
use Rattle.firefly_outside.specs.Trees.{Directory, AreEntries, IsListing, Path, Calls}
use Rattle.firefly_outside.specs.MemTrees.{node_of}
use Rattle.firefly_outside.specs.Seen.{tree_of}
use Rattle.firefly_outside.proofs.TreeLemmas.{IsListing-copy}
use Rattle.firefly_outside.proofs.Failing.{counts_fault, lists_fault, not_weak}
use Rattle.firefly_outside.proofs.mem_tree.MemTreeTree.list.Goals as goal
use Rattle.firefly_outside.proofs.mem_tree.MemTreeTree.list.Goals.{in_default-get-via-in-Some+in_default, in_default-get-via-in_default}

listing : (c : goal.In-Ok-push) → AreEntries c.in-Ok-clone.entries.items × IsListing (tree_of c.args.self.now) c.args.dir.now c.in-Ok-clone.entries.items
listing c =
    let here : tree_of c.args.self.now c.in-Ok.path ≡ Some (Directory c.in-Some-Dir.entries.items) = sym (ap (option_map node_of) c.in-Some-Dir.ensures.value) ∙ ap (λ p. Some (node_of p)) c.in-Some-Dir.field-0-is in
    IsListing-copy (tree_of c.args.self.now) c.args.dir.now c.in-Some-Dir.entries.items c.in-Ok-clone.entries.items c.args.self.now.whole
    (subst (λ (p : Path). tree_of c.args.self.now p ≡ Some (Directory c.in-Some-Dir.entries.items)) c.in-Ok.ensures here) c.in-Ok-clone.ensures.cases.0

pub returns-in-Ok-push-clause-lawful : goal.returns-in-Ok-push-clause-lawful
returns-in-Ok-push-clause-lawful c = (listing c).0

pub returns-in-Ok-push-clause-reported : goal.returns-in-Ok-push-clause-reported
returns-in-Ok-push-clause-reported c = ((listing c).1, ap with_listed (c.in-Ok-push.ensures.items ∙ ap (λ (p : Path). c.args.self.now.listed.items ++ p ∷ []) c.in-Ok.ensures))
  where
    with_listed : List Path → Calls
    with_listed l = record { listed = l; files_read = c.args.self.now.files_read.items; failed = c.args.self.now.failed.items }

pub returns-in_default-get-clause-reported : goal.returns-in_default-get-clause-reported
returns-in_default-get-clause-reported c = lists_fault {V = Vec Entry Global} (λ (v : Vec Entry Global). v.items) c.args.self.now c.fail-in_default-get.new.self c.args.dir.now c.in-Ok.path c.fail-in_default-get.result c.fail-in_default-get.ensures c.in-Ok.ensures
    (elim c.in_default-get.branch [ in_default-get-via-in-Some+in_default w ↦ inr (λ h. search rules) | in_default-get-via-in_default w ↦ inr (λ h. search rules) ])

pub returns-in_default-get-clause-count : goal.returns-in_default-get-clause-count
returns-in_default-get-clause-count c = counts_fault (Vec Entry Global) c.args.self.now c.fail-in_default-get.new.self c.in-Ok.path c.fail-in_default-get.result c.fail-in_default-get.ensures

pub returns-then-is_weak-clause-reported : goal.returns-then-is_weak-clause-reported
returns-then-is_weak-clause-reported c = lists_fault {V = Vec Entry Global} (λ (v : Vec Entry Global). v.items) c.args.self.now c.fail.new.self c.args.dir.now c.in-Ok.path c.fail.result c.fail.ensures c.in-Ok.ensures (inl (c.is_weak.ensures.0 c.if-is_weak.true))

pub returns-then-is_weak-clause-count : goal.returns-then-is_weak-clause-count
returns-then-is_weak-clause-count c = counts_fault (Vec Entry Global) c.args.self.now c.fail.new.self c.in-Ok.path c.fail.result c.fail.ensures

pub returns-in-Ok-push-clause-exact : goal.returns-in-Ok-push-clause-exact
returns-in-Ok-push-clause-exact c = not_weak c.args.self.now.weak.items c.args.dir.now c.in-Ok.path c.is_weak.result c.if-is_weak.false c.in-Ok.ensures c.is_weak.ensures.1

pub invariant_of-self : goal.invariant_of-self
invariant_of-self c = record { whole = c.args.self.now.whole }
