use Rattle.std.proofs.Common.{◌≡◌, ◌∙◌, ◌++◌, ◌∷◌, [], List, ap, sym, subst, take, ◌+◌, arith, Contains}
use Rattle.std.specs.List.Sorted.{IsPermutation}
use Rattle.std.proofs.lemmas.List.Sorted.{Contains-permutation, IsPermutation-sym}
use Rattle.std.proofs.lemmas.Grind.{common_steps}
use Rattle.firefly_outside.specs.Trees.{Path}
use Rattle.walker.specs.Kinds.{path_as}
use Rattle.walker.proofs.Children.{paths_as, paths_as-push, named_from, named_to, Distinct-paths_as, Distinct-permutation}
use Rattle.walker.proofs.listing.children_of.Goals as goal

pub loop-entry-preserved : goal.loop-entry-preserved
loop-entry-preserved c =
    let more : take (c.loop-entry.entry-index + 1) c.args.entries.now.items ≡ take c.loop-entry.entry-index c.args.entries.now.items ++ c.entry-item.result ∷ [] = grind (arith, common_steps) in
    c.in_ok-add_child.ensures ∙ ap (λ l. l ++ path_as c.args.dir.now c.args.kind c.entry-item.result) c.loop-entry.invariant
    ∙ sym (paths_as-push c.args.dir.now c.args.kind (take c.loop-entry.entry-index c.args.entries.now.items) c.entry-item.result)
    ∙ ap (paths_as c.args.dir.now c.args.kind) (sym more)

moved : (c : goal.In_ok-sort) → IsPermutation (paths_as c.args.dir.now c.args.kind c.args.entries.now.items) c.sort.new.self.items
moved c =
    let all : take c.loop-entry.entry-index c.args.entries.now.items ≡ c.args.entries.now.items = grind (arith, common_steps) in
    subst (λ (l : List Path). IsPermutation l c.sort.new.self.items) (c.loop-entry.invariant ∙ ap (paths_as c.args.dir.now c.args.kind) all) c.in_ok-sort.ensures.permutation

pub returns-clause-named : goal.returns-clause-named
returns-clause-named c = λ p. (
  λ h. named_from c.args.dir.now c.args.kind c.args.entries.now.items p (Contains-permutation _ _ p (IsPermutation-sym _ _ (moved c)) h),
  λ n. Contains-permutation _ _ p (moved c) (subst (λ (q : Path). Contains (paths_as c.args.dir.now c.args.kind c.args.entries.now.items) q) (sym n.is) (named_to c.args.dir.now c.args.kind c.args.entries.now.items n.entry n.among n.called)),
)

pub returns-clause-distinct : goal.returns-clause-distinct
returns-clause-distinct c = Distinct-permutation _ _ (moved c) (Distinct-paths_as c.args.dir.now c.args.kind c.args.entries.now.items c.requires.distinct)
