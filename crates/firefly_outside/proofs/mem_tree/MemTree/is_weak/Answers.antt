use Rattle.std.proofs.Common.{◌∙◌, sym, ap}
use Rattle.std.specs.List.{list_any}
use Rattle.std.specs.Cmp.Lexicographic.{pointwise}
use Rattle.std.specs.Bool.{nat_eq}
use Rattle.firefly_outside.proofs.TreeLemmas.{list_any-Decides}
use Rattle.firefly_outside.proofs.mem_tree.MemTree.is_weak.Goals as goal

pub returns : goal.returns
returns c =
    let d = list_any-Decides c.args.self.now.weak.items c.args.path.now in
    let e = c.contains.ensures.value ∙ ap (λ l. list_any (λ q. pointwise nat_eq q c.args.path.now) l) c.deref.ensures.value in
    ((λ t. d.0 (sym e ∙ t)), (λ h. e ∙ d.1 h))
