use Rattle.std.proofs.Common.{◌∙◌, get_or-set_other, get_or-set_same}
use borrow.Author.Rules.{rules, scaled_fits≤}
use Rattle.indexer.proofs.run.trees.put_at.Goals as goal

pub offset_bounds-trees-k : goal.offset_bounds-trees-k
offset_bounds-trees-k g c = search (rules, scaled_fits≤)

pub returns-clause-tree : goal.returns-clause-tree
returns-clause-tree g c = λ d. get_or-set_same c.args.trees.now c.args.k c.replace.new.dest d c.requires ∙ c.replace.ensures.after

pub returns-clause-others : goal.returns-clause-others
returns-clause-others g c = λ i d other. get_or-set_other c.args.trees.now c.args.k i c.replace.new.dest d other
