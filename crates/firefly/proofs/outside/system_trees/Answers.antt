use Rattle.std.proofs.Common.{◌+◌, length, refl, ap, ◌∙◌, None}
use Rattle.std.proofs.lemmas.List.{length_push}
use Rattle.firefly.specs.Looks.{unseen}
use Rattle.firefly.proofs.TreeLooks.{shows-more, fresh-more}
use Rattle.firefly.proofs.outside.system_trees.Goals as goal

pub loop-made-init : goal.loop-made-init
loop-made-init g c = let none = c.new-trees.ensures.items in record { many = ap length none; reported = rw none tt; fresh = rw none tt }

pub loop-made-preserved : goal.loop-made-preserved
loop-made-preserved g c =
    let was = c.loop-made.invariant in
    let trees = c.loop-made.trees.items in
    let items = c.in-Ok-push.ensures.items in
    record {
      many = ap length items ∙ length_push trees _ ∙ ap (λ n. n + 1) was.many;
      reported = rw items (shows-more (λ t. unseen t.faults) None c.new.result refl trees was.reported);
      fresh = rw items (fresh-more (λ t. unseen t.faults) c.new.result c.new.ensures trees was.fresh);
    }

pub returns-in_default : goal.returns-in_default
returns-in_default g c = record { many = tt; agree = tt; fresh = tt }

pub returns-in_default-push : goal.returns-in_default-push
returns-in_default-push g c = record { many = tt; agree = tt; fresh = tt }

pub returns-clause-agree : goal.returns-clause-agree
returns-clause-agree g c = (None, c.loop-made.invariant.reported)
