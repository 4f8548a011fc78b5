use Rattle.std.proofs.Common.{◌≡◌, false, Some, None, Option, length, ap, sym, subst, arith, refl, IfOk, Ok, Err, Result}
use Rattle.firefly_outside.specs.Trees.{Contents}
use Rattle.indexer.specs.declared.plan.Plan.{Plan}
use Rattle.index_sample.specs.Summary.{IsSummary}
use Rattle.index_sample.specs.Sums.{SumsAnswer}
use Rattle.index_sample.specs.Trees.{AreSamples}
use Rattle.index_sample.specs.declared.summary.SampleSums.{SampleSums}
use Rattle.index_sample.proofs.Placed.{tree_there, tree_at}
use Rattle.index_sample.proofs.Ends.{no_stop, ends_so, summary_of, IfOk-then}
use Rattle.index_sample.proofs.sums.index_summary.Goals as goal

-- two walkers, two parsers and one merger
abbrev the_plan : Plan
the_plan = record { walkers = 2; parsers = 2; mergers = 1; stop_after = None; traced = false }

pub index-answer-requires-clause-plan : goal.index-answer-requires-clause-plan
index-answer-requires-clause-plan g c κs within = record {
  walkers = (omega arith, omega arith);
  parsers = (omega arith, omega arith);
  mergers = (omega arith, omega arith);
  stop = λ n e. absurd (no_stop n e);
}

pub index-answer-requires-clause-trees : goal.index-answer-requires-clause-trees
index-answer-requires-clause-trees g c κs within = omega (arith, ap length c.as_mut_slice.ensures.value, c.in_ok-trees.ensures.many)

pub index-answer-requires-clause-there : goal.index-answer-requires-clause-there
index-answer-requires-clause-there g c κs within = λ k low.
    let a = subst (AreSamples c.args.seed c.args.files) (sym c.as_mut_slice.ensures.value) c.in_ok-trees.ensures in
    tree_there a.tree c.as_mut_slice.result.now a.each k (omega (arith, low, a.many))

pub index-answer-requires-clause-shows : goal.index-answer-requires-clause-shows
index-answer-requires-clause-shows g c κs within =
    let a = subst (AreSamples c.args.seed c.args.files) (sym c.as_mut_slice.ensures.value) c.in_ok-trees.ensures in
    (Some a.tree, λ k s e. ap (λ (t : Contents). Some t) (tree_at a.tree c.as_mut_slice.result.now a.each k s e))

pub sums_in-requires : goal.sums_in-requires
sums_in-requires g c =
    let a = subst (AreSamples c.args.seed c.args.files) (sym c.as_mut_slice.ensures.value) c.in_ok-trees.ensures in
    ends_so c.args.seed c.args.files the_plan c.as_mut_slice.result.now c.index-answer.new.trees refl c.requires.few a c.index-answer.result
    (c.index-answer.ensures.says (Some a.tree) (λ k s e. ap (λ (t : Contents). Some t) (tree_at a.tree c.as_mut_slice.result.now a.each k s e)))
    c.index-answer.ensures.cause

pub returns : goal.returns
returns g c =
    let a = subst (AreSamples c.args.seed c.args.files) (sym c.as_mut_slice.ensures.value) c.in_ok-trees.ensures in
    IfOk-then c.sums_in.result
    (summary_of c.args.seed c.args.files the_plan c.as_mut_slice.result.now a c.index-answer.result
    (c.index-answer.ensures.says (Some a.tree) (λ k s e. ap (λ (t : Contents). Some t) (tree_at a.tree c.as_mut_slice.result.now a.each k s e))))
    c.sums_in.ensures
