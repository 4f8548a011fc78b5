use Rattle.std.proofs.Common.{◌∷◌, List, subst}
use Rattle.word_index.specs.Index.{Index}
use Rattle.walker.specs.Pile.{AreApart, IsPileOf}
use Rattle.walker.proofs.ListLemmas.{AllPairs-tail}
use Rattle.walker.proofs.PileLemmas.{NoMeet}
use Rattle.walker.proofs.Steps.{IfOk-map}
use Rattle.walker.proofs.read.whole_of.Goals as goal

pub merged_onto-requires : goal.merged_onto-requires
merged_onto-requires c = subst AreApart c.in-Some.ensures.items (AllPairs-tail NoMeet c.args.first c.args.pile.now.items c.requires)

pub merge_first-requires : goal.merge_first-requires
merge_first-requires c = c.in-Ok.ensures.apart c.args.first (subst (λ (l : List Index). AreApart (c.args.first ∷ l)) c.in-Some.ensures.items c.requires)

pub returns-in-Ok : goal.returns-in-Ok
returns-in-Ok c = IfOk-map c.merge_first.result _ _ (λ p union fs gs index pile. union fs gs index (c.in-Ok.ensures.index gs (subst (λ (l : List Index). IsPileOf l gs) c.in-Some.ensures.items pile))) c.merge_first.ensures
