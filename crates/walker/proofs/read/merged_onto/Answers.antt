use Rattle.std.proofs.Common.{◌++◌, ◌∷◌, [], List, sym, subst, Contains}
use Rattle.std.proofs.lemmas.List.Elements.{Contains-append_right}
use Rattle.word_index.specs.Index.{Index}
use Rattle.walker.specs.Pile.{AreApart, IsPileOf}
use Rattle.walker.proofs.ListLemmas.{All-at, AllPairs-head, Contains-head}
use Rattle.walker.proofs.PileLemmas.{NoMeet, pile_merge, pile_one, apart_top, apart_merged, first_merged, nothing_left}
use Rattle.walker.proofs.read.merged_onto.Goals as goal

pub loop-below-init : goal.loop-below-init
loop-below-init c = record {
  apart = c.requires;
  first = λ first apart a h. All-at (NoMeet first) (c.args.pile.now.items ++ c.args.last ∷ []) a (AllPairs-head NoMeet first (c.args.pile.now.items ++ c.args.last ∷ []) apart) h;
  index = λ files pile. pile;
}

pub merge_or_drop-requires : goal.merge_or_drop-requires
merge_or_drop-requires c = apart_top c.pop.new.self.items c.in-Some.below c.loop-below.top (subst (λ (l : List Index). AreApart (l ++ c.loop-below.top ∷ [])) c.in-Some.ensures.items c.loop-below.invariant.apart)

pub loop-below-preserved : goal.loop-below-preserved
loop-below-preserved c = record {
  apart = apart_merged c.pop.new.self.items c.in-Some.below c.loop-below.top c.in_ok-top.top
      (subst (λ (l : List Index). AreApart (l ++ c.loop-below.top ∷ [])) c.in-Some.ensures.items c.loop-below.invariant.apart) c.in_ok-top.ensures.union;
  first = λ first apart. first_merged first c.pop.new.self.items c.in-Some.below c.loop-below.top c.in_ok-top.top
      (λ a h. c.loop-below.invariant.first first apart a (subst (λ (l : List Index). Contains (l ++ c.loop-below.top ∷ []) a) (sym c.in-Some.ensures.items) h)) c.in_ok-top.ensures.union;
  index = λ files pile. pile_merge c.pop.new.self.items c.in-Some.below c.loop-below.top c.in_ok-top.top files c.in_ok-top.ensures.index
      (subst (λ (l : List Index). IsPileOf (l ++ c.loop-below.top ∷ []) files) c.in-Some.ensures.items (c.loop-below.invariant.index files pile));
}

pub returns-clause-apart : goal.returns-clause-apart
returns-clause-apart c = λ first apart. c.loop-below.invariant.first first apart c.loop-below.top (Contains-append_right c.loop-below.pile.items (c.loop-below.top ∷ []) c.loop-below.top (Contains-head c.loop-below.top []))

pub returns-clause-index : goal.returns-clause-index
returns-clause-index c = λ files pile. pile_one c.loop-below.top files (subst (λ (l : List Index). IsPileOf (l ++ c.loop-below.top ∷ []) files) (nothing_left _ _ _ c.in_default.ensures.items c.in_default.ensures.cases.0 c.in_default.ensures.rest) (c.loop-below.invariant.index files pile))
