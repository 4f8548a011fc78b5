use Rattle.std.proofs.Common.{◌∙◌, ◌++◌, ◌∷◌, [], List, ap, sym, subst}
use Rattle.word_index.specs.Index.{Index}
use Rattle.walker.specs.Pile.{AreApart, IsPileOf}
use Rattle.walker.proofs.Steps.{OnOk-map}
use Rattle.walker.proofs.PileLemmas.{pile_push, pile_merge, apart_top, apart_merged}
use Rattle.walker.proofs.read.add_piece.Goals as goal

pub loop-below-init : goal.loop-below-init
loop-below-init c = record { apart = c.requires; index = λ fs gs pile index. pile_push c.args.pile.now.items c.args.next fs gs pile index }

pub returns-then-files-clause-apart : goal.returns-then-files-clause-apart
returns-then-files-clause-apart c = OnOk-map c.put_both.result _ _
    (λ is. subst AreApart (ap (λ (l : List Index). l ++ c.loop-below.top ∷ []) c.in-Some.ensures.items ∙ sym is) c.loop-below.invariant.apart)
    c.put_both.ensures

pub merge_or_drop-requires : goal.merge_or_drop-requires
merge_or_drop-requires c = apart_top c.pop.new.self.items c.in-Some.below c.loop-below.top (subst (λ (l : List Index). AreApart (l ++ c.loop-below.top ∷ [])) c.in-Some.ensures.items c.loop-below.invariant.apart)

pub loop-below-preserved : goal.loop-below-preserved
loop-below-preserved c = record {
  apart = apart_merged c.pop.new.self.items c.in-Some.below c.loop-below.top c.in_ok-top.top
      (subst (λ (l : List Index). AreApart (l ++ c.loop-below.top ∷ [])) c.in-Some.ensures.items c.loop-below.invariant.apart) c.in_ok-top.ensures.union;
  index = λ fs gs pile index. pile_merge c.pop.new.self.items c.in-Some.below c.loop-below.top c.in_ok-top.top (fs ++ gs) c.in_ok-top.ensures.index
      (subst (λ (l : List Index). IsPileOf (l ++ c.loop-below.top ∷ []) (fs ++ gs)) c.in-Some.ensures.items (c.loop-below.invariant.index fs gs pile index));
}
