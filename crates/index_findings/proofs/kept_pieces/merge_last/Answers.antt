use Rattle.std.proofs.Common.{◌≡◌, ◌∙◌, List, [], ◌∷◌, ◌++◌, append-nil, arith, sym, ap, subst}
use Rattle.word_index.specs.Index.{Index}
use Rattle.index_findings.specs.Pieces.{AreMergedFrom}
use Rattle.walker.specs.Pile.{AreApart}
use Rattle.index_findings.proofs.PieceLaws.{last_apart, one_less, merged_same, merged_two}
use Rattle.index_findings.proofs.kept_pieces.merge_last.Goals as goal

whole : (xs rest more : List Index) (a b : Index) → xs ≡ more ++ b ∷ [] → more ≡ rest ++ a ∷ [] → xs ≡ (rest ++ a ∷ []) ++ b ∷ []
whole xs rest more a b e f = e ∙ ap (λ (l : List Index). l ++ b ∷ []) f

pub merge-requires : goal.merge-requires
merge-requires c =
    last_apart c.pop-2.new.self.items c.in-Some-pop.before c.in-Some.last
    (subst AreApart (whole c.args.kept.now.items c.pop-2.new.self.items c.pop.new.self.items c.in-Some-pop.before c.in-Some.last c.in-Some.ensures.items c.in-Some-pop.ensures.items) c.requires)

pub returns-in-Ok-clause-merged : goal.returns-in-Ok-clause-merged
returns-in-Ok-clause-merged c =
    let rest = c.pop-2.new.self.items in
    let a = c.in-Some-pop.before in
    let b = c.in-Some.last in
    subst (λ (l : List Index). AreMergedFrom l c.push_reserved-in-Ok.new.self.items) (sym (c.in-Some.ensures.items ∙ ap (λ (l : List Index). l ++ b ∷ []) c.in-Some-pop.ensures.items))
    (subst (AreMergedFrom ((rest ++ a ∷ []) ++ b ∷ [])) (sym c.push_reserved-in-Ok.ensures.items) (merged_two rest a b c.in-Ok.both c.in-Ok.ensures.index c.in-Ok.ensures.union))

pub returns-in_default-clause-merged : goal.returns-in_default-clause-merged
returns-in_default-clause-merged c = merged_same c.args.kept.now.items c.pop.new.self.items (c.in_default.ensures.items ∙ append-nil c.pop.new.self.items)

pub returns-in_default-pop-clause-merged : goal.returns-in_default-pop-clause-merged
returns-in_default-pop-clause-merged c =
    let rest = c.pop-2.new.self.items in
    merged_same c.args.kept.now.items c.push_reserved.new.self.items
    (c.in-Some.ensures.items ∙ (ap (λ (l : List Index). l ++ c.in-Some.last ∷ []) (c.in_default-pop.ensures.items ∙ append-nil rest) ∙ sym c.push_reserved.ensures.items))

pub returns-then-not-is_to_merge-clause-merged : goal.returns-then-not-is_to_merge-clause-merged
returns-then-not-is_to_merge-clause-merged c =
    let rest = c.pop-2.new.self.items in
    let a = c.in-Some-pop.before in
    let b = c.in-Some.last in
    let first = c.push_reserved-then-not-is_to_merge in
    let second = c.push_reserved-then-not-is_to_merge-2 in
    merged_same c.args.kept.now.items second.new.self.items
    (whole c.args.kept.now.items rest c.pop.new.self.items a b c.in-Some.ensures.items c.in-Some-pop.ensures.items ∙ sym (whole second.new.self.items rest first.new.self.items a b second.ensures.items first.ensures.items))

pub returns-in-Err-clause-merged : goal.returns-in-Err-clause-merged
returns-in-Err-clause-merged c =
    let rest = c.pop-2.new.self.items in
    let a = c.in-Some-pop.before in
    let b = c.in-Some.last in
    let first = c.push_reserved-in-Err in
    let second = c.push_reserved-in-Err-2 in
    merged_same c.args.kept.now.items second.new.self.items
    (whole c.args.kept.now.items rest c.pop.new.self.items a b c.in-Some.ensures.items c.in-Some-pop.ensures.items
    ∙ sym (whole second.new.self.items rest first.new.self.items c.in-Err.before c.in-Err.last second.ensures.items first.ensures.items
    ∙ ap (λ (e : Index × Index). (rest ++ e.0 ∷ []) ++ e.1 ∷ []) c.in-Err.ensures.back))

pub returns-in-Ok-clause-fewer : goal.returns-in-Ok-clause-fewer
returns-in-Ok-clause-fewer c = λ yes.
    let rest = c.pop-2.new.self.items in
    let less = one_less rest c.pop.new.self.items c.args.kept.now.items c.push_reserved-in-Ok.new.self.items c.in-Some-pop.before c.in-Some.last c.in-Ok.both c.in-Some.ensures.items c.in-Some-pop.ensures.items c.push_reserved-in-Ok.ensures.items in
    let old = c.args.kept.now.ok.0 in
    let new = c.push_reserved-in-Ok.new.self.ok.0 in
    omega arith
