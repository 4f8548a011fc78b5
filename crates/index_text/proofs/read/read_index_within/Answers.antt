use Rattle.std.proofs.Common.{List, ℕ, ◌≤◌, length, IfSome, refl, sym, subst}
use Rattle.exact_text.proofs.Reported.{same_reported, fault_reported}
use Rattle.word_index.specs.Index.{Row}
use Rattle.index_text.specs.Texts.{ReadsAs}
use Rattle.index_text.proofs.read.read_index_within.Goals as goal

pub finish-requires : goal.finish-requires
finish-requires g c =
    let h = c.in-Ok.ensures.offered in
    (h.offered, h.kept, h.ended, h.ordered)

pub returns-in-Ok-finish-clause-index : goal.returns-in-Ok-finish-clause-index
returns-in-Ok-finish-clause-index g c =
    let h = c.in-Ok.ensures.offered in
    let f = c.in-Ok-finish.ensures h.offered h.kept in
    let left = g.I.Source.left c.args.input.now in
    let most = c.args.most in
    let skipped = subst (λ (ps : List (List ℕ)). IfSome left (λ bytes. (length bytes ≤ most) × ReadsAs bytes h.offered.rows ps)) (sym f.1) h.text in
    subst (λ (rs : List Row). IfSome left (λ bytes. (length bytes ≤ most) × ReadsAs bytes rs c.in-Ok-finish.index.skipped)) (sym f.0) skipped

pub returns-in-Ok-finish-clause-reported : goal.returns-in-Ok-finish-clause-reported
returns-in-Ok-finish-clause-reported g c = same_reported _ _ _ c.in-Ok.ensures.reported.unfailed

pub returns-in-Err-clause-reported : goal.returns-in-Err-clause-reported
returns-in-Err-clause-reported g c = fault_reported _ _ _ c.in-Err.fault refl c.in-Err.ensures.reported
