use Rattle.std.proofs.Common.{List, refl, subst}
use Rattle.exact_text.proofs.Reported.{same_reported, fault_reported}
use Rattle.index_find.specs.Postfix.{tree_of}
use Rattle.index_find.specs.Meaning.{AreMeant}
use Rattle.index_find.specs.declared.query.Step.{Step}
use Rattle.index_find.proofs.within.find_within.Goals as goal

pub answer-requires : goal.answer-requires
answer-requires g c =
    let h = c.in-Ok.ensures.offered in
    (c.new-sieve.result, h.offered, h.kept, h.ended, h.ordered)

pub returns-in-Ok-answer-clause-found : goal.returns-in-Ok-answer-clause-found
returns-in-Ok-answer-clause-found g c =
    let h = c.in-Ok.ensures.offered in
    record {
      rows = h.offered.rows;
      skipped = h.offered.skipped;
      read = h.text;
      meant = subst (λ (q : List Step). AreMeant h.offered.rows (tree_of q) c.in-Ok-answer.paths.items) c.new-sieve.ensures (c.in-Ok-answer.ensures c.new-sieve.result h.offered h.kept);
    }

pub returns-in-Ok-answer-clause-reported : goal.returns-in-Ok-answer-clause-reported
returns-in-Ok-answer-clause-reported g c = same_reported _ _ _ c.in-Ok.ensures.reported.unfailed

pub returns-in-Err-answer-clause-reported : goal.returns-in-Err-answer-clause-reported
returns-in-Err-answer-clause-reported g c = same_reported _ _ _ c.in-Ok.ensures.reported.unfailed

pub returns-in-Err-clause-reported : goal.returns-in-Err-clause-reported
returns-in-Err-clause-reported g c = fault_reported _ _ _ c.in-Err.fault refl c.in-Err.ensures.reported
