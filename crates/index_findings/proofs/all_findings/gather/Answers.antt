use Rattle.std.proofs.Common.{◌∷◌, [], ◌++◌, length, ap, sym, ◌∙◌, append_assoc, arith}
use Rattle.std.specs.Option.{option_or}
use Rattle.std.proofs.lemmas.List.{flat_map_more}
use Rattle.index_findings.specs.declared.findings.Findings.{Findings}
use Rattle.index_findings.proofs.GatherLaws.{any_lost-more, first_fault-more}
use Rattle.index_findings.proofs.all_findings.gather.Goals as goal

pub loop-found-preserved : goal.loop-found-preserved
loop-found-preserved c =
    let at = c.loop-found in
    let was = at.invariant in
    let x = c.in-Some.found in
    let steps = c.in-Some.ensures.steps.0 in
    let gone = c.in-Some.ensures.steps.1 in
    let short = ap length steps in
    record {
      whole = append_assoc at.yielded (x ∷ []) _ ∙ rw (← steps) was.whole;
      left = (let left = was.left in omega arith);
      visits = c.in_ok-append.ensures.items ∙ (ap (λ l. l ++ x.visits.items) was.visits ∙ flat_map_more (λ (f : Findings). f.visits.items) [] at.yielded x);
      pieces = c.in_ok-append-2.ensures.items ∙ (ap (λ l. l ++ x.pieces.items) was.pieces ∙ flat_map_more (λ (f : Findings). f.pieces.items) [] at.yielded x);
      fault = c.or-fault.ensures ∙ (ap (λ o. option_or o x.fault) was.fault ∙ sym (first_fault-more at.yielded x));
      lost = any_lost-more at.yielded x at.lost was.lost;
    }
