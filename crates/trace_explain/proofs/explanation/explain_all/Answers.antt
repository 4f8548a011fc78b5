use Rattle.trace_explain.proofs.Finding.{failure_of, explainable_of}
use Rattle.trace_explain.proofs.Explaining.{reported_ok, reported_err}
use Rattle.trace_explain.proofs.explanation.explain_all.Goals as goal

pub explain_verdict-requires : goal.explain_verdict-requires
explain_verdict-requires g c = explainable_of _ _ _ _ _ (λ l es kept. kept c.new.ensures) _ _ _ _ c.in-Ok.ensures.watched

pub returns-clause-ok : goal.returns-clause-ok
returns-clause-ok g c =
    let failure = failure_of _ _ _ _ _ (λ l es kept. kept c.new.ensures) _ _ _ _ c.in-Ok.ensures.watched in
    reported_ok _ _ _ _ _ c.in-Ok.found failure c.explain_verdict.result c.explain_verdict.ensures.verdict c.explain_verdict.ensures.ok

pub returns-clause-err : goal.returns-clause-err
returns-clause-err g c =
    let failure = failure_of _ _ _ _ _ (λ l es kept. kept c.new.ensures) _ _ _ _ c.in-Ok.ensures.watched in
    reported_err _ _ _ _ _ c.in-Ok.found failure _ _ _ c.explain_verdict.result c.in-Ok.ensures.just c.explain_verdict.ensures.err
