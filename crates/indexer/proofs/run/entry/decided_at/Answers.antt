use Rattle.std.proofs.Common.{None, ap, sym, subst, ◌∙◌}
use Rattle.std.proofs.lemmas.Option.{same_Some}
use Rattle.std.specs.Prelude.{IfSome}
use Rattle.index_findings.specs.Gathered.{Ends}
use Rattle.index_findings.specs.Rest.{CallsRest}
use Rattle.indexer.proofs.run.entry.decided_at.Goals as goal

pub decide-answer-requires-clause-reported : goal.decide-answer-requires-clause-reported
decide-answer-requires-clause-reported g c κs within = c.requires.reported c.in-Some.tree (sym c.in-Some.ensures.was)

pub decide-answer-requires-clause-pieces : goal.decide-answer-requires-clause-pieces
decide-answer-requires-clause-pieces g c κs within = c.requires.pieces c.in-Some.tree (sym c.in-Some.ensures.was)

pub returns-clause-others : goal.returns-clause-others
returns-clause-others g c = λ i d ne. c.put_at-2.ensures.others i d ne ∙ c.put_at.ensures.others i d ne

pub returns-clause-ends : goal.returns-clause-ends
returns-clause-ends g c = λ s e.
    let S = g.S.Tree in
    let r = c.decide-answer.new.tree in
    let own = c.decide-answer.ensures in
    let same = same_Some c.in-Some.tree s (c.in-Some.ensures.was ∙ e) in (
      r,
      c.put_at-2.ensures.tree None,
      own.tree_stays ∙ ap S.tree same,
      own.weak_stays ∙ ap S.may_fail same,
      subst (λ (q : g.row.S.Denot). Ends (S.tree q) (S.may_fail q) c.args.root.now c.args.stop_after c.args.found.fault (S.faults q) (S.faults r) (S.calls q) (S.calls r) c.decide-answer.result) same own.ends,
    )

pub returns-clause-rest : goal.returns-clause-rest
returns-clause-rest g c = λ s r e is.
    let S = g.S.Tree in
    let same = same_Some c.in-Some.tree s (c.in-Some.ensures.was ∙ e) in
    let now = same_Some c.decide-answer.new.tree r (sym (c.put_at-2.ensures.tree None) ∙ is) in
    subst (λ (q : g.row.S.Denot). IfSome (S.tree q) (λ t. CallsRest t c.args.root.now c.args.found.visits.items c.args.found.pieces.items (S.calls q) (S.calls r) c.decide-answer.result)) same
    (subst (λ (q : g.row.S.Denot). IfSome (S.tree c.in-Some.tree) (λ t. CallsRest t c.args.root.now c.args.found.visits.items c.args.found.pieces.items (S.calls c.in-Some.tree) (S.calls q) c.decide-answer.result)) now
    c.decide-answer.ensures.rest)
