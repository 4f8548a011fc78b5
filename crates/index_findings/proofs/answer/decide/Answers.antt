use Rattle.std.specs.Prelude.{All}
use Rattle.walker.specs.Listings.{IsReportedBy}
use Rattle.walker.specs.Walk.{IsWalkOf}
use Rattle.index_findings.specs.declared.findings.Visit.{Visit}
use Rattle.index_findings.proofs.GatherLaws.{ends_fault}
use Rattle.index_findings.specs.Rest.{CallsRest, WalksRest}
use Rattle.index_findings.proofs.RestLaws.{fault_undone, found_in_walk, rest_none, rest_of_walk}
use Rattle.index_findings.proofs.ReportedLaws.{reported_all, reported_both, reported_on}
use Rattle.walker.specs.declared.answer.WalkAnswer.TheVariants.{Memory}
use Rattle.index_findings.proofs.answer.decide.Goals as goal

pub returns-in-Some-clause-ends : goal.returns-in-Some-clause-ends
returns-in-Some-clause-ends g c =
    let tree = g.S.Tree.tree c.args.tree.now in
    let w = c.in-Ok.walked in
    ends_fault tree (g.S.Tree.may_fail c.args.tree.now) c.args.root.now c.args.stop_after c.args.found.fault c.in-Some.fault (g.S.Tree.faults c.args.tree.now) (g.S.Tree.calls c.args.tree.now)
    w c.fault_answer-answer.result c.in-Some.is c.in-Ok.ensures.root
    (reported_on tree (λ t. All (λ (v : Visit). IsReportedBy t v.dir v.listing) c.args.found.visits.items) (IsWalkOf w) (λ t all. c.in-Ok.ensures.reported t all) c.requires.reported)
    c.fault_answer-answer.ensures

pub close-requires-clause-apart : goal.close-requires-clause-apart
close-requires-clause-apart g c κs within = c.requires.apart c.if-lost.false

pub close-requires-clause-found : goal.close-requires-clause-found
close-requires-clause-found g c κs within =
    found_in_walk c.in-Ok.walked c.args.root.now c.args.found.visits.items c.args.found.pieces.items c.in-Ok.ensures.root c.in-Ok.ensures.files (c.requires.found c.if-lost.false)

pub returns-then-lost-clause-rest : goal.returns-then-lost-clause-rest
returns-then-lost-clause-rest g c =
    let tree = g.S.Tree.tree c.args.tree.now in
    let calls = g.S.Tree.calls c.args.tree.now in
    reported_all tree (λ t. CallsRest t c.args.root.now c.args.found.visits.items c.args.found.pieces.items calls calls Memory) (λ t. rest_none t c.args.root.now c.args.found.visits.items c.args.found.pieces.items calls Memory (λ done. done))

pub returns-in_default-clause-rest : goal.returns-in_default-clause-rest
returns-in_default-clause-rest g c =
    let tree = g.S.Tree.tree c.args.tree.now in
    let calls = g.S.Tree.calls c.args.tree.now in
    reported_all tree (λ t. CallsRest t c.args.root.now c.args.found.visits.items c.args.found.pieces.items calls calls Memory) (λ t. rest_none t c.args.root.now c.args.found.visits.items c.args.found.pieces.items calls Memory (λ done. done))

pub returns-in-Some-clause-rest : goal.returns-in-Some-clause-rest
returns-in-Some-clause-rest g c =
    let tree = g.S.Tree.tree c.args.tree.now in
    let calls = g.S.Tree.calls c.args.tree.now in
    let answer = c.fault_answer-answer.result in
    reported_all tree (λ t. CallsRest t c.args.root.now c.args.found.visits.items c.args.found.pieces.items calls calls answer)
    (λ t. rest_none t c.args.root.now c.args.found.visits.items c.args.found.pieces.items calls answer (fault_undone c.in-Ok.walked c.in-Some.fault answer c.fault_answer-answer.ensures))

pub returns-in-None-clause-rest : goal.returns-in-None-clause-rest
returns-in-None-clause-rest g c =
    let tree = g.S.Tree.tree c.args.tree.now in
    let calls = g.S.Tree.calls c.args.tree.now in
    let calls' = g.S.Tree.calls c.close.new.tree in
    let w = c.in-Ok.walked in
    let root = c.args.root.now in
    let visits = c.args.found.visits.items in
    let pieces = c.args.found.pieces.items in
    let own = c.in-Ok.ensures in
    reported_both tree (λ t. All (λ (v : Visit). IsReportedBy t v.dir v.listing) visits) (λ t. WalksRest t w pieces calls calls' c.close.result) (λ t. CallsRest t root visits pieces calls calls' c.close.result)
    (λ t all rest. rest_of_walk t w root visits pieces calls calls' c.close.result own.root (own.reported t all) own.listed (found_in_walk w root visits pieces own.root own.files (c.requires.found c.if-lost.false)) rest)
    c.requires.reported c.close.ensures.rest
