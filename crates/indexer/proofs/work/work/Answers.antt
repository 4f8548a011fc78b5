use Rattle.std.proofs.Common.{sym, subst}
use Rattle.indexer.specs.Jobs.{GivesRole}
use Rattle.indexer.specs.declared.job.Role.{Role}
use Rattle.indexer.specs.declared.job.Role.TheVariants.{Walker, Parser, Merger}
use Rattle.indexer.proofs.work.work.Goals as goal

pub returns-in-Walker : goal.returns-in-Walker
returns-in-Walker g c =
    let S = g.S.Tree in
    let root = c.args.root.now in
    subst (λ (x : Role g.row.S.Denot). GivesRole S.tree S.may_fail S.faults S.calls root c.args.p.now c.args.job.me c.walk-findings.new.me c.walk-findings.result x (Walker c.walk-findings.new.tree))
    (sym c.in-Walker.is) (c.walk-findings.ensures root)

pub returns-in-Parser : goal.returns-in-Parser
returns-in-Parser g c =
    let S = g.S.Tree in
    subst (λ (x : Role g.row.S.Denot). GivesRole S.tree S.may_fail S.faults S.calls c.args.root.now c.args.p.now c.args.job.me c.parse-findings.new.me c.parse-findings.result x (Parser c.parse-findings.new.tree))
    (sym c.in-Parser.is) c.parse-findings.ensures

pub returns-in-Merger : goal.returns-in-Merger
returns-in-Merger g c =
    let S = g.S.Tree in
    let e = c.merge_all-findings.ensures in
    let root = c.args.root.now in
    subst (λ (x : Role g.row.S.Denot). GivesRole S.tree S.may_fail S.faults S.calls root c.args.p.now c.args.job.me c.merge_all-findings.new.me c.merge_all-findings.result x Merger)
    (sym c.in-Merger.is) ((λ o. e.called o root), e.visits, e.fault, e.share, e.ended)
