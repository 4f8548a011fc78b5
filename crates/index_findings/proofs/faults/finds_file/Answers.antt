use Rattle.std.proofs.Common.{◌≡◌, ◌∙◌, true, false, sym, ap}
use Rattle.firefly_outside.specs.Trees.{Path, child}
use Rattle.walker.proofs.ListLemmas.{Contains-unmap}
use Rattle.index_findings.proofs.RestLaws.{by_name, of_name}
use Rattle.index_findings.proofs.faults.finds_file.Goals as goal

untrue : false ≡ true → ⊥
untrue e = cc

pub returns-in-Some : goal.returns-in-Some
returns-in-Some c = (
  (λ yes. by_name c.args.walked.now c.root.result.now c.args.path.now c.in-Some.name.now c.root.ensures c.in-Some.ensures (c.finds_name.ensures.0 yes)),
  (λ h. c.finds_name.ensures.1 (of_name c.args.walked.now c.root.result.now c.args.path.now c.in-Some.name.now c.root.ensures c.in-Some.ensures h)),
)

pub returns-in-None : goal.returns-in-None
returns-in-None c = (
  (λ no. absurd (untrue no)),
  (λ h. let o = Contains-unmap (child c.args.walked.now.root) c.args.walked.now.files c.args.path.now h in
      absurd (c.in-None.ensures o.origin (sym o.is ∙ ap (λ (r : Path). child r o.origin) (sym c.root.ensures)))),
)
