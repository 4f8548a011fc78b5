use Rattle.std.proofs.Common.{◌≡◌, Some}
use Rattle.nub_rule.specs.declared.view.Stand.{Stand}
use Rattle.nub_rule.specs.declared.view.Stage.{Stage}
use Rattle.nub_rule.specs.Parts.{HasTested}
use Rattle.nub.proofs.sleeping.sleep.Given as goal

abbrev pub invariant-loop : goal.invariant-loop
invariant-loop g l = (s : Stand) × (stage : Stage) × (l.initial.me.stand ≡ Some s) × HasTested stage × (l.me ≡ record l.initial.me { part = record l.initial.me.part { stand = Some (record s { stage = stage }) } })
