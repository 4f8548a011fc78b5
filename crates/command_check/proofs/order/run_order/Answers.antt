use Rattle.std.proofs.Common.{◌≡◌, ◌⊎◌, inl, inr, ap, refl, ◌∙◌}
use Rattle.command_endings.specs.declared.status.Status.{Status}
use Rattle.command_endings.specs.declared.status.Status.TheVariants.{SinkFault}
use Rattle.lock_order.specs.declared.answer.OrderAnswer.{OrderAnswer}
use Rattle.lock_order.specs.declared.answer.OrderAnswer.TheVariants as order
use Rattle.lock_order.specs.Answers.{Agree}
use Rattle.command_check.proofs.Found.{printed}
use Rattle.command_check.specs.Order.{status_of}
use Rattle.command_check.proofs.order.run_order.Goals as goal

-- answers that agree have one status
same_status : (a b : OrderAnswer) → Agree a b → status_of a ≡ status_of b
same_status (order.Found c) (order.Found d) h = refl
same_status a b h = ap status_of h

agreed : (status : Status) (a b : OrderAnswer) → Agree a b → (status ≡ status_of a) ⊎ (status ≡ SinkFault) → (status ≡ status_of b) ⊎ (status ≡ SinkFault)
agreed status a b h (inl e) = inl (e ∙ same_status a b h)
agreed status a b h (inr e) = inr e

pub returns-in-NoCycle-clause-exact : goal.returns-in-NoCycle-clause-exact
returns-in-NoCycle-clause-exact g c = λ bytes a reported mine other f.
    agreed c.print.result (order.NoCycle c.in-NoCycle.events) a (c.in-NoCycle.ensures.exact bytes a reported (λ e. cc) other f) (printed _ _ _ _ _ c.print.ensures)

pub returns-in-Found-clause-exact : goal.returns-in-Found-clause-exact
returns-in-Found-clause-exact g c = λ bytes a reported mine other f.
    agreed c.print-in-Found.result (order.Found c.in-Found.cycle) a (c.in-Found.ensures.exact bytes a reported (λ e. cc) other f) (printed _ _ _ _ _ c.print-in-Found.ensures)

pub returns-in-Illegal-clause-exact : goal.returns-in-Illegal-clause-exact
returns-in-Illegal-clause-exact g c = λ bytes a reported mine other f.
    agreed c.print-in-Illegal.result (order.Illegal c.in-Illegal.place c.in-Illegal.why) a (c.in-Illegal.ensures.exact bytes a reported (λ e. cc) other f) (printed _ _ _ _ _ c.print-in-Illegal.ensures)

pub returns-in-BadLine-clause-exact : goal.returns-in-BadLine-clause-exact
returns-in-BadLine-clause-exact g c = λ bytes a reported mine other f.
    agreed c.ends.result (order.BadLine c.in-BadLine.line) a (c.in-BadLine.ensures.exact bytes a reported (λ e. cc) other f) (inl c.ends.ensures.status)

pub returns-in-TooLong-clause-exact : goal.returns-in-TooLong-clause-exact
returns-in-TooLong-clause-exact g c = λ bytes a reported mine other f.
    agreed c.ends-in-TooLong.result order.TooLong a (c.in-TooLong.ensures.exact bytes a reported (λ e. cc) other f) (inl c.ends-in-TooLong.ensures.status)
