use Rattle.readers_writers.specs.declared.role.Role.TheVariants.{Idle}
use Rattle.test_condition.specs.Acting.{IsActing}
use Rattle.test_condition.proofs.late_writer.read_until_it_comes.Given as goal

abbrev pub invariant-loop-i : goal.invariant-loop-i
invariant-loop-i g l = IsActing l.pkg l.initial.me.number Idle l.me
