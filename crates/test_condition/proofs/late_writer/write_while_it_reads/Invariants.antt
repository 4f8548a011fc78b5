use Rattle.readers_writers.specs.declared.role.Role.TheVariants.{Idle}
use Rattle.test_condition.specs.Acting.{IsActing}
use Rattle.test_condition.proofs.late_writer.write_while_it_reads.Given as goal

abbrev pub invariant-loop-i : goal.invariant-loop-i
invariant-loop-i g l = IsActing l.pkg l.initial.me.number Idle l.me
