use Rattle.std.proofs.Common.{◌∷◌, ap, refl, sym}
use Rattle.readers_writers.specs.declared.role.Role.TheVariants.{Idle, Reading, Writing}
use Rattle.readers_writers.specs.Roles.{turn, turn_from_reading}
use Rattle.bench_workloads.specs.Reading.{role_if}
use Rattle.bench_workloads.proofs.Roles.{idle_after, turned_on}
use Rattle.bench_workloads.proofs.readers.take_turn.Goals as goal

pub begin_read-requires-clause-role : goal.begin_read-requires-clause-role
begin_read-requires-clause-role g c = let i = c.requires.idle in let h = i.2 in (h.0, h.1.share, idle_after (role_if c.args.reads) i.1 h.0 h.2)

pub end_read-requires-clause-role : goal.end_read-requires-clause-role
end_read-requires-clause-role g c = let h = c.requires.idle.2 in (turn 0 Reading ∷ h.0, c.begin_read.ensures.role h.0 h.1.share, refl)

pub returns-then-reads : goal.returns-then-reads
returns-then-reads g c = λ n i h.
    let role = role_if c.args.reads in
    let after = c.end_read.ensures.idle n (turn 0 Reading ∷ h.0) (c.begin_read.ensures.idle n h.0 h.1) in
    let over = turn_from_reading 0 after.0 in
    (over ∷ turn 0 Reading ∷ h.0, after.1, turned_on role Reading i over h.0 (ap role_if (sym c.if-reads.true)) refl refl h.2)

pub begin_write-requires-clause-role : goal.begin_write-requires-clause-role
begin_write-requires-clause-role g c = let i = c.requires.idle in let h = i.2 in (h.0, h.1.share, idle_after (role_if c.args.reads) i.1 h.0 h.2)

pub end_write-requires-clause-role : goal.end_write-requires-clause-role
end_write-requires-clause-role g c = let h = c.requires.idle.2 in (turn 0 Writing ∷ h.0, c.begin_write.ensures.role h.0 h.1.share, refl)

pub returns-else-reads : goal.returns-else-reads
returns-else-reads g c = λ n i h.
    let role = role_if c.args.reads in
    let after = c.end_write.ensures.idle n (turn 0 Writing ∷ h.0) (c.begin_write.ensures.idle n h.0 h.1) in
    (turn 0 Idle ∷ turn 0 Writing ∷ h.0, after, turned_on role Writing i (turn 0 Idle) h.0 (ap role_if (sym c.if-reads.false)) refl refl h.2)
