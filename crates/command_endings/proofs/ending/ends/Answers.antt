use Rattle.std.proofs.Common.{ℕ, subst}
use Rattle.command_endings.specs.Changes.{Notes, change_of}
use Rattle.command_endings.specs.Messages.{bad_line_message, stopped_by_message}
use Rattle.command_endings.proofs.Saying.{noted_ending, noted_stopped}
use Rattle.command_endings.proofs.ending.ends.Goals as goal

pub returns-in-Usage-clause-notes : goal.returns-in-Usage-clause-notes
returns-in-Usage-clause-notes g c = noted_ending c.args.ending _ _ c.in-Usage.is c.say.ensures

pub returns-in-InputFault-clause-notes : goal.returns-in-InputFault-clause-notes
returns-in-InputFault-clause-notes g c = noted_ending c.args.ending _ _ c.in-InputFault.is c.say-in-InputFault.ensures

pub returns-in-OutputFault-clause-notes : goal.returns-in-OutputFault-clause-notes
returns-in-OutputFault-clause-notes g c = noted_ending c.args.ending _ _ c.in-OutputFault.is c.say-in-OutputFault.ensures

pub returns-in-Memory-clause-notes : goal.returns-in-Memory-clause-notes
returns-in-Memory-clause-notes g c = noted_ending c.args.ending _ _ c.in-Memory.is c.say-in-Memory.ensures

pub returns-in-TooMany-clause-notes : goal.returns-in-TooMany-clause-notes
returns-in-TooMany-clause-notes g c = noted_ending c.args.ending _ _ c.in-TooMany.is c.say-in-TooMany.ensures

pub returns-in-TooLong-clause-notes : goal.returns-in-TooLong-clause-notes
returns-in-TooLong-clause-notes g c = noted_ending c.args.ending _ _ c.in-TooLong.is c.say-in-TooLong.ensures

pub returns-in-Stopped-clause-notes : goal.returns-in-Stopped-clause-notes
returns-in-Stopped-clause-notes g c = noted_ending c.args.ending _ _ c.in-Stopped.is (noted_stopped _ _ _ _ _ c.in-Stopped.found-is c.in-Stopped.allowed-is c.say_stopped.ensures)

pub returns-in-BadLine-clause-notes : goal.returns-in-BadLine-clause-notes
returns-in-BadLine-clause-notes g c =
    let Q : ℕ → Type 0 = λ k. Notes (change_of g.N.Sink.held g.N.Sink.faults c.args.notes.now c.say_bad_line.new.notes) (bad_line_message k) in
    noted_ending c.args.ending _ _ c.in-BadLine.is (subst Q c.in-BadLine.line-is c.say_bad_line.ensures)

pub returns-in-StoppedBy-clause-notes : goal.returns-in-StoppedBy-clause-notes
returns-in-StoppedBy-clause-notes g c =
    let Q : ℕ → Type 0 = λ k. Notes (change_of g.N.Sink.held g.N.Sink.faults c.args.notes.now c.say_stopped_by.new.notes) (stopped_by_message k) in
    noted_ending c.args.ending _ _ c.in-StoppedBy.is (subst Q c.in-StoppedBy.job-is c.say_stopped_by.ensures)
