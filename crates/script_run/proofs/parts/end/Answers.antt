use Rattle.script_run.proofs.Whole.{ends}
use Rattle.script_run.proofs.parts.end.Goals as goal

pub end_thread-requires-clause-none : goal.end_thread-requires-clause-none
end_thread-requires-clause-none g c κs within =
    (ends c.args.pkg.now c.args.pkg.now.layout c.args.playing.me.number c.args.lines.now c.args.playing.numbers c.args.playing.me c.requires.script c.requires.playing).done.lacks
