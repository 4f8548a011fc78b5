use Rattle.std.proofs.Common.{codes}
use Rattle.clap.specs.Words.{with_rule}
use Rattle.command_line.specs.Reading.{bare_app, option_rule}
use Rattle.command_line.proofs.options.index_command.Goals as goal

pub returns : goal.returns
returns c =
    let first = with_rule bare_app (option_rule (codes "walkers")) in
    let second = with_rule first (option_rule (codes "parsers")) in
    let third = with_rule second (option_rule (codes "mergers")) in
    let fourth = with_rule third (option_rule (codes "stop-after")) in
    c.with_dir.ensures fourth (c.with_option-stop.ensures third (c.with_option-mergers.ensures second (c.with_option-parsers.ensures first (c.with_option-walkers.ensures bare_app c.bare_command.ensures))))
