use Rattle.std.proofs.Common.{◌∙◌, List, Option, ap, subst, sym}
use Rattle.std.specs.List.{slice_get}
use Rattle.script_text.specs.Runs.{lines_of}
use Rattle.script_plays.specs.declared.choice.Choice.{Choice}
use Rattle.script_search.specs.Boards.{moment_of}
use Rattle.script_search.specs.Tries.{Tries, MayTryAll, AreTried}
use Rattle.script_search.proofs.Choosing.{may_choices, may_signal}
use Rattle.script_search.proofs.Expanding.{tries_line, tries_signal}
use Rattle.script_search.proofs.expand.expand.Goals as goal

pub signals-requires-clause-may : goal.signals-requires-clause-may
signals-requires-clause-may c =
    let there = sym (ap (slice_get (lines_of c.args.node.now.thread c.args.plan.now.lines)) c.played-played.ensures) ∙ (sym c.line.ensures.value ∙ c.in-Some.is) in
    may_signal c.args.plan.now.layout c.args.plan.now.lines (moment_of c.args.node.now.board.now) c.args.node.now.thread c.in-Some.line c.requires.script there c.in-Signal.cond c.in-Signal.is

pub each_choice-requires : goal.each_choice-requires
each_choice-requires c =
    let there = sym (ap (slice_get (lines_of c.args.node.now.thread c.args.plan.now.lines)) c.played-played.ensures) ∙ (sym c.line.ensures.value ∙ c.in-Some.is) in
    record {
      sound = c.requires.sound;
      there = c.requires.there;
      board = c.requires.board;
      may = subst (λ (cs : List (Option Choice)). MayTryAll c.args.plan.now.layout c.args.plan.now.lines (moment_of c.args.node.now.board.now) c.args.node.now.thread cs) (sym c.choices.ensures) (may_choices c.args.plan.now.layout c.args.plan.now.lines (moment_of c.args.node.now.board.now) c.args.node.now.thread c.in-Some.line c.requires.script there);
      script = c.requires.script;
    }

pub returns-in-Ok-clause-ok : goal.returns-in-Ok-clause-ok
returns-in-Ok-clause-ok c =
    let there = sym (ap (slice_get (lines_of c.args.node.now.thread c.args.plan.now.lines)) c.played-played.ensures) ∙ (sym c.line.ensures.value ∙ c.in-Some.is) in
    tries_signal c.args.plan.now.layout c.args.plan.now.lines (moment_of c.args.node.now.board.now) c.args.found.now c.signals.new.found c.args.node.now.thread c.in-Some.line there c.in-Ok.moves c.in-Signal.cond c.empty.result c.requires.board c.in-Signal.is c.in-Ok.ensures.ok

pub returns-in-Ok-each_choice : goal.returns-in-Ok-each_choice
returns-in-Ok-each_choice c =
    let there = sym (ap (slice_get (lines_of c.args.node.now.thread c.args.plan.now.lines)) c.played-played.ensures) ∙ (sym c.line.ensures.value ∙ c.in-Some.is) in
    let tries = subst (λ (cs : List (Option Choice)). Tries c.args.plan.now.layout c.args.plan.now.lines c.args.found.now c.each_choice.new.found (moment_of c.args.node.now.board.now) (AreTried c.args.node.now.thread cs) c.in-Ok-each_choice.moves)
    c.choices.ensures c.in-Ok-each_choice.ensures.ok in
    record {
      ok = tries_line c.args.plan.now.layout c.args.plan.now.lines (moment_of c.args.node.now.board.now) c.args.found.now c.each_choice.new.found c.args.node.now.thread c.in-Some.line there c.in-Ok-each_choice.moves c.in_default.not-Signal tries;
      full = tt;
    }
