use Rattle.std.proofs.Common.{◌∙◌, List, Option, ap, subst, sym}
use Rattle.std.specs.List.{slice_get}
use Rattle.larch_actions.specs.declared.event.Layout.{Layout}
use Rattle.script_text.specs.Runs.{lines_of}
use Rattle.script_plays.specs.declared.choice.Choice.{Choice}
use Rattle.script_search.specs.Boards.{moment_of}
use Rattle.script_search.specs.Ways.{AreWays}
use Rattle.script_search.proofs.Stepping.{ways_last, ways_line, ways_signal}
use Rattle.script_search.proofs.step.ways.Goals as goal

pub returns-in-None : goal.returns-in-None
returns-in-None c =
    let l = c.args.plan.now.layout in
    let xs = c.args.plan.now.lines in
    let past = sym (ap (slice_get (lines_of c.args.t xs)) c.played-played.ensures) ∙ (sym c.line.ensures.value ∙ c.in-None.is) in
    subst (λ (cs : List (Option Choice)). AreWays l xs (moment_of c.args.from.now) (moment_of c.args.to.now) c.args.t cs) (sym c.last_choices.ensures)
    (ways_last l xs (moment_of c.args.from.now) (moment_of c.args.to.now) c.args.t past c.requires.thread c.layout.result.version (sym (ap (λ (z : Layout). z.version) c.layout.ensures.layout)))

pub returns-in-Signal : goal.returns-in-Signal
returns-in-Signal c =
    let there = sym (ap (slice_get (lines_of c.args.t c.args.plan.now.lines)) c.played-played.ensures) ∙ (sym c.line.ensures.value ∙ c.in-Some.is) in
    ways_signal c.args.plan.now.layout c.args.plan.now.lines (moment_of c.args.from.now) (moment_of c.args.to.now) c.args.t c.in-Some.line c.requires.script there c.in-Signal.cond c.members-left.result c.requires.to
    c.in-Signal.is c.members-left.ensures

pub returns-in_default : goal.returns-in_default
returns-in_default c =
    let l = c.args.plan.now.layout in
    let xs = c.args.plan.now.lines in
    let there = sym (ap (slice_get (lines_of c.args.t xs)) c.played-played.ensures) ∙ (sym c.line.ensures.value ∙ c.in-Some.is) in
    subst (λ (cs : List (Option Choice)). AreWays l xs (moment_of c.args.from.now) (moment_of c.args.to.now) c.args.t cs) (sym c.choices.ensures)
    (ways_line l xs (moment_of c.args.from.now) (moment_of c.args.to.now) c.args.t c.in-Some.line c.requires.script there c.in_default.not-Signal)
