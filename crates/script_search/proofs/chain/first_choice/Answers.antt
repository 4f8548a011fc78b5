use Rattle.std.proofs.Common.{◌∙◌, ap, sym}
use Rattle.std.specs.List.{slice_get}
use Rattle.larch_actions.specs.declared.event.Layout.{Layout}
use Rattle.script_text.specs.Runs.{lines_of}
use Rattle.script_plays.specs.Choices.{choices}
use Rattle.script_search.specs.Boards.{moment_of}
use Rattle.script_search.specs.Ways.{last_choices}
use Rattle.script_search.proofs.Chaining.{first_may, only_line, only_last}
use Rattle.script_search.proofs.Choosing.{may_choices}
use Rattle.script_search.proofs.Stepping.{ways_last}
use Rattle.script_search.proofs.chain.first_choice.Goals as goal

pub returns-in-None-clause-may : goal.returns-in-None-clause-may
returns-in-None-clause-may c = λ x is.
    let l = c.args.plan.now.layout in
    let xs = c.args.plan.now.lines in
    let m = moment_of c.args.board.now in
    let past = sym (ap (slice_get (lines_of c.args.thread xs)) c.played-played.ensures) ∙ (sym c.line.ensures.value ∙ c.in-None.is) in
    let ways = ways_last l xs m m c.args.thread past c.requires.thread c.layout.result.version (sym (ap (λ (z : Layout). z.version) c.layout.ensures.layout)) in
    first_may l xs m c.args.thread (last_choices c.layout.result.version) c.last_choices.result c.last_choices.ensures ways.may x is

pub returns-in-None-clause-only : goal.returns-in-None-clause-only
returns-in-None-clause-only c = λ e s own goes.
    let l = c.args.plan.now.layout in
    let xs = c.args.plan.now.lines in
    let m = moment_of c.args.board.now in
    let past = sym (ap (slice_get (lines_of c.args.thread xs)) c.played-played.ensures) ∙ (sym c.line.ensures.value ∙ c.in-None.is) in
    only_last l xs m c.args.thread e s own goes c.last_choices.result past c.layout.result.version (sym (ap (λ (z : Layout). z.version) c.layout.ensures.layout)) c.last_choices.ensures

pub returns-in-Some-clause-may : goal.returns-in-Some-clause-may
returns-in-Some-clause-may c = λ x is.
    let l = c.args.plan.now.layout in
    let xs = c.args.plan.now.lines in
    let m = moment_of c.args.board.now in
    let there = sym (ap (slice_get (lines_of c.args.thread xs)) c.played-played.ensures) ∙ (sym c.line.ensures.value ∙ c.in-Some.is) in
    first_may l xs m c.args.thread (choices c.in-Some.line.operation) c.choices.result c.choices.ensures (may_choices l xs m c.args.thread c.in-Some.line c.requires.script there) x is

pub returns-in-Some-clause-only : goal.returns-in-Some-clause-only
returns-in-Some-clause-only c = λ e s own goes.
    let l = c.args.plan.now.layout in
    let xs = c.args.plan.now.lines in
    let m = moment_of c.args.board.now in
    let there = sym (ap (slice_get (lines_of c.args.thread xs)) c.played-played.ensures) ∙ (sym c.line.ensures.value ∙ c.in-Some.is) in
    only_line l xs m c.args.thread e s own goes c.choices.result c.in-Some.line there c.choices.ensures
