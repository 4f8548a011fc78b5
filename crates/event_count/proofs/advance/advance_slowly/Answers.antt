use Rattle.std.proofs.Common.{Bool, [], subst}
use Rattle.nub_rule.specs.Known.{Makes}
use Rattle.nub_rule.specs.Plays.{event}
use Rattle.event_count.specs.Quiet.{quiet_action}
use Rattle.event_count.proofs.advance.advance_slowly.Goals as goal

pub returns-then-not-looks_traced-clause-all : goal.returns-then-not-looks_traced-clause-all
returns-then-not-looks_traced-clause-all g c = λ all. subst (λ (b : Bool). Makes (event c.args.me.now.number (quiet_action b c.args.c.0)) c.args.me.now c.looks_traced.new.me) all (c.looks_traced.ensures.event c.if-not-looks_traced.true)

pub returns-then-not-looks_traced-clause-one : goal.returns-then-not-looks_traced-clause-one
returns-then-not-looks_traced-clause-one g c = λ one. ([], subst (λ (b : Bool). Makes (event c.args.me.now.number (quiet_action b c.args.c.0)) c.args.me.now c.looks_traced.new.me) one (c.looks_traced.ensures.event c.if-not-looks_traced.true))
