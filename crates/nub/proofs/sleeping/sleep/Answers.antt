use Rattle.std.proofs.Common.{ap, refl, sym, true≢false, Option as Opt, ◌∙◌}
use Rattle.nub_rule.specs.declared.view.Stage.TheVariants.{Asleep, Found}
use Rattle.nub_rule.specs.declared.view.Stand.{Stand}
use Rattle.nub.proofs.Knowing.{alerted_asleep, asleep_stand, found_stand, still_asleep, woken_at_cond, woken_at_gate}
use Rattle.nub.proofs.sleeping.sleep.Goals.{else-alertable-via-then-alertable+else-read_alert-ne0, else-alertable-via-else-alertable}
use Rattle.nub.proofs.sleeping.sleep.Goals as goal

pub loop-init : goal.loop-init
loop-init g c = let t = c.requires.tested in (t.0, t.0.stage, t.1, t.2, ap (λ (w : Opt Stand). record c.args.me.now { part = record c.args.me.now.part { stand = w } }) t.1)

pub read_ready-requires-clause-tested : goal.read_ready-requires-clause-tested
read_ready-requires-clause-tested g c κs within = let i = c.loop.invariant in (record i.0 { stage = i.1 }, ap (λ k. k.stand) i.4, i.3)

pub clear_ready-requires-clause-ready : goal.clear_ready-requires-clause-ready
clear_ready-requires-clause-ready g c κs within = let i = c.loop.invariant in
    (record i.0 { stage = Found }, found_stand c.args.me.now c.loop.me c.read_ready.new.me i.0 i.1 i.2 i.4 (c.read_ready.ensures.found c.if-read_ready-ne0.true), tt)

pub returns-then-read_ready-ne0-clause-plain : goal.returns-then-read_ready-ne0-clause-plain
returns-then-read_ready-ne0-clause-plain g c = λ _. refl

pub returns-then-read_ready-ne0-clause-is_new : goal.returns-then-read_ready-ne0-clause-is_new
returns-then-read_ready-ne0-clause-is_new g c = λ _. let i = c.loop.invariant in λ s stood low. c.learn.ensures
    ∙ woken_at_gate c.args.me.now c.loop.me c.read_ready.new.me i.0 i.1 i.2 i.4 c.clear_ready.new.me (c.read_ready.ensures.found c.if-read_ready-ne0.true) c.clear_ready.ensures.is_new s stood low

pub returns-then-read_ready-ne0-clause-at_cond : goal.returns-then-read_ready-ne0-clause-at_cond
returns-then-read_ready-ne0-clause-at_cond g c = λ _. let i = c.loop.invariant in λ s stood low. c.learn.ensures
    ∙ woken_at_cond c.args.me.now c.loop.me c.read_ready.new.me i.0 i.1 i.2 i.4 c.clear_ready.new.me (c.read_ready.ensures.found c.if-read_ready-ne0.true) c.clear_ready.ensures.at_cond s stood low

pub returns-then-read_ready-ne0-clause-alerted : goal.returns-then-read_ready-ne0-clause-alerted
returns-then-read_ready-ne0-clause-alerted g c = λ e. absurd (true≢false e)

pub returns-then-read_alert-ne0-clause-plain : goal.returns-then-read_alert-ne0-clause-plain
returns-then-read_alert-ne0-clause-plain g c = λ e. absurd (true≢false (sym c.if-alertable.true ∙ e))

pub returns-then-read_alert-ne0-clause-is_new : goal.returns-then-read_alert-ne0-clause-is_new
returns-then-read_alert-ne0-clause-is_new g c = λ e. absurd (true≢false (sym e))

pub returns-then-read_alert-ne0-clause-at_cond : goal.returns-then-read_alert-ne0-clause-at_cond
returns-then-read_alert-ne0-clause-at_cond g c = λ e. absurd (true≢false (sym e))

pub returns-then-read_alert-ne0-clause-alerted : goal.returns-then-read_alert-ne0-clause-alerted
returns-then-read_alert-ne0-clause-alerted g c = λ _. let i = c.loop.invariant in
    alerted_asleep c.args.me.now c.loop.me c.read_ready.new.me i.0 i.1 i.2 i.4 c.read_alert.new.me (c.read_ready.ensures.asleep c.if-read_ready-ne0.false) (c.read_alert.ensures.alerted c.if-read_alert-ne0.true)

pub park-requires-clause-asleep : goal.park-requires-clause-asleep
park-requires-clause-asleep g c κs within = let i = c.loop.invariant in (
  record i.0 { stage = Asleep },
  asleep_stand c.args.me.now c.loop.me c.read_ready.new.me i.0 i.1 i.2 i.4 c.else-alertable.me (c.read_ready.ensures.asleep c.if-read_ready-ne0.false) (elim c.else-alertable.branch [
    | else-alertable-via-then-alertable+else-read_alert-ne0 w ↦ w.me-is ∙ w.read_alert.ensures.none w.if-read_alert-ne0.false
    | else-alertable-via-else-alertable w ↦ w.me-is
  ]),
  tt,
)

pub loop-preserved-then-left-gt0 : goal.loop-preserved-then-left-gt0
loop-preserved-then-left-gt0 g c = let i = c.loop.invariant in
    still_asleep c.args.me.now c.loop.me c.read_ready.new.me i.0 i.1 i.2 i.4 c.else-alertable.me (c.read_ready.ensures.asleep c.if-read_ready-ne0.false) (elim c.else-alertable.branch [
      | else-alertable-via-then-alertable+else-read_alert-ne0 w ↦ w.me-is ∙ w.read_alert.ensures.none w.if-read_alert-ne0.false
      | else-alertable-via-else-alertable w ↦ w.me-is
    ])

pub loop-preserved : goal.loop-preserved
loop-preserved g c = let i = c.loop.invariant in
    still_asleep c.args.me.now c.loop.me c.read_ready.new.me i.0 i.1 i.2 i.4 c.else-alertable.me (c.read_ready.ensures.asleep c.if-read_ready-ne0.false) (elim c.else-alertable.branch [
      | else-alertable-via-then-alertable+else-read_alert-ne0 w ↦ w.me-is ∙ w.read_alert.ensures.none w.if-read_alert-ne0.false
      | else-alertable-via-else-alertable w ↦ w.me-is
    ])
