use Rattle.std.proofs.Common.{◌≡◌, ◌+◌, [], refl, sym, subst, ◌∙◌}
use Rattle.nub.specs.Rest.{Added}
use Rattle.job_pool.specs.Stopping.{alerts_by}
use Rattle.job_pool.specs.Working.{HasMoved}
use Rattle.job_pool.proofs.Moving.{called_still, moved_on, still}
use Rattle.job_pool.proofs.Stopping.{alerted, none_added, passed_over}
use Rattle.job_pool.proofs.calls.stop_others.Goals.{then-t-number, else-t-number}
use Rattle.job_pool.proofs.calls.stop_others.Goals as goal

pub loop-t-init : goal.loop-t-init
loop-t-init g c = record { moved = still c.args.p.now c.args.me.now; number = refl; alerts = none_added c.args.me.now }

pub alert-requires-clause-rest : goal.alert-requires-clause-rest
alert-requires-clause-rest g c κs within = let d = c.requires.between in (c.loop-t.invariant.moved.between d.0 d.1).idle.rest

pub loop-t-preserved : goal.loop-t-preserved
loop-t-preserved g c =
    let was = c.loop-t.invariant in
    let p = c.args.p.now in
    let a = c.args.me.now in
    let b = c.loop-t.me in
    let t = c.loop-t.t in
    let own = c.number.ensures ∙ was.number in
    elim c.if-t-number.branch [
      | then-t-number w ↦
          let recorded = w.alert.ensures in
          let e = w.alert.new.me in
          let moved = moved_on p [] [] [] [] a b e was.moved (called_still p b e recorded.idle recorded.share) in
          record {
            moved = subst (λ m. HasMoved p [] [] a m) (sym w.me-is) moved;
            number = subst (λ m. m.number ≡ a.number) (sym w.me-is) (recorded.same.number ∙ was.number);
            alerts = subst (λ m. Added (alerts_by a.number (t + 1)) a m) (sym w.me-is) (alerted a.number t a b e (λ same. w.if-t-number.true (same ∙ sym own)) was.number was.alerts recorded.event);
          }
      | else-t-number w ↦ record {
        moved = subst (λ m. HasMoved p [] [] a m) (sym w.me-is) was.moved;
        number = subst (λ m. m.number ≡ a.number) (sym w.me-is) was.number;
        alerts = subst (λ m. Added (alerts_by a.number (t + 1)) a m) (sym w.me-is) (passed_over a.number t a b (w.if-t-number.false ∙ own) was.alerts);
      }
    ]
