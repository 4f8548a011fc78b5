use Rattle.std.proofs.Common.{◌≡◌, ◌<◌, ◌++◌, ◌∷◌, [], ℕ, List, false, Some, Option, slice_index_or, sym, subst, ◌∙◌, arith}
use lib.ListN.{set}
use Rattle.std.proofs.lemmas.List.{get_or-set_same}
use Rattle.sum_uses.specs.declared.added.Added.{Added}
use Rattle.sum_uses.specs.Sums.{GrowsAlike, grown}
use Rattle.nub_rule.specs.Plays.{enqueue_event}
use Rattle.condition.specs.Waits.{resume_event}
use Rattle.script_text.specs.Runs.{waited}
use Rattle.script_text.specs.Visits.{gets, leaves}
use Rattle.script_run.specs.Playing.{IsInLine}
use Rattle.script_run.proofs.Waiting.{may_wait, after_wait}
use Rattle.script_run.proofs.waits.wait_once.Goals as goal

some_same : (r s : List Added) → (let o : Option (List Added) = Some r in o) ≡ Some s → r ≡ s
some_same r s e = cc

pub wait-requires-clause-may : goal.wait-requires-clause-may
wait-requires-clause-may g c κs within =
    let q = c.requires.playing in
    let m = c.args.mutex.0 in
    let n = may_wait c.args.pkg.now c.args.pkg.now.layout q.0 q.1 q.2 q.3 q.4 c.args.numbers.now c.args.me.now q.5 c.args.mutex (omega (arith, c.requires.named.0, c.requires.lawful.mutexes)) q.6 in (
      n.0,
      n.1,
      λ w share world is.
          let P : List Added → Type 0 = λ r. GrowsAlike m n.0 (slice_index_or c.args.numbers.now m 0) r (grown m n.0 (slice_index_or c.args.numbers.now m 0) r) in
          subst P (some_same q.5.share share (sym q.5.is_share ∙ is)) n.2,
    )

pub returns : goal.returns
returns g c xs es vs start hand s has =
    let p = c.args.pkg.now in
    let e = c.wait.ensures in
    let m = c.args.mutex in
    let numbers = c.args.numbers.now in
    let y = c.wait.result in
    let low : m.0 < 64 = omega (arith, c.requires.named.0, c.requires.lawful.mutexes) in
    let n = may_wait p p.layout xs es vs start hand numbers c.args.me.now s m low has in
    let share = e.share tt s.share n.0 s.world s.is_share n.1 in
    let stint = e.stint tt s.share n.0 s.world s.is_share n.1 in
    let t = c.args.me.now.number in
    let H : ℕ → Type 0 = λ x. IsInLine p t xs (es ++ waited t m c.args.cond) (vs ++ leaves t m hand ∷ []) start (gets m x hand) (set numbers m.0 y) c.wait.new.me in
    subst H (sym (get_or-set_same numbers m.0 y 0 (omega (arith, s.size))))
    (after_wait p p.layout xs es vs start hand numbers c.args.me.now s m low has (enqueue_event false t m.0 c.args.cond.0) (resume_event t m.0 c.args.cond.0) n.0 y c.wait.new.me n.1 e.rest e.same e.event e.held share stint (e.fits tt _ (e.same.world ∙ s.world) share))
