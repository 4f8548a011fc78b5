use Rattle.std.proofs.Common.{◌≡◌, ◌-◌, [], ◌∷◌, length, List, Some, Option, slice_index_or, refl, sym, subst, ◌∙◌, arith}
use Rattle.sum_uses.specs.declared.added.Added.{Added}
use Rattle.sum_uses.specs.Sums.{GrowsAlike}
use Rattle.script_text.specs.declared.line.Operation.TheVariants.{Acquire, Release, Wait, AlertWait, Signal, Broadcast, P, V, Alert, TestAlert, AlertP, Add, Until, AlertUntil, Join}
use Rattle.larch_actions.specs.declared.event.Action.TheVariants as action
use Rattle.script_text.specs.Runs.{event, waited}
use Rattle.script_text.specs.Visits.{leaves}
use Rattle.larch_actions.specs.Sets.{set_of}
use Rattle.alert_wait.specs.Outcomes.{p_end}
use Rattle.script_run.specs.Playing.{alertable}
use Rattle.script_run.proofs.Calls.{after_acquire, after_release, after_quiet, after_add, has_mutex, release_needs, add_fits, named_own}
use Rattle.script_run.proofs.Waiting.{alert_until_leaves, alertable_row, ended_row, finished, number_now, p_row, until_leaves}
use Rattle.script_run.proofs.play.play_line.Goals as goal

some_same : (r s : List Added) → (let o : Option (List Added) = Some r in o) ≡ Some s → r ≡ s
some_same r s e = cc

pub release-requires-clause-may : goal.release-requires-clause-may
release-requires-clause-may g c κs within =
    let q = c.requires.playing in
    let s = q.1 in
    let m = c.in-Release.mutex in
    let low = named_own c.args.pkg.now.layout c.args.line.now.operation (Release m) c.in-Release.is q.2.named in
    let n = release_needs c.args.pkg.now q.0 c.args.numbers.now c.args.me.now c.args.line.now s c.requires.own m c.args.pkg.now.layout c.in-Release.is (omega (arith, low.0, c.requires.lawful.mutexes)) q.2.may q.3 q.4 in (
      n.0,
      n.1,
      λ w share world is.
          let P : List Added → Type 0 = λ r. GrowsAlike m.0 n.0 (slice_index_or c.args.numbers.now m.0 0) r (record { mutex = m.0; amount = slice_index_or c.args.numbers.now m.0 0 - n.0 } ∷ r) in
          subst P (some_same s.share share (sym s.is_share ∙ is)) n.2,
    )

pub overflow_add-numbers : goal.overflow_add-numbers
overflow_add-numbers g c =
    let q = c.requires.playing in
    let m = c.in-Add.mutex in
    let n = c.in-Add.number in
    let named = named_own c.args.pkg.now.layout c.args.line.now.operation (Add m n) c.in-Add.is q.2.named in
    let k = add_fits c.args.pkg.now q.0 c.args.numbers.now c.args.me.now c.args.line.now q.1 c.requires.own m n c.args.pkg.now.layout c.in-Add.is named.1.0 (omega (arith, named.0, c.requires.lawful.mutexes)) q.2.may q.3 q.4 in
    omega (arith, k)

pub returns-in-Acquire : goal.returns-in-Acquire
returns-in-Acquire g c xs s may follow few =
    let e = c.acquire.ensures in
    let m = c.in-Acquire.mutex in
    let low = named_own c.args.pkg.now.layout c.args.line.now.operation (Acquire m) c.in-Acquire.is may.named in
    after_acquire c.args.pkg.now xs c.args.numbers.now c.args.me.now c.args.line.now s c.requires.own m c.acquire.result c.acquire.new.me c.in-Acquire.is (omega (arith, low.0, c.requires.lawful.mutexes)) may.may e.rest e.same e.event e.held e.share e.stints (e.fits tt s.share s.world s.is_share)

pub returns-in-Release : goal.returns-in-Release
returns-in-Release g c xs s may follow few =
    let e = c.release.ensures in
    let m = c.in-Release.mutex in
    let low = named_own c.args.pkg.now.layout c.args.line.now.operation (Release m) c.in-Release.is may.named in
    let n = release_needs c.args.pkg.now xs c.args.numbers.now c.args.me.now c.args.line.now s c.requires.own m c.args.pkg.now.layout c.in-Release.is (omega (arith, low.0, c.requires.lawful.mutexes)) may.may follow few in
    after_release c.args.pkg.now xs c.args.numbers.now c.args.me.now c.args.line.now s c.requires.own m n.0 c.release.new.me c.in-Release.is (omega (arith, low.0, c.requires.lawful.mutexes)) may.may n.1 e.rest e.same e.event e.held (e.share tt s.share n.0 s.world s.is_share n.1) (e.stint tt s.share n.0 s.world s.is_share n.1)

pub returns-in-P : goal.returns-in-P
returns-in-P g c xs s may follow few =
    let e = c.p.ensures in
    after_quiet c.args.pkg.now xs c.args.numbers.now c.args.me.now c.args.line.now s c.requires.own (P c.in-P.sem) (event c.args.me.now.number (action.P c.in-P.sem)) c.p.new.me c.in-P.is refl (refl, refl) refl (λ m. refl) e.rest e.same e.event e.held e.share e.stints

pub returns-in-V : goal.returns-in-V
returns-in-V g c xs s may follow few =
    let e = c.v.ensures in
    after_quiet c.args.pkg.now xs c.args.numbers.now c.args.me.now c.args.line.now s c.requires.own (V c.in-V.sem) (event c.args.me.now.number (action.V c.in-V.sem)) c.v.new.me c.in-V.is refl (refl, refl) refl (λ m. refl) e.rest e.same e.event e.held e.share e.stints

pub returns-in-Add : goal.returns-in-Add
returns-in-Add g c xs s may follow few =
    let m = c.in-Add.mutex in
    let n = c.in-Add.number in
    let named = named_own c.args.pkg.now.layout c.args.line.now.operation (Add m n) c.in-Add.is may.named in
    after_add c.args.pkg.now xs c.args.numbers.now c.args.me.now c.args.line.now s c.requires.own m n c.in-Add.is (omega (arith, named.0, c.requires.lawful.mutexes)) may.may

pub wait_once-requires-clause-named : goal.wait_once-requires-clause-named
wait_once-requires-clause-named g c =
    let m = c.in-Wait.mutex in
    let k = c.in-Wait.cond in
    let named = named_own c.args.pkg.now.layout c.args.line.now.operation (Wait m k) c.in-Wait.is c.requires.playing.2.named in
    (named.0, named.1.0)

pub wait_once-requires-clause-playing : goal.wait_once-requires-clause-playing
wait_once-requires-clause-playing g c =
    let q = c.requires.playing in
    let m = c.in-Wait.mutex in
    let k = c.in-Wait.cond in
    let has = has_mutex c.args.pkg.now q.0 c.args.numbers.now c.args.me.now c.args.line.now q.1 c.requires.own (Wait m k) m c.args.pkg.now.layout c.in-Wait.is refl q.2.may q.3 q.4 in
    (q.0, [], [], _, _, q.1.line, has)

pub returns-in-Wait : goal.returns-in-Wait
returns-in-Wait g c xs s may follow few =
    let m = c.in-Wait.mutex in
    let k = c.in-Wait.cond in
    let t = c.args.me.now.number in
    let has = has_mutex c.args.pkg.now xs c.args.numbers.now c.args.me.now c.args.line.now s c.requires.own (Wait m k) m c.args.pkg.now.layout c.in-Wait.is refl may.may follow few in
    finished c.args.pkg.now t xs (waited t m k) (leaves t m s.hand ∷ []) s.hand _ c.wait_once.new.numbers c.wait_once.new.me c.args.line.now (Wait m k) m c.requires.own c.in-Wait.is refl (_, refl, refl) refl (λ i. refl) (c.wait_once.ensures xs [] [] s.hand s.hand s.line has)

pub alert_wait_once-requires-clause-named : goal.alert_wait_once-requires-clause-named
alert_wait_once-requires-clause-named g c =
    let m = c.in-AlertWait.mutex in
    let k = c.in-AlertWait.cond in
    let named = named_own c.args.pkg.now.layout c.args.line.now.operation (AlertWait m k) c.in-AlertWait.is c.requires.playing.2.named in
    (named.0, named.1.0)

pub alert_wait_once-requires-clause-playing : goal.alert_wait_once-requires-clause-playing
alert_wait_once-requires-clause-playing g c =
    let q = c.requires.playing in
    let m = c.in-AlertWait.mutex in
    let k = c.in-AlertWait.cond in
    let has = has_mutex c.args.pkg.now q.0 c.args.numbers.now c.args.me.now c.args.line.now q.1 c.requires.own (AlertWait m k) m c.args.pkg.now.layout c.in-AlertWait.is refl q.2.may q.3 q.4 in
    (q.0, [], [], _, _, q.1.line, has)

pub returns-in-AlertWait : goal.returns-in-AlertWait
returns-in-AlertWait g c xs s may follow few =
    let m = c.in-AlertWait.mutex in
    let k = c.in-AlertWait.cond in
    let t = c.args.me.now.number in
    let has = has_mutex c.args.pkg.now xs c.args.numbers.now c.args.me.now c.args.line.now s c.requires.own (AlertWait m k) m c.args.pkg.now.layout c.in-AlertWait.is refl may.may follow few in
    let r = c.alert_wait_once.result in
    finished c.args.pkg.now t xs (alertable r t m k) (leaves t m s.hand ∷ []) s.hand _ c.alert_wait_once.new.numbers c.alert_wait_once.new.me c.args.line.now (AlertWait m k) m c.requires.own c.in-AlertWait.is (alertable_row r t m k) (_, refl, refl) refl (λ i. refl) (c.alert_wait_once.ensures xs [] [] s.hand s.hand s.line has)

pub until-requires-clause-named : goal.until-requires-clause-named
until-requires-clause-named g c =
    let m = c.in-Until.mutex in
    let k = c.in-Until.cond in
    let n = c.in-Until.number in
    let named = named_own c.args.pkg.now.layout c.args.line.now.operation (Until m k n) c.in-Until.is c.requires.playing.2.named in
    (named.0, named.1.0)

pub until-requires-clause-playing : goal.until-requires-clause-playing
until-requires-clause-playing g c =
    let q = c.requires.playing in
    let m = c.in-Until.mutex in
    let k = c.in-Until.cond in
    let n = c.in-Until.number in
    let has = has_mutex c.args.pkg.now q.0 c.args.numbers.now c.args.me.now c.args.line.now q.1 c.requires.own (Until m k n) m c.args.pkg.now.layout c.in-Until.is refl q.2.may q.3 q.4 in
    (q.0, q.1.hand, q.1.line, has)

pub returns-in-Until : goal.returns-in-Until
returns-in-Until g c xs s may follow few =
    let m = c.in-Until.mutex in
    let k = c.in-Until.cond in
    let n = c.in-Until.number in
    let t = c.args.me.now.number in
    let has = has_mutex c.args.pkg.now xs c.args.numbers.now c.args.me.now c.args.line.now s c.requires.own (Until m k n) m c.args.pkg.now.layout c.in-Until.is refl may.may follow few in
    let w = c.until.ensures.played xs s.hand s.line has in
    let low = (named_own c.args.pkg.now.layout c.args.line.now.operation (Until m k n) c.in-Until.is may.named).0 in
    let is = number_now c.args.pkg.now c.args.pkg.now.layout t xs _ _ _ _ c.until.new.numbers c.until.new.me w.line m (omega (arith, low, c.requires.lawful.mutexes)) has in
    let enough = c.until.ensures.enough in
    finished c.args.pkg.now t xs w.events _ s.hand _ c.until.new.numbers c.until.new.me c.args.line.now (Until m k n) m c.requires.own c.in-Until.is (length w.gained, w.are_events) (until_leaves t m k n w.gained s.hand w.events w.below w.are_events (omega arith)) refl (λ i. refl) w.line

pub alert_until-requires-clause-named : goal.alert_until-requires-clause-named
alert_until-requires-clause-named g c =
    let m = c.in-AlertUntil.mutex in
    let k = c.in-AlertUntil.cond in
    let n = c.in-AlertUntil.number in
    let named = named_own c.args.pkg.now.layout c.args.line.now.operation (AlertUntil m k n) c.in-AlertUntil.is c.requires.playing.2.named in
    (named.0, named.1.0)

pub alert_until-requires-clause-playing : goal.alert_until-requires-clause-playing
alert_until-requires-clause-playing g c =
    let q = c.requires.playing in
    let m = c.in-AlertUntil.mutex in
    let k = c.in-AlertUntil.cond in
    let n = c.in-AlertUntil.number in
    let has = has_mutex c.args.pkg.now q.0 c.args.numbers.now c.args.me.now c.args.line.now q.1 c.requires.own (AlertUntil m k n) m c.args.pkg.now.layout c.in-AlertUntil.is refl q.2.may q.3 q.4 in
    (q.0, q.1.hand, q.1.line, has)

pub returns-in-AlertUntil : goal.returns-in-AlertUntil
returns-in-AlertUntil g c xs s may follow few =
    let m = c.in-AlertUntil.mutex in
    let k = c.in-AlertUntil.cond in
    let n = c.in-AlertUntil.number in
    let t = c.args.me.now.number in
    let has = has_mutex c.args.pkg.now xs c.args.numbers.now c.args.me.now c.args.line.now s c.requires.own (AlertUntil m k n) m c.args.pkg.now.layout c.in-AlertUntil.is refl may.may follow few in
    let r = c.alert_until.result in
    let w = c.alert_until.ensures.played xs s.hand s.line has in
    let low = (named_own c.args.pkg.now.layout c.args.line.now.operation (AlertUntil m k n) c.in-AlertUntil.is may.named).0 in
    let is = number_now c.args.pkg.now c.args.pkg.now.layout t xs _ _ _ _ c.alert_until.new.numbers c.alert_until.new.me w.line m (omega (arith, low, c.requires.lawful.mutexes)) has in
    finished c.args.pkg.now t xs w.events _ s.hand _ c.alert_until.new.numbers c.alert_until.new.me c.args.line.now (AlertUntil m k n) m c.requires.own c.in-AlertUntil.is (ended_row r t (length w.gained) m k n w.events w.are_events)
    (alert_until_leaves r t m k n w.gained s.hand w.events w.below w.are_events (λ e. let enough = c.alert_until.ensures.enough e in omega arith)) refl (λ i. refl) w.line

pub returns-in-Signal : goal.returns-in-Signal
returns-in-Signal g c xs s may follow few =
    let e = c.signal.ensures in
    let t = c.args.me.now.number in
    after_quiet c.args.pkg.now xs c.args.numbers.now c.args.me.now c.args.line.now s c.requires.own (Signal c.in-Signal.cond) (event t (action.Signal c.in-Signal.cond (set_of e.event.0))) c.signal.new.me c.in-Signal.is (set_of e.event.0, refl) (refl, refl) refl (λ m. refl) e.rest e.same e.event.1 e.held e.share e.stints

pub returns-in-Broadcast : goal.returns-in-Broadcast
returns-in-Broadcast g c xs s may follow few =
    let e = c.broadcast.ensures in
    let t = c.args.me.now.number in
    after_quiet c.args.pkg.now xs c.args.numbers.now c.args.me.now c.args.line.now s c.requires.own (Broadcast c.in-Broadcast.cond) (event t (action.Broadcast c.in-Broadcast.cond)) c.broadcast.new.me c.in-Broadcast.is refl (refl, refl) refl (λ m. refl) e.rest e.same e.event e.held e.share e.stints

pub returns-in-Alert : goal.returns-in-Alert
returns-in-Alert g c xs s may follow few =
    let e = c.alert.ensures in
    let t = c.args.me.now.number in
    after_quiet c.args.pkg.now xs c.args.numbers.now c.args.me.now c.args.line.now s c.requires.own (Alert c.in-Alert.who) (event t (action.Alert c.in-Alert.who)) c.alert.new.me c.in-Alert.is refl (refl, refl) refl (λ m. refl) e.rest e.same e.event e.held e.share e.stints

pub returns-in-TestAlert : goal.returns-in-TestAlert
returns-in-TestAlert g c xs s may follow few =
    let e = c.test_alert.ensures in
    let t = c.args.me.now.number in
    after_quiet c.args.pkg.now xs c.args.numbers.now c.args.me.now c.args.line.now s c.requires.own TestAlert (event t (action.TestAlert c.test_alert.result)) c.test_alert.new.me c.in-TestAlert.is (c.test_alert.result, refl) (refl, refl) refl (λ m. refl) e.rest e.same e.event e.held e.share e.stints

pub returns-in-AlertP : goal.returns-in-AlertP
returns-in-AlertP g c xs s may follow few =
    let e = c.alert_p.ensures in
    let t = c.args.me.now.number in
    after_quiet c.args.pkg.now xs c.args.numbers.now c.args.me.now c.args.line.now s c.requires.own (AlertP c.in-AlertP.sem) (p_end c.alert_p.result t c.in-AlertP.sem.0) c.alert_p.new.me c.in-AlertP.is (p_row c.alert_p.result t c.in-AlertP.sem) (refl, refl) refl (λ m. refl) e.rest e.same e.event e.held e.share e.stints

pub returns-in-Join : goal.returns-in-Join
returns-in-Join g c xs s may follow few =
    let e = c.join_thread.ensures in
    let t = c.args.me.now.number in
    after_quiet c.args.pkg.now xs c.args.numbers.now c.args.me.now c.args.line.now s c.requires.own (Join c.in-Join.who) (event t (action.Join c.in-Join.who)) c.join_thread.new.me c.in-Join.is refl (refl, refl) refl (λ m. refl) e.rest e.same e.event e.held e.share e.stints
