use Rattle.larch_actions.proofs.Answered.{answers_at}
use Rattle.larch_actions.proofs.state.State.act.Goals as goal

pub returns-in-Acquire : goal.returns-in-Acquire
returns-in-Acquire c = answers_at c.args.self.now c.acquire.new.self c.args.e.now _ c.acquire.result c.in-Acquire.is c.acquire.ensures

pub returns-in-Release : goal.returns-in-Release
returns-in-Release c = answers_at c.args.self.now c.release.new.self c.args.e.now _ c.release.result c.in-Release.is c.release.ensures

pub returns-in-Enqueue : goal.returns-in-Enqueue
returns-in-Enqueue c = answers_at c.args.self.now c.enqueue.new.self c.args.e.now _ c.enqueue.result c.in-Enqueue.is c.enqueue.ensures

pub returns-in-Resume : goal.returns-in-Resume
returns-in-Resume c = answers_at c.args.self.now c.resume.new.self c.args.e.now _ c.resume.result c.in-Resume.is c.resume.ensures

pub returns-in-AlertEnqueue : goal.returns-in-AlertEnqueue
returns-in-AlertEnqueue c = answers_at c.args.self.now c.alert_enqueue.new.self c.args.e.now _ c.alert_enqueue.result c.in-AlertEnqueue.is c.alert_enqueue.ensures

pub returns-in-AlertReturn : goal.returns-in-AlertReturn
returns-in-AlertReturn c = answers_at c.args.self.now c.alert_return.new.self c.args.e.now _ c.alert_return.result c.in-AlertReturn.is c.alert_return.ensures

pub returns-in-AlertRaise : goal.returns-in-AlertRaise
returns-in-AlertRaise c = answers_at c.args.self.now c.alert_raise.new.self c.args.e.now _ c.alert_raise.result c.in-AlertRaise.is c.alert_raise.ensures

pub returns-in-Signal : goal.returns-in-Signal
returns-in-Signal c = answers_at c.args.self.now c.signal.new.self c.args.e.now _ c.signal.result c.in-Signal.is c.signal.ensures

pub returns-in-Broadcast : goal.returns-in-Broadcast
returns-in-Broadcast c = answers_at c.args.self.now c.broadcast.new.self c.args.e.now _ c.broadcast.result c.in-Broadcast.is c.broadcast.ensures

pub returns-in-P : goal.returns-in-P
returns-in-P c = answers_at c.args.self.now c.p.new.self c.args.e.now _ c.p.result c.in-P.is c.p.ensures

pub returns-in-V : goal.returns-in-V
returns-in-V c = answers_at c.args.self.now c.v.new.self c.args.e.now _ c.v.result c.in-V.is c.v.ensures

pub returns-in-Alert : goal.returns-in-Alert
returns-in-Alert c = answers_at c.args.self.now c.alert.new.self c.args.e.now _ c.alert.result c.in-Alert.is c.alert.ensures

pub returns-in-TestAlert : goal.returns-in-TestAlert
returns-in-TestAlert c = answers_at c.args.self.now c.test_alert.new.self c.args.e.now _ c.test_alert.result c.in-TestAlert.is c.test_alert.ensures

pub returns-in-AlertPReturn : goal.returns-in-AlertPReturn
returns-in-AlertPReturn c = answers_at c.args.self.now c.alert_p_return.new.self c.args.e.now _ c.alert_p_return.result c.in-AlertPReturn.is c.alert_p_return.ensures

pub returns-in-AlertPRaise : goal.returns-in-AlertPRaise
returns-in-AlertPRaise c = answers_at c.args.self.now c.alert_p_raise.new.self c.args.e.now _ c.alert_p_raise.result c.in-AlertPRaise.is c.alert_p_raise.ensures

pub returns-in-Fork : goal.returns-in-Fork
returns-in-Fork c = answers_at c.args.self.now c.fork.new.self c.args.e.now _ c.fork.result c.in-Fork.is c.fork.ensures

pub returns-in-End : goal.returns-in-End
returns-in-End c = answers_at c.args.self.now c.end.new.self c.args.e.now _ c.end.result c.in-End.is c.end.ensures

pub returns-in-Join : goal.returns-in-Join
returns-in-Join c = answers_at c.args.self.now c.join.new.self c.args.e.now _ c.join.result c.in-Join.is c.join.ensures
