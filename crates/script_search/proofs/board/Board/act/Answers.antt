use Rattle.script_search.specs.Boards.{moment_of}
use Rattle.script_search.proofs.Rows.{steps_at}
use Rattle.script_search.proofs.board.Board.act.Goals as goal

pub returns-in-Acquire : goal.returns-in-Acquire
returns-in-Acquire c = steps_at (moment_of c.args.self.now) (moment_of c.acquire.new.self) c.args.t c.args.action.now _ c.acquire.result c.in-Acquire.is c.acquire.ensures

pub returns-in-Release : goal.returns-in-Release
returns-in-Release c = steps_at (moment_of c.args.self.now) (moment_of c.release.new.self) c.args.t c.args.action.now _ c.release.result c.in-Release.is c.release.ensures

pub returns-in-Enqueue : goal.returns-in-Enqueue
returns-in-Enqueue c = steps_at (moment_of c.args.self.now) (moment_of c.enqueue.new.self) c.args.t c.args.action.now _ c.enqueue.result c.in-Enqueue.is c.enqueue.ensures

pub returns-in-Resume : goal.returns-in-Resume
returns-in-Resume c = steps_at (moment_of c.args.self.now) (moment_of c.resume.new.self) c.args.t c.args.action.now _ c.resume.result c.in-Resume.is c.resume.ensures

pub returns-in-AlertEnqueue : goal.returns-in-AlertEnqueue
returns-in-AlertEnqueue c = steps_at (moment_of c.args.self.now) (moment_of c.alert_enqueue.new.self) c.args.t c.args.action.now _ c.alert_enqueue.result c.in-AlertEnqueue.is c.alert_enqueue.ensures

pub returns-in-AlertReturn : goal.returns-in-AlertReturn
returns-in-AlertReturn c = steps_at (moment_of c.args.self.now) (moment_of c.alert_return.new.self) c.args.t c.args.action.now _ c.alert_return.result c.in-AlertReturn.is c.alert_return.ensures

pub returns-in-AlertRaise : goal.returns-in-AlertRaise
returns-in-AlertRaise c = steps_at (moment_of c.args.self.now) (moment_of c.alert_raise.new.self) c.args.t c.args.action.now _ c.alert_raise.result c.in-AlertRaise.is c.alert_raise.ensures

pub returns-in-Signal : goal.returns-in-Signal
returns-in-Signal c = steps_at (moment_of c.args.self.now) (moment_of c.signal.new.self) c.args.t c.args.action.now _ c.signal.result c.in-Signal.is c.signal.ensures

pub returns-in-Broadcast : goal.returns-in-Broadcast
returns-in-Broadcast c = steps_at (moment_of c.args.self.now) (moment_of c.broadcast.new.self) c.args.t c.args.action.now _ c.broadcast.result c.in-Broadcast.is c.broadcast.ensures

pub returns-in-V : goal.returns-in-V
returns-in-V c = steps_at (moment_of c.args.self.now) (moment_of c.v.new.self) c.args.t c.args.action.now _ c.v.result c.in-V.is c.v.ensures

pub returns-in-Alert : goal.returns-in-Alert
returns-in-Alert c = steps_at (moment_of c.args.self.now) (moment_of c.alert.new.self) c.args.t c.args.action.now _ c.alert.result c.in-Alert.is c.alert.ensures

pub returns-in-TestAlert : goal.returns-in-TestAlert
returns-in-TestAlert c = steps_at (moment_of c.args.self.now) (moment_of c.test_alert.new.self) c.args.t c.args.action.now _ c.test_alert.result c.in-TestAlert.is c.test_alert.ensures

pub returns-in-AlertPRaise : goal.returns-in-AlertPRaise
returns-in-AlertPRaise c = steps_at (moment_of c.args.self.now) (moment_of c.alert_p_raise.new.self) c.args.t c.args.action.now _ c.alert_p_raise.result c.in-AlertPRaise.is c.alert_p_raise.ensures

pub returns-in-Fork : goal.returns-in-Fork
returns-in-Fork c = steps_at (moment_of c.args.self.now) (moment_of c.fork.new.self) c.args.t c.args.action.now _ c.fork.result c.in-Fork.is c.fork.ensures

pub returns-in-End : goal.returns-in-End
returns-in-End c = steps_at (moment_of c.args.self.now) (moment_of c.end.new.self) c.args.t c.args.action.now _ c.end.result c.in-End.is c.end.ensures

pub returns-in-Join : goal.returns-in-Join
returns-in-Join c = steps_at (moment_of c.args.self.now) (moment_of c.join.new.self) c.args.t c.args.action.now _ c.join.result c.in-Join.is c.join.ensures

pub returns-in-P : goal.returns-in-P
returns-in-P c = steps_at (moment_of c.args.self.now) (moment_of c.take.new.self) c.args.t c.args.action.now _ c.take.result c.in-P.is c.take.ensures.p

pub returns-in-AlertPReturn : goal.returns-in-AlertPReturn
returns-in-AlertPReturn c = steps_at (moment_of c.args.self.now) (moment_of c.take-in-AlertPReturn.new.self) c.args.t c.args.action.now _ c.take-in-AlertPReturn.result c.in-AlertPReturn.is c.take-in-AlertPReturn.ensures.alert_p
