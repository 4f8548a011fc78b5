use Rattle.std.proofs.Common.{◌≡◌, ap, subst}
use mathlib.Core.Option.{some}
use Rattle.lock_order.specs.Order.{got}
use Rattle.lock_order.specs.Kept.{given, HasGot}
use Rattle.lock_order.proofs.Events.{others}
use Rattle.lock_order.proofs.Keeping.{keeps, keeps_given, keeps_got}
use Rattle.lock_order.proofs.lock_graph.LockGraph.note.Goals as goal

pub get-requires-clause-mutex : goal.get-requires-clause-mutex
get-requires-clause-mutex c = c.requires.gets c.in-Acquire.mutex.0 (ap got c.in-Acquire.is)

pub get-requires-in-Resume-clause-mutex : goal.get-requires-in-Resume-clause-mutex
get-requires-in-Resume-clause-mutex c = c.requires.gets c.in-Resume.mutex.0 (ap got c.in-Resume.is)

pub get-requires-in-AlertReturn-clause-mutex : goal.get-requires-in-AlertReturn-clause-mutex
get-requires-in-AlertReturn-clause-mutex c = c.requires.gets c.in-AlertReturn.mutex.0 (ap got c.in-AlertReturn.is)

pub get-requires-in-AlertRaise-clause-mutex : goal.get-requires-in-AlertRaise-clause-mutex
get-requires-in-AlertRaise-clause-mutex c = c.requires.gets c.in-AlertRaise.mutex.0 (ap got c.in-AlertRaise.is)

pub give-requires-clause-mutex : goal.give-requires-clause-mutex
give-requires-clause-mutex c = c.requires.gives c.in-Release.mutex.0 (ap given c.in-Release.is)

pub give-requires-in-Enqueue-clause-mutex : goal.give-requires-in-Enqueue-clause-mutex
give-requires-in-Enqueue-clause-mutex c = c.requires.gives c.in-Enqueue.mutex.0 (ap given c.in-Enqueue.is)

pub give-requires-in-AlertEnqueue-clause-mutex : goal.give-requires-in-AlertEnqueue-clause-mutex
give-requires-in-AlertEnqueue-clause-mutex c = c.requires.gives c.in-AlertEnqueue.mutex.0 (ap given c.in-AlertEnqueue.is)

pub returns-in-Acquire : goal.returns-in-Acquire
returns-in-Acquire c = λ es now next at a kept.
    let old = c.args.self.now in
    let e = c.args.e.now in
    let m = c.in-Acquire.mutex.0 in
    let is : got e.action ≡ some m = ap got c.in-Acquire.is in
    keeps_got es now next e a old c.get.new.self m (c.requires.gets m is) is (subst (λ p. HasGot old e.thread.0 m p c.get.new.self) at c.get.ensures) kept

pub returns-in-Resume : goal.returns-in-Resume
returns-in-Resume c = λ es now next at a kept.
    let old = c.args.self.now in
    let e = c.args.e.now in
    let m = c.in-Resume.mutex.0 in
    let is : got e.action ≡ some m = ap got c.in-Resume.is in
    keeps_got es now next e a old c.get-in-Resume.new.self m (c.requires.gets m is) is (subst (λ p. HasGot old e.thread.0 m p c.get-in-Resume.new.self) at c.get-in-Resume.ensures) kept

pub returns-in-AlertReturn : goal.returns-in-AlertReturn
returns-in-AlertReturn c = λ es now next at a kept.
    let old = c.args.self.now in
    let e = c.args.e.now in
    let m = c.in-AlertReturn.mutex.0 in
    let is : got e.action ≡ some m = ap got c.in-AlertReturn.is in
    keeps_got es now next e a old c.get-in-AlertReturn.new.self m (c.requires.gets m is) is (subst (λ p. HasGot old e.thread.0 m p c.get-in-AlertReturn.new.self) at c.get-in-AlertReturn.ensures) kept

pub returns-in-AlertRaise : goal.returns-in-AlertRaise
returns-in-AlertRaise c = λ es now next at a kept.
    let old = c.args.self.now in
    let e = c.args.e.now in
    let m = c.in-AlertRaise.mutex.0 in
    let is : got e.action ≡ some m = ap got c.in-AlertRaise.is in
    keeps_got es now next e a old c.get-in-AlertRaise.new.self m (c.requires.gets m is) is (subst (λ p. HasGot old e.thread.0 m p c.get-in-AlertRaise.new.self) at c.get-in-AlertRaise.ensures) kept

pub returns-in-Release : goal.returns-in-Release
returns-in-Release c = λ es now next at a kept.
    keeps_given es now next c.args.e.now a c.args.self.now c.give.new.self c.in-Release.mutex.0 (ap got c.in-Release.is) (ap given c.in-Release.is) c.give.ensures kept

pub returns-in-Enqueue : goal.returns-in-Enqueue
returns-in-Enqueue c = λ es now next at a kept.
    keeps_given es now next c.args.e.now a c.args.self.now c.give-in-Enqueue.new.self c.in-Enqueue.mutex.0 (ap got c.in-Enqueue.is) (ap given c.in-Enqueue.is) c.give-in-Enqueue.ensures kept

pub returns-in-AlertEnqueue : goal.returns-in-AlertEnqueue
returns-in-AlertEnqueue c = λ es now next at a kept.
    keeps_given es now next c.args.e.now a c.args.self.now c.give-in-AlertEnqueue.new.self c.in-AlertEnqueue.mutex.0 (ap got c.in-AlertEnqueue.is) (ap given c.in-AlertEnqueue.is) c.give-in-AlertEnqueue.ensures kept

pub returns-in_default : goal.returns-in_default
returns-in_default c = λ es now next at a kept.
    let d = c.in_default in
    let e = c.args.e.now in
    let o = others e.action d.not-Acquire d.not-Release d.not-Enqueue d.not-Resume d.not-AlertEnqueue d.not-AlertReturn d.not-AlertRaise in
    keeps es now next e a c.args.self.now o.0 (o.1 e.thread.0 now) kept
