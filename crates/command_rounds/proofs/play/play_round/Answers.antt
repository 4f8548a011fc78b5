use Rattle.std.proofs.Common.{arith, ap, sym, subst, ◌∙◌}
use Rattle.barrier_once.specs.Calls.{Arrived}
use Rattle.barrier_once.specs.Rounds.{MayArrive}
use Rattle.command_rounds.proofs.Between.{arrived, half_at, half_own, may_arrive_again, played}
use Rattle.command_rounds.specs.RoundEvents.{asked}
use Rattle.command_rounds.proofs.play.play_round.Goals as goal

pub ask-answer-requires-clause-halfway : goal.ask-answer-requires-clause-halfway
ask-answer-requires-clause-halfway g c =
    let own = c.requires.playing in
    (own.0, half_own c.args.p.now c.args.me.now.number own.0 c.play_half.new.me (c.play_half.ensures own.0 own.1 own.2))

pub arrive-requires-clause-rest : goal.arrive-requires-clause-rest
arrive-requires-clause-rest g c =
    let p = c.args.p.now in
    let t = c.args.me.now.number in
    let own = c.requires.playing in
    let half = c.play_half.ensures own.0 own.1 own.2 in
    let b = c.play_half.new.me in
    let d = c.ask-answer.new.me in
    let h = half_at p t b.number own.0 d half.between.idle.number (c.ask-answer.ensures own.0 (half_own p t own.0 b half)).0 in
    h.between.idle.rest

pub arrive-requires-clause-lacks : goal.arrive-requires-clause-lacks
arrive-requires-clause-lacks g c =
    let p = c.args.p.now in
    let t = c.args.me.now.number in
    let own = c.requires.playing in
    let half = c.play_half.ensures own.0 own.1 own.2 in
    let b = c.play_half.new.me in
    let d = c.ask-answer.new.me in
    let h = half_at p t b.number own.0 d half.between.idle.number (c.ask-answer.ensures own.0 (half_own p t own.0 b half)).0 in
    let bar = ap (λ l. l.bar.0) c.places-at.ensures in
    h.between.idle.lacks c.places-at.result.bar.0 (omega arith)

pub arrive-requires-clause-world : goal.arrive-requires-clause-world
arrive-requires-clause-world g c =
    let p = c.args.p.now in
    let t = c.args.me.now.number in
    let own = c.requires.playing in
    let half = c.play_half.ensures own.0 own.1 own.2 in
    let b = c.play_half.new.me in
    let d = c.ask-answer.new.me in
    let h = half_at p t b.number own.0 d half.between.idle.number (c.ask-answer.ensures own.0 (half_own p t own.0 b half)).0 in
    h.between.idle.world

pub arrive-requires-clause-share : goal.arrive-requires-clause-share
arrive-requires-clause-share g c =
    let p = c.args.p.now in
    let t = c.args.me.now.number in
    let own = c.requires.playing in
    let half = c.play_half.ensures own.0 own.1 own.2 in
    let b = c.play_half.new.me in
    let d = c.ask-answer.new.me in
    let h = half_at p t b.number own.0 d half.between.idle.number (c.ask-answer.ensures own.0 (half_own p t own.0 b half)).0 in
    (h.share, h.between.idle.share, subst (λ k. MayArrive k h.share) (sym h.between.idle.number) (may_arrive_again p t own.0 (asked t) d h))

pub returns : goal.returns
returns g c = λ n begun few.
    let p = c.args.p.now in
    let t = c.args.me.now.number in
    let half = c.play_half.ensures n begun few in
    let b = c.play_half.new.me in
    let d = c.ask-answer.new.me in
    let e = c.arrive.new.me in
    let reported = c.ask-answer.ensures n (half_own p t n b half) in
    let h = half_at p t b.number n d half.between.idle.number reported.0 in
    let came = c.arrive.ensures in
    let ran = subst (λ l. Arrived d.number l.bar.0 l.cond.0 h.share d e) c.places-at.ensures (came.ran h.share h.between.idle.share) in (
      played p t n d e h (arrived p t h.share _ d e h.between came.rest came.same ran came.held (came.share h.share h.between.idle.share)),
      λ z. reported.1 (half.between.idle.number ∙ z),
    )
