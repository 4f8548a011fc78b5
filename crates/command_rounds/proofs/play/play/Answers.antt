use Rattle.std.proofs.Common.{◌+◌, arith, subst, ◌∙◌}
use Rattle.command_rounds.specs.Playing.{IsPlaying}
use Rattle.command_rounds.proofs.Between.{own_playing}
use Rattle.command_rounds.proofs.Noting.{room_left, totals_noted}
use Rattle.command_rounds.proofs.play.play.Goals as goal

pub loop-round-preserved : goal.loop-round-preserved
loop-round-preserved g c =
    let n = c.loop-round.round in
    let p = c.args.p.now in
    let h = c.loop-round.invariant.playing in
    let low = c.loop-round-test.true in
    let few = c.requires.rounds in
    let number = h.between.idle.number in
    let did = c.play_round-total.ensures n (own_playing p c.args.me.number n c.loop-round.me h) (omega arith) in
    record {
      playing = subst (λ k. IsPlaying p k (n + 1) c.play_round-total.new.me) number did.0;
      room = room_left c.play_round-total.result n c.args.rounds c.loop-round.totals c.note.new.totals c.note.ensures c.loop-round.invariant.room;
      totals = λ z. totals_noted p.world.parties c.play_round-total.result n c.loop-round.totals c.note.new.totals c.note.ensures (did.1 (number ∙ z)) (c.loop-round.invariant.totals z);
    }
