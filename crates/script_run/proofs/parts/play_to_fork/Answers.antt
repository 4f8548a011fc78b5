use Rattle.std.proofs.Common.{◌+◌, ℕ, take, refl, sym, subst, ◌∙◌, arith, length-take-le}
use Rattle.std.proofs.lemmas.List.{take_more}
use Rattle.script_run.specs.Playing.{IsPlaying}
use Rattle.script_run.proofs.Births.{below_step}
use Rattle.script_run.proofs.Plays.{passed}
use Rattle.script_run.proofs.Whole.{moved, comes_at}
use Rattle.script_run.proofs.parts.play_to_fork.Goals as goal
use Rattle.script_run.proofs.parts.play_to_fork.Goals.{then-line-number+in_default, else-line-number}

pub play_line-requires-clause-own : goal.play_line-requires-clause-own
play_line-requires-clause-own g c = c.if-line-number.true ∙ sym c.loop-next.invariant.playing.number

pub play_line-requires-clause-playing : goal.play_line-requires-clause-playing
play_line-requires-clause-playing g c =
    let i = c.loop-next.next in
    let xs = take i c.args.lines.now in
    let at = comes_at c.args.pkg.now.layout c.args.lines.now i _ c.requires.script.follow c.loop-next-test.true in
    let P : ℕ → Type 0 = λ t. IsPlaying c.args.pkg.now t xs c.loop-next.numbers c.loop-next.me in
    let few = c.requires.few in
    let low = c.loop-next-test.true in
    let was = c.loop-next.invariant.playing in
    (xs, subst P (sym was.number) was, at.1, at.0, omega (arith, length-take-le i c.args.lines.now (omega arith)))

pub loop-next-preserved : goal.loop-next-preserved
loop-next-preserved g c =
    let i = c.loop-next.next in
    let xs = take i c.args.lines.now in
    let low = c.loop-next-test.true in
    let was = c.loop-next.invariant.playing in
    let before = c.loop-next.invariant.none in
    let at = comes_at c.args.pkg.now.layout c.args.lines.now i _ c.requires.script.follow low in
    let few = c.requires.few in
    let size = length-take-le i c.args.lines.now (omega arith) in
    elim c.if-line-number.branch [
      | then-line-number+in_default w ↦
          let P : ℕ → Type 0 = λ t. IsPlaying c.args.pkg.now t xs c.loop-next.numbers c.loop-next.me in
          record {
            playing = moved c.args.pkg.now c.loop-next.me.number c.number-number.result _ (take (i + 1) c.args.lines.now) w.play_line.new.numbers c.if-line-number.numbers w.play_line.new.me c.if-line-number.me was.number (sym (take_more c.args.lines.now i _ low)) w.numbers-is w.me-is
                (w.play_line.ensures xs (subst P (sym was.number) was) at.1 at.0 (omega arith));
            none = before ∙ below_step c.args.lines.now i c.number-number.result _ low (λ own u is. w.in_default.not-Fork u is);
          }
      | else-line-number w ↦
          record {
            playing = moved c.args.pkg.now c.number-number.result c.number-number.result _ (take (i + 1) c.args.lines.now) c.loop-next.numbers c.if-line-number.numbers c.loop-next.me c.if-line-number.me refl (sym (take_more c.args.lines.now i _ low)) w.numbers-is w.me-is
                (passed c.args.pkg.now c.number-number.result xs _ c.loop-next.numbers c.loop-next.me w.if-line-number.false was);
            none = before ∙ below_step c.args.lines.now i c.number-number.result _ low (λ own u is. w.if-line-number.false own);
          }
    ]
