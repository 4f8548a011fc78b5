use Rattle.std.proofs.Common.{◌+◌, [], ℕ, take, refl, sym, subst, ◌∙◌, arith, length-take-le}
use Rattle.std.proofs.lemmas.List.{take_all, take_more}
use Rattle.script_run.specs.Playing.{IsPlaying}
use Rattle.script_run.proofs.Plays.{passed}
use Rattle.script_run.proofs.Whole.{moved, comes_at, begins, ends}
use Rattle.script_text.specs.declared.line.Operation.TheVariants.{Fork}
use Rattle.script_run.proofs.Calls.{no_fate}
use Rattle.script_run.proofs.play.play.Goals as goal
use Rattle.script_run.proofs.play.play.Goals.{then-line-number, else-line-number}

pub loop-line-init : goal.loop-line-init
loop-line-init g c =
    let P : ℕ → Type 0 = λ t. IsPlaying c.args.pkg.now t [] _ c.args.me in
    subst P (sym c.number-number.ensures) (begins c.args.pkg.now c.args.me.number _ c.args.me refl c.requires.first)

pub play_line-requires-clause-own : goal.play_line-requires-clause-own
play_line-requires-clause-own g c = c.if-line-number.true ∙ sym c.loop-line.invariant.number

pub play_line-requires-clause-playing : goal.play_line-requires-clause-playing
play_line-requires-clause-playing g c =
    let xs = take c.loop-line.line-index c.args.lines.now in
    let at = comes_at c.args.pkg.now.layout c.args.lines.now c.loop-line.line-index _ c.requires.script.follow c.loop-line-test.true in
    let P : ℕ → Type 0 = λ t. IsPlaying c.args.pkg.now t xs c.loop-line.numbers c.loop-line.me in
    let few = c.requires.few in
    let low = c.loop-line-test.true in
    (xs, subst P (sym c.loop-line.invariant.number) c.loop-line.invariant, at.1, at.0, omega (arith, length-take-le c.loop-line.line-index c.args.lines.now (omega arith)))

pub loop-line-preserved : goal.loop-line-preserved
loop-line-preserved g c =
    let i = c.loop-line.line-index in
    let xs = take i c.args.lines.now in
    let low = c.loop-line-test.true in
    let was = c.loop-line.invariant in
    let at = comes_at c.args.pkg.now.layout c.args.lines.now i _ c.requires.script.follow low in
    let few = c.requires.few in
    let size = length-take-le i c.args.lines.now (omega arith) in
    elim c.if-line-number.branch [
      | then-line-number w ↦
          let P : ℕ → Type 0 = λ t. IsPlaying c.args.pkg.now t xs c.loop-line.numbers c.loop-line.me in
          moved c.args.pkg.now c.loop-line.me.number c.number-number.result _ (take (i + 1) c.args.lines.now) w.play_line.new.numbers c.if-line-number.numbers w.play_line.new.me c.if-line-number.me was.number (sym (take_more c.args.lines.now i _ low)) w.numbers-is w.me-is
          (w.play_line.ensures xs (subst P (sym was.number) was) at.1 at.0 (omega arith))
      | else-line-number w ↦
          moved c.args.pkg.now c.number-number.result c.number-number.result _ (take (i + 1) c.args.lines.now) c.loop-line.numbers c.if-line-number.numbers c.loop-line.me c.if-line-number.me refl (sym (take_more c.args.lines.now i _ low)) w.numbers-is w.me-is
          (passed c.args.pkg.now c.number-number.result xs _ c.loop-line.numbers c.loop-line.me w.if-line-number.false was)
    ]

pub returns : goal.returns
returns g c =
    let i = c.loop-line.line-index in
    let high = c.loop-line-test.false in
    let all = take_all i c.args.lines.now high in
    ends c.args.pkg.now c.args.pkg.now.layout c.args.me.number c.args.lines.now c.loop-line.numbers c.loop-line.me c.requires.script
    (moved c.args.pkg.now c.number-number.result c.args.me.number (take i c.args.lines.now) c.args.lines.now c.loop-line.numbers c.loop-line.numbers c.loop-line.me c.loop-line.me c.number-number.ensures all refl refl c.loop-line.invariant)

pub play_line-requires-clause-no_fork : goal.play_line-requires-clause-no_fork
play_line-requires-clause-no_fork g c u is =
    let at = comes_at c.args.pkg.now.layout c.args.lines.now c.loop-line.line-index _ c.requires.script.follow c.loop-line-test.true in
    no_fate c.args.pkg.now.layout _ _ _ (Fork u) c.requires.version at.1 is (λ z. absurd (cc))
