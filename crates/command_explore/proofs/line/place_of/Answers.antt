use Rattle.std.proofs.Common.{◌≡◌, ◌<◌, ◌≤◌, ◌+◌, ℕ, suc, inl, inr, length, subst, sym, arith}
use Rattle.std.proofs.lemmas.List.{drop_all}
use Rattle.command_explore.proofs.Lining.{IsAhead, ahead_own, ahead_other, none_ahead, none_played, stands_here}
use Rattle.command_explore.proofs.line.place_of.Goals as goal

pub loop-i-init : goal.loop-i-init
loop-i-init c = none_played c.args.lines.now c.args.thread c.args.played

pub loop-i-preserved : goal.loop-i-preserved
loop-i-preserved c =
    let xs = c.args.lines.now in
    let t = c.args.thread in
    let k = c.args.played in
    let i = c.loop-i.i in
    let low : i < length xs = omega arith in
    let At : ℕ → Type 0 = λ n. IsAhead xs t k i n in
    let After : ℕ → Type 0 = λ n. IsAhead xs t k (i + 1) n in
    elim c.in-Some.ensures [
      | inl own ↦ let e : c.loop-i.left ≡ suc c.in-Some.less = omega (arith, own.1) in ahead_own xs t k i _ low c.in-Some.less (subst At e c.loop-i.invariant) own.0
      | inr other ↦ subst After other.1 (ahead_other xs t k i _ low c.loop-i.left c.loop-i.invariant other.0)
    ]

pub returns-in_default : goal.returns-in_default
returns-in_default c =
    let xs = c.args.lines.now in
    let low : c.loop-i.i < length xs = omega arith in
    let At : ℕ → Type 0 = λ n. IsAhead xs c.args.thread c.args.played c.loop-i.i n in
    stands_here xs c.args.thread c.args.played c.loop-i.i _ low (subst At c.in_default.ensures.1 c.loop-i.invariant) c.in_default.ensures.0

pub returns : goal.returns
returns c =
    let past : length c.args.lines.now ≤ c.loop-i.i = omega arith in
    none_ahead c.args.lines.now c.args.thread c.args.played c.loop-i.i c.loop-i.left c.loop-i.invariant (drop_all c.loop-i.i c.args.lines.now past)
