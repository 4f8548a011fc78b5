use Rattle.std.proofs.Common.{◌≡◌, ℕ, Option as Opt, Vec, Global, IfSome, arith, sym, subst, ◌∙◌}
use mathlib.Core.Option.{some-injective}
use Rattle.nub.proofs.Users.{first_own, from_at}
use Rattle.barrier_once.specs.Rounds.{fresh_share}
use Rattle.command_rounds.specs.Playing.{AreTotals, IsPlaying}
use Rattle.command_rounds.proofs.Closing.{at_place}
use Rattle.command_rounds.proofs.run.play_all.Goals as goal

pub at_once-requires-after_bounds : goal.at_once-requires-after_bounds
at_once-requires-after_bounds g c κs within = λ n t at.
    let first = c.requires.threads n t at in
    let low = (from_at c.args.threads.items n t at).0 in
    let number = first.number in
    let count = c.requires.count in
    (c.requires.table, omega arith, c.requires.rounds, first_own c.args.p.now (λ w k. fresh_share) n t first)

pub returns-clause-played : goal.returns-clause-played
returns-clause-played g c = λ n x got.
    let b = c.in_ok-threads.ensures.each n x got in
    subst (λ i. IsPlaying c.args.p.now i c.args.rounds x) (c.requires.threads n b.was b.is_was).number b.goes.0

pub returns-clause-totals : goal.returns-clause-totals
returns-clause-totals g c = λ n o got zero.
    let low = (from_at c.in_ok-threads.kept.items n o got).0 in
    let count = c.in_ok-threads.ensures.threads in
    let results = c.in_ok-threads.ensures.results in
    let at = at_place c.in_ok-threads.threads.items n (omega arith) in
    let b = c.in_ok-threads.ensures.each n at.0 at.1 in
    let same : b.left ≡ o = some-injective b.left o (sym b.is_left ∙ got) in
    let P : Opt (Vec ℕ Global) → Type 0 = λ k. IfSome k (λ v. AreTotals c.args.p.now.world.parties c.args.rounds v.items) in
    subst P same (b.goes.1 ((c.requires.threads n b.was b.is_was).number ∙ zero))
