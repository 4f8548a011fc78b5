use Rattle.std.proofs.Common.{ℕ, subst, rules}
use Rattle.script_run.specs.Playing.{IsPlayed}
use Rattle.script_run.proofs.Crew.{own_first}
use Rattle.script_run.proofs.run.play_all.Goals as goal

pub at_once-requires-after_bounds : goal.at_once-requires-after_bounds
at_once-requires-after_bounds g c κs within = λ n t got. ((own_first c.args.pkg.now n t (c.requires.threads n t got), c.requires.version, c.requires.script, c.requires.few), search rules)

pub returns-clause-played : goal.returns-clause-played
returns-clause-played g c = λ n x got.
    let b = c.in_ok-threads.ensures.each n x got in
    let own = (c.requires.threads n b.was b.is_was).number in
    let P : ℕ → Type 0 = λ i. IsPlayed c.args.pkg.now c.args.lines.now i x in
    subst P own b.goes
