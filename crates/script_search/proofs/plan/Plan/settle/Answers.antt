use Rattle.std.proofs.Common.{◌≡◌, ◌∙◌, ◌+◌, ℕ, suc, None, ap, sym, rules, arith}
use Rattle.std.specs.List.{slice_get}
use Rattle.larch_actions.specs.Actions.{put}
use Rattle.script_text.specs.Runs.{lines_of}
use Rattle.script_plays.specs.Scenes.{settled}
use Rattle.script_search.specs.Boards.{moment_of, played_of}
use Rattle.script_search.proofs.Rows.{sizes_both}
use Rattle.script_search.proofs.Planning.{settled_step, settled_stop, settled_end, put_here, before_end, falls}
use Rattle.script_search.proofs.plan.Plan.settle.Goals as goal

pub returns-then-not-is_silent-clause-played : goal.returns-then-not-is_silent-clause-played
returns-then-not-is_silent-clause-played c =
    let n = c.args.self.now.layout.threads in
    let xs = c.args.self.now.lines in
    let now = played_of (moment_of c.loop-line.board) in
    let there = sym (ap (slice_get (lines_of c.args.t xs)) c.played.ensures) ∙ (sym c.line.ensures.value ∙ c.in-Some.is) in
    sym (settled_stop n xs c.args.t now c.in-Some.line there (sym c.is_silent.ensures ∙ c.if-not-is_silent.true)) ∙ c.loop-line.invariant.2

pub overflow_add-played : goal.overflow_add-played
overflow_add-played c = omega (arith, c.in-Some.ensures.few, c.played.ensures, c.played-played.ensures)

pub loop-line-smaller : goal.loop-line-smaller
loop-line-smaller c =
    let xs = c.args.self.now.lines in
    let now = played_of (moment_of c.loop-line.board) in
    let there = sym (ap (slice_get (lines_of c.args.t xs)) c.played.ensures) ∙ (sym c.line.ensures.value ∙ c.in-Some.is) in
    let next = ap (λ (f : ℕ → ℕ). f c.args.t) c.set_played.ensures.played ∙ (put_here now c.args.t (c.played-played.result + 1) ∙ ap (λ z. z + 1) c.played-played.ensures) in
    falls _ _ _ (before_end (lines_of c.args.t xs) (now c.args.t) c.in-Some.line there) next

pub loop-line-preserved : goal.loop-line-preserved
loop-line-preserved c =
    let n = c.args.self.now.layout.threads in
    let xs = c.args.self.now.lines in
    let now = played_of (moment_of c.loop-line.board) in
    let there = sym (ap (slice_get (lines_of c.args.t xs)) c.played.ensures) ∙ (sym c.line.ensures.value ∙ c.in-Some.is) in
    let one : c.played-played.result + 1 ≡ suc (now c.args.t) = omega (arith, c.played-played.ensures) in
    let next = c.set_played.ensures.played ∙ ap (put now c.args.t) one in (
      sizes_both (moment_of c.args.board.now) (moment_of c.loop-line.board) (moment_of c.set_played.new.self) c.loop-line.invariant.0 c.set_played.ensures.sizes,
      c.set_played.ensures.spec ∙ c.loop-line.invariant.1,
      ap (settled n xs c.args.t) next ∙ (settled_step n xs c.args.t now c.in-Some.line there (sym c.is_silent.ensures ∙ c.if-not-is_silent.false) ∙ c.loop-line.invariant.2),
    )

pub returns-clause-played : goal.returns-clause-played
returns-clause-played c =
    let n = c.args.self.now.layout.threads in
    let xs = c.args.self.now.lines in
    let now = played_of (moment_of c.loop-line.board) in
    let gone : c.line.result ≡ None = search rules in
    let there = sym (ap (slice_get (lines_of c.args.t xs)) c.played.ensures) ∙ (sym c.line.ensures.value ∙ gone) in
    sym (settled_end n xs c.args.t now there) ∙ c.loop-line.invariant.2
