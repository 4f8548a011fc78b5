use Rattle.std.proofs.Common.{◌≡◌, ◌+◌, ◌∙◌, ◌<◌, ◌∷◌, [], List, Vec, Global, ℕ, length, length-append, get_or, ap, subst, sym}
use Rattle.script_text.specs.declared.line.Line.{Line}
use Rattle.script_text.specs.Runs.{lines_of}
use Rattle.script_search.proofs.Planning.{filter-own, lists_more}
use Rattle.script_search.proofs.plan.Plan.new.Goals as goal

pub loop-t-preserved : goal.loop-t-preserved
loop-t-preserved c =
    let xs = c.lines-all.result.now in
    let own = c.in_ok-own_lines.ensures ∙ filter-own c.loop-t.t xs in
    let items = c.in_ok-push.ensures.items in
    let more = lists_more xs c.loop-t.lines.items c.in_ok-own_lines.field-0 c.loop-t.t c.loop-t.invariant.0 c.loop-t.invariant.1 own in
    let P : List (Vec Line Global) → Type 0 = λ l. (k : ℕ) (d : Vec Line Global) → k < c.loop-t.t + 1 → (get_or l k d).items ≡ lines_of k xs in (
      ap length items ∙ (length-append c.loop-t.lines.items (c.in_ok-own_lines.field-0 ∷ []) ∙ ap (λ n. n + 1) c.loop-t.invariant.0),
      subst P (sym items) more,
    )
