use Rattle.std.proofs.Common.{◌<◌, ◌+◌, length, get_or, set, sym, subst, arith}
use Rattle.std.proofs.lemmas.List.{length-map}
use Rattle.std.proofs.lemmas.List.Elements.{All-get_or}
use Rattle.index_table.specs.Paths.{values}
use Rattle.index_table.proofs.Ranks.{AreFilled, filled_more}
use Rattle.index_table.proofs.Drafts.{entry_at}
use Rattle.index_table.proofs.paths.fill_ranks.Goals as goal

pub bounds-ranks-number : goal.bounds-ranks-number
bounds-ranks-number c =
    let es = c.args.paths.now.entries in
    let e = entry_at es c.loop-at.at _ _ c.in-Some.ensures.entry in
    let at : c.loop-at.at < length (values es) = omega (arith, e.within, length-map es (λ e. e.1)) in
    let fits : get_or (values es) c.loop-at.at 0 < length c.args.ranks.now = All-get_or (λ n. n < length c.args.ranks.now) (values es) c.loop-at.at 0 at c.requires in
    omega (arith, fits, e.value, c.loop-at.auto.ranks)

pub loop-at-preserved : goal.loop-at-preserved
loop-at-preserved c =
    let es = c.args.paths.now.entries in
    let vs = values es in
    let n = c.loop-at.at in
    let e = entry_at es n _ _ c.in-Some.ensures.entry in
    let at : n < length vs = omega (arith, e.within, length-map es (λ e. e.1)) in
    let fits : get_or vs n 0 < length c.args.ranks.now = All-get_or (λ n. n < length c.args.ranks.now) vs n 0 at c.requires in
    let room : get_or vs n 0 < length c.loop-at.ranks = omega (arith, fits, c.loop-at.auto.ranks) in
    let f = filled_more vs c.loop-at.ranks n at room c.loop-at.invariant in
    let g = subst (λ v. AreFilled vs (set c.loop-at.ranks v n) (n + 1)) e.value f in
    subst (λ r. AreFilled vs (set c.loop-at.ranks c.in-Some.number.now r) (n + 1)) (sym c.in_ok-ranks-in-Some.ensures) g
