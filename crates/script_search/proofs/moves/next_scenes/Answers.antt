use Rattle.std.proofs.Common.{ℕ, length, ap, subst, sym, arith}
use Rattle.script_search.specs.Boards.{Moment, IsBoard, moment_of, played_of}
use Rattle.script_search.proofs.Rows.{sizes_both}
use Rattle.script_search.proofs.Planning.{lines_few}
use Rattle.script_search.proofs.Moved.{stays_put, goes_there, played_after, size_after, next_few, sized}
use Rattle.script_search.proofs.moves.next_scenes.Goals as goal

pub returns-then-not-act : goal.returns-then-not-act
returns-then-not-act c =
    stays_put c.args.plan.now.layout c.args.plan.now.lines (moment_of c.args.board.now) (moment_of c.in_ok-next.next) c.args.t c.args.choice.now c.in_ok-next.ensures
    (moment_of c.act.new.self) c.act.result c.act.ensures c.if-not-act.true

pub turn-requires-clause-few : goal.turn-requires-clause-few
turn-requires-clause-few c = λ next.
    let l = c.args.plan.now.layout in
    let xs = c.args.plan.now.lines in
    let old = moment_of c.args.board.now in
    let same = played_after l xs old (moment_of c.in_ok-next.next) c.args.t c.args.choice.now c.in_ok-next.ensures (moment_of c.act.new.self) c.act.result c.act.ensures c.if-not-act.false in
    let low = next_few l.version xs (played_of old) c.args.t (length xs) c.args.choice.now c.requires.gives (lines_few c.args.t xs) c.layout.ensures.few next in
    omega (arith, ap (λ (f : ℕ → ℕ). f c.args.t) same, low)

pub returns : goal.returns
returns c =
    let l = c.args.plan.now.layout in
    let xs = c.args.plan.now.lines in
    let old = moment_of c.args.board.now in
    let m = moment_of c.in_ok-next.next in
    let after = moment_of c.act.new.self in
    let faced = moment_of c.turn.new.board in
    let last = moment_of c.settle.new.board in
    let board = subst (λ (z : Moment). IsBoard l z) (sym c.in_ok-next.ensures) c.requires.board in
    let sizes = sizes_both m after last (size_after l xs old m c.args.t c.args.choice.now c.in_ok-next.ensures after c.act.result c.act.ensures c.if-not-act.false) (sizes_both after faced last c.turn.ensures.sizes c.settle.ensures.sizes) in (
      goes_there l xs old m c.args.t c.args.choice.now c.in_ok-next.ensures after faced last c.act.result c.requires.named.0 c.requires.gives c.act.ensures c.if-not-act.false
          c.turn.ensures.spec c.turn.ensures.played c.settle.ensures.spec c.settle.ensures.played,
      sized l m last board sizes,
    )
