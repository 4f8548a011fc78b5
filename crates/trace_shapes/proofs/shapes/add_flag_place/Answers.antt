use Rattle.std.proofs.Common.{◌≡◌, ℕ, ◌+◌, ◌-◌, ◌<◌, ◌≤◌, true, false, List, ◌++◌, take, ap, sym, ◌∙◌, arith}
use Rattle.std.specs.Prelude.{codes, nat_lt}
use Rattle.std.proofs.lemmas.Bool.{cond-true, cond-false}
use Rattle.std.proofs.lemmas.Bool.Decides.{nat_tests}
use Rattle.trace_shapes.specs.declared.geometry.TheConstants.{MIDDLE, FLAG_GAP, FLAG_TURN}
use Rattle.trace_shapes.specs.Places.{event_x}
use Rattle.trace_shapes.specs.Shapes.{with_number, flag_place}
use Rattle.trace_shapes.proofs.shapes.add_flag_place.Goals as goal

is_less : (i n k : ℕ) → i ≡ n → i < k → nat_lt n k ≡ true
is_less i n k same h = grind (arith, nat_tests)

is_no_less : (i n k : ℕ) → i ≡ n → k ≤ i → nat_lt n k ≡ false
is_no_less i n k same h = grind (arith, nat_tests)

module _ (x : ℕ) where
  abbrev right : List ℕ
  right = with_number (codes "<text class='ft' y='13' x='") (x + MIDDLE + FLAG_GAP)

  abbrev left : List ℕ
  left = with_number (codes "<text class='fe' y='13' x='") (x + MIDDLE - FLAG_GAP)

pub returns-then-saturating_sub-lt-FLAG_TURN-clause-text : goal.returns-then-saturating_sub-lt-FLAG_TURN-clause-text
unfolding flag_place
returns-then-saturating_sub-lt-FLAG_TURN-clause-text c =
    let old = take c.args.at c.args.buf.now in
    let b = c.args.band.now in
    let n = c.args.place in
    let x = event_x b n in
    let less = is_less c.saturating_sub.result (n - b.start) FLAG_TURN c.saturating_sub.ensures c.if-saturating_sub-lt-FLAG_TURN.true in
    c.add_with_number.ensures.text ∙ ap (λ z. old ++ right z) c.event_x-x.ensures.x ∙ ap (λ t. old ++ t) (sym (cond-true (nat_lt (n - b.start) FLAG_TURN) (right x) (left x) less))

pub returns-else-saturating_sub-lt-FLAG_TURN-clause-text : goal.returns-else-saturating_sub-lt-FLAG_TURN-clause-text
unfolding flag_place
returns-else-saturating_sub-lt-FLAG_TURN-clause-text c =
    let old = take c.args.at c.args.buf.now in
    let b = c.args.band.now in
    let n = c.args.place in
    let x = event_x b n in
    let less = is_no_less c.saturating_sub.result (n - b.start) FLAG_TURN c.saturating_sub.ensures c.if-saturating_sub-lt-FLAG_TURN.false in
    c.add_with_number-else-saturating_sub-lt-FLAG_TURN.ensures.text ∙ ap (λ z. old ++ left z) c.event_x-x.ensures.x ∙ ap (λ t. old ++ t) (sym (cond-false (nat_lt (n - b.start) FLAG_TURN) (right x) (left x) less))
