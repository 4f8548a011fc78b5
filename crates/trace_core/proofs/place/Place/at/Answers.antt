use Rattle.std.proofs.Common.{◌-◌, ◌*◌, ◌%◌, ◌^◌, ◌≤◌, length, ap, ◌∙◌, refl, arith}
use Rattle.std.proofs.lemmas.Fmt.{decimal_nonempty, length-decimal-le}
use Rattle.trace_core.proofs.Spelling.{spelled_short, spelled_long, power_of}
use Rattle.trace_core.proofs.place.Place.at.Goals as goal

pub overflow_sub-one : goal.overflow_sub-one
overflow_sub-one c = omega (arith, decimal_nonempty c.args.value (omega arith), ap length (c.as_bytes-digits.ensures.value ∙ c.format.ensures.text))

pub overflow_mul-result : goal.overflow_mul-result
overflow_mul-result c =
    let size = length c.as_bytes-digits.result.now in
    let few : size ≤ 8 = omega (arith, length-decimal-le 8 c.args.value (omega arith) (omega arith) (omega arith), ap length (c.as_bytes-digits.ensures.value ∙ c.format.ensures.text)) in
    let some : 1 ≤ size = omega (arith, decimal_nonempty c.args.value (omega arith), ap length (c.as_bytes-digits.ensures.value ∙ c.format.ensures.text)) in
    let p = power_of size ((1 * 2 ^ (8 * (size - 1))) % 2 ^ 64) some few refl in omega (arith, p.2)

pub overflow_add-result : goal.overflow_add-result
overflow_add-result c =
    let size = length c.as_bytes-digits.result.now in
    let few : size ≤ 8 = omega (arith, length-decimal-le 8 c.args.value (omega arith) (omega arith) (omega arith), ap length (c.as_bytes-digits.ensures.value ∙ c.format.ensures.text)) in
    let some : 1 ≤ size = omega (arith, decimal_nonempty c.args.value (omega arith), ap length (c.as_bytes-digits.ensures.value ∙ c.format.ensures.text)) in
    let p = power_of size ((1 * 2 ^ (8 * (size - 1))) % 2 ^ 64) some few refl in omega (arith, p.2)

pub invariant_of-result : goal.invariant_of-result
invariant_of-result c = spelled_long c.args.value (2 ^ 64 - 1) (omega arith) (omega arith)

pub invariant_of-result-2 : goal.invariant_of-result-2
invariant_of-result-2 c =
    let digits = c.as_bytes-digits.result.now in
    let size = length digits in
    let few : size ≤ 8 = omega (arith, length-decimal-le 8 c.args.value (omega arith) (omega arith) (omega arith), ap length (c.as_bytes-digits.ensures.value ∙ c.format.ensures.text)) in
    rw c.number_of.ensures (spelled_short c.args.value ((1 * 2 ^ (8 * (size - 1))) % 2 ^ 64) c.last_of_hundred.result size digits (c.as_bytes-digits.ensures.value ∙ c.format.ensures.text) refl few (omega arith) refl c.last_of_hundred.ensures)

pub overflow_shl-one : goal.overflow_shl-one
overflow_shl-one c =
    let size = length c.as_bytes-digits.result.now in
    let few : size ≤ 8 = omega (arith, length-decimal-le 8 c.args.value (omega arith) (omega arith) (omega arith), ap length (c.as_bytes-digits.ensures.value ∙ c.format.ensures.text)) in
    omega (arith, few)

pub number_of-requires : goal.number_of-requires
number_of-requires c =
    let size = length c.as_bytes-digits.result.now in
    let few : size ≤ 8 = omega (arith, length-decimal-le 8 c.args.value (omega arith) (omega arith) (omega arith), ap length (c.as_bytes-digits.ensures.value ∙ c.format.ensures.text)) in
    few

pub overflow_sub-result : goal.overflow_sub-result
overflow_sub-result c =
    let size = length c.as_bytes-digits.result.now in
    let few : size ≤ 8 = omega (arith, length-decimal-le 8 c.args.value (omega arith) (omega arith) (omega arith), ap length (c.as_bytes-digits.ensures.value ∙ c.format.ensures.text)) in
    let some : 1 ≤ size = omega (arith, decimal_nonempty c.args.value (omega arith), ap length (c.as_bytes-digits.ensures.value ∙ c.format.ensures.text)) in
    let p = power_of size ((1 * 2 ^ (8 * (size - 1))) % 2 ^ 64) some few refl in p.1
