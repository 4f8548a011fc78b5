use Rattle.std.proofs.Common.{◌∙◌, sym, ap, arith, Some, decimal}
use Rattle.std.proofs.lemmas.Fmt.{decimal_injective}
use Rattle.index_sample.proofs.PathNumbers.{no_letter, letterless-chars, letter_range, split_parts, digits_there}
use Rattle.index_sample.proofs.paths.number_after.Goals as goal

pub returns-in_default-clause-some : goal.returns-in_default-clause-some
returns-in_default-clause-some c = λ prefix n small is.
    absurd (no_letter c.args.letter c.args.path.now prefix (decimal n) is (letterless-chars c.args.letter c.args.path.now (letter_range c.args.letter c.requires).1 c.in_default.ensures.cases))

pub returns-in_default-read_number-clause-some : goal.returns-in_default-read_number-clause-some
returns-in_default-read_number-clause-some c = λ prefix n small is.
    let range = letter_range c.args.letter c.requires in
    let parts = split_parts c.args.letter c.args.path.now (Some (c.in-Some.field-0-0, c.in-Some.digits)) range.1 c.in-Some.ensures.cases in
    let digits = digits_there c.args.letter c.args.path.now prefix c.in-Some.field-0-0.now c.in-Some.digits.now n range.0 small parts.0 parts.1 is in
    absurd (c.in_default-read_number.ensures.none n (digits, omega arith, omega (arith, small)))

pub returns-clause-some : goal.returns-clause-some
returns-clause-some c = λ prefix n small is.
    let range = letter_range c.args.letter c.requires in
    let parts = split_parts c.args.letter c.args.path.now (Some (c.in-Some.field-0-0, c.in-Some.digits)) range.1 c.in-Some.ensures.cases in
    let digits = digits_there c.args.letter c.args.path.now prefix c.in-Some.field-0-0.now c.in-Some.digits.now n range.0 small parts.0 parts.1 is in
    let number = c.in-Some-read_number.ensures.number in
    ap (λ m. Some m) (decimal_injective c.in-Some-read_number.number n (omega (arith, number.2)) (omega (arith, small)) (sym number.0 ∙ digits))
