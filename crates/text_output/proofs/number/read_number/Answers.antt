use Rattle.std.proofs.Common.{◌≡◌, ℕ, Result, Ok, Err, sym, ◌∙◌, arith}
use Rattle.std.proofs.lemmas.Bool.{false≢true}
use Rattle.text_output.proofs.number.read_number.Goals as goal
use Rattle.text_output.proofs.Numbers.{IsPlain-number, decimal-parse, parse-number}

apart : {E : Type 0} (r : Result ℕ E) (x : ℕ) (y : E) → r ≡ Ok x → r ≡ Err y → ⊥
apart r x y p q = cc

pub returns-then-not-is_plain-clause-none : goal.returns-then-not-is_plain-clause-none
returns-then-not-is_plain-clause-none c = λ n h.
    let plain = IsPlain-number c.args.least c.args.most c.args.text.now n (omega arith) h in
    false≢true (sym c.if-not-is_plain.true ∙ c.is_plain.ensures.1 plain)

pub returns-in-Ok-clause-number : goal.returns-in-Ok-clause-number
returns-in-Ok-clause-number c =
    (decimal-parse c.args.text.now c.parse.result c.in-Ok.number (c.is_plain.ensures.0 c.if-not-is_plain.false) c.parse.ensures.value.0 c.in-Ok.is, omega arith, omega arith)

pub returns-in_default-clause-none : goal.returns-in_default-clause-none
returns-in_default-clause-none c = λ n h.
    let e = parse-number c.args.least c.args.most c.args.text.now c.parse.result n (omega arith) h c.parse.ensures.value.0 in
    let same : c.in-Ok.number ≡ n = cc (c.in-Ok.is) in
    omega (arith, h.1, h.2)

pub returns-in_default-2-clause-none : goal.returns-in_default-2-clause-none
returns-in_default-2-clause-none c = λ n h.
    let e = parse-number c.args.least c.args.most c.args.text.now c.parse.result n (omega arith) h c.parse.ensures.value.0 in
    let same : c.in-Ok.number ≡ n = cc (c.in-Ok.is) in
    omega (arith, h.1, h.2)

pub returns-in_default-3-clause-none : goal.returns-in_default-3-clause-none
returns-in_default-3-clause-none c = λ n h.
    let e = parse-number c.args.least c.args.most c.args.text.now c.parse.result n (omega arith) h c.parse.ensures.value.0 in
    apart c.parse.result n _ e c.in_default.is
