-- What is so before the first thread begins, and after the last has ended.
use Rattle.std.proofs.Common.{◌≡◌, ℕ, ◌*◌, List, [], ◌∷◌, arith, ap, ◌∙◌}
use Rattle.firefly_threads.specs.Names.{HaveWorked, Known, OneValue, firsts, total}
use Rattle.firefly_threads.specs.Laws.{one_begins, the_value, total_most, total_same}
use Rattle.example_countdown.specs.Counts.{IsLeft}

-- at first the number is that of the threads
pub opens : (threads n : ℕ) (values : List ℕ) → values ≡ threads ∷ [] → n ≡ threads → OneValue IsLeft values (firsts (λ t. 1) n)
opens threads n values is same =
    let all = total_same (λ (s : ℕ). s) 1 n in
    one_begins IsLeft values (firsts (λ t. 1) n) threads is (omega arith)

-- at the end each share is 0, so the number is
pub none_left : (threads : List (Known ℕ ℕ (Prim.Unit {0}))) (left : List (Prim.Unit {0})) (values : List ℕ)
    → HaveWorked tt (OneValue IsLeft) (λ n es x s. s ≡ 0) threads values left → values ≡ 0 ∷ []
none_left threads left values worked =
    let one = the_value IsLeft values worked.shares worked.kept in
    let none = total_most (λ (s : ℕ). s) 0 worked.shares (λ t s at. let own = worked.each t s at in let zero = own.goes in omega arith) in
    let nothing : one.0 ≡ 0 = let is = one.2 in omega arith in
    one.1 ∙ ap (λ x. x ∷ []) nothing
