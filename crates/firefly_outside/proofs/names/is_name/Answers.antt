use Rattle.std.proofs.Common.{◌≡◌, ◌∙◌, ◌<◌, length, true, false, lit<, arith, not, subst, ℕ, ◌==◌, zero, suc}
use Rattle.std.proofs.lemmas.Bool.{false≢true}
use Rattle.std.proofs.lemmas.Str.Pattern.{contains_char}
use Rattle.std.proofs.lemmas.List.{get_or_default}
use Rattle.firefly_outside.specs.Trees.{slash}
use Rattle.firefly_outside.proofs.names.is_name.Goals as goal

nonzero : (n : ℕ) → false ≡ (n == 0) → 0 < n
nonzero zero e = cc
nonzero (suc n) e = omega arith

pub returns-then-not-is_empty : goal.returns-then-not-is_empty
returns-then-not-is_empty c plain =
    let none = contains_char slash c.args.name.now c.contains.result c.contains.ensures.cases (lit< tt) in
    record {
      some = nonzero (length c.args.name.now) c.if-not-is_empty.ensures;
      plain = λ k d within same. let bad : c.contains.result ≡ true = none.1 k within (get_or_default c.args.name.now k 0 d within ∙ same) in
          let worse : not true ≡ true = subst (λ b. not b ≡ true) bad plain in absurd (false≢true worse);
    }
