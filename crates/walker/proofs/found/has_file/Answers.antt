use Rattle.std.proofs.Common.{◌∙◌, Some, ap, refl, sym, arith}
use Rattle.std.proofs.lemmas.List.{length-map}
use Rattle.walker.specs.Found.{name_in, names_in}
use Rattle.walker.proofs.Lookups.{found_at, never, none_below}
use Rattle.walker.proofs.found.has_file.Goals as goal

pub returns-then-eq : goal.returns-then-eq
returns-then-eq c = (
  (λ _. found_at (names_in c.args.root.now c.args.files.now.items) c.loop-at.at c.as_bytes.result.now c.args.name.now (c.name_at.ensures ∙ ap (λ p. Some p) (sym c.as_bytes.ensures.value)) (sym c.eq.ensures ∙ c.if-eq.true)),
  (λ _. refl),
)

pub returns : goal.returns
returns c = (
  never,
  (λ h. absurd (none_below (names_in c.args.root.now c.args.files.now.items) c.loop-at.at c.args.name.now
      (let many = length-map c.args.files.now.items (name_in c.args.root.now) in let end = c.loop-at-test.false in let size = c.len-at-end.ensures in omega arith) c.loop-at.invariant h)),
)
