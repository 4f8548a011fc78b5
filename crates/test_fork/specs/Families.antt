-- Threads that may fork others, and lists of which each element satisfies a predicate.
use Rattle.std.specs.Prelude.{[], List}
use Rattle.nub_rule.specs.Items.{Each}

-- P holds of each element
abbrev pub AllAre : {A : Type 0} → (A → Type 0) → List A → Type 0
AllAre P xs = Each (λ _ x. P x) xs
