use Rattle.std.proofs.Common.{◌≡◌, ◌∙◌, ◌<◌, ℕ, true, false, length, sym, ap, subst, refl, Some, arith, zero, suc}
use Rattle.std.proofs.lemmas.Bool.{eqb-true, false≢true}
use Rattle.std.specs.Option.{option_map}
use Rattle.std.specs.Prelude.{◌==◌}
use Rattle.firefly_outside.specs.Trees.{Path, Directory}
use Rattle.firefly_outside.specs.MemTrees.{reported_by, node_of}
use Rattle.firefly_outside.proofs.place.has_child.Goals as goal

none_before : (n : ℕ) → true ≡ (n == 0) → 0 < n → ⊥
none_before n e h = omega (arith, eqb-true n 0 (sym e))

some_before : (n : ℕ) → false ≡ (n == 0) → 0 < n
some_before zero e = absurd (false≢true e)
some_before (suc n) e = omega arith

pub returns-then-is_empty : goal.returns-then-is_empty
returns-then-is_empty c = ((λ yes. absurd (false≢true yes)), (λ k. absurd (none_before (length c.args.name.now) c.if-is_empty.ensures k.0)))

pub returns-in-Some-Dir : goal.returns-in-Some-Dir
returns-in-Some-Dir c =
    let here : reported_by c.args.places.now c.in_ok-dir.dir ≡ Some (Directory c.in-Some-Dir.field-0-0.items) = sym (ap (option_map node_of) c.in-Some-Dir.ensures.value) ∙ ap (λ p. Some (node_of p)) c.in-Some-Dir.field-0-is in
    let P : Path → Type 0 = λ p. reported_by c.args.places.now p ≡ Some (Directory c.in-Some-Dir.field-0-0.items) in
    ((λ yes. (some_before (length c.args.name.now) c.if-is_empty.ensures, (c.in-Some-Dir.field-0-0.items, subst P c.in_ok-dir.ensures here))), (λ k. refl))
