use Rattle.std.proofs.Common.{◌≡◌, ◌+◌, ℕ, true, List, ◌∷◌, [], ◌++◌, arith, refl, sym, ap, ◌∙◌, inl, inr}
use Rattle.std.specs.List.{range_with_len}
use Rattle.std.proofs.lemmas.List.{map-id}
use Rattle.std.proofs.lemmas.List.FromFn.{map-range_with_len_more}
use Rattle.nub.proofs.Users.{idle_first}
use Rattle.bounded_buffer.specs.Parts.{Used, unused}
use Rattle.bounded_buffer.proofs.Using.{used_first}
use Rattle.example_pipeline.specs.Stages.{numbers}
use Rattle.example_pipeline.proofs.stages.make.Goals as goal

more_numbers : (i : ℕ) → numbers i ++ i ∷ [] ≡ numbers (i + 1)
more_numbers i =
    let all = map-range_with_len_more (λ (k : ℕ). k) 0 i i (omega arith) in
    sym (sym (map-id (range_with_len 0 (i + 1))) ∙ all ∙ ap (λ l. l ++ i ∷ []) (map-id (range_with_len 0 i)))

abbrev so_far : List (ℕ × ℕ) → List (Used ℕ)
so_far puts = record unused { puts = puts } ∷ unused ∷ []

pub loop-i-init : goal.loop-i-init
loop-i-init g c = ([], used_first c.args.p.now c.args.me.number 2 c.args.me (idle_first c.args.p.now (λ w t. []) c.args.me.number c.args.me c.requires.first), refl)

pub put_anyway-requires-clause-used : goal.put_anyway-requires-clause-used
put_anyway-requires-clause-used g c κs within = let inv = c.loop-i.invariant in (c.args.me.number, so_far inv.0, inv.1)

pub returns-in_default : goal.returns-in_default
returns-in_default g c =
    let inv = c.loop-i.invariant in
    record {
      first = record unused { puts = inv.0; seen_shut = true };
      second = unused;
      used = c.in_default.ensures.refused.1 c.args.me.number 0 (so_far inv.0) c.buffer-numbers.ensures.mutex inv.1;
      stage = record { takes = refl; others = refl; ends = inr (refl, refl) };
    }

pub loop-i-preserved : goal.loop-i-preserved
loop-i-preserved g c =
    let inv = c.loop-i.invariant in
    let i = c.loop-i.i in (
      (c.in-Ok.field-0, i) ∷ inv.0,
      c.in-Ok.ensures.put c.args.me.number 0 (so_far inv.0) c.buffer-numbers.ensures.mutex inv.1,
      ap (λ l. l ++ i ∷ []) inv.2 ∙ more_numbers i,
    )

pub shut_plain-requires-clause-used : goal.shut_plain-requires-clause-used
shut_plain-requires-clause-used g c κs within = let inv = c.loop-i.invariant in (c.args.me.number, so_far inv.0, inv.1)

pub returns : goal.returns
returns g c =
    let inv = c.loop-i.invariant in
    let over = c.loop-i-test.false in
    let same : c.loop-i.i ≡ c.args.count = omega arith in
    record {
      first = record unused { puts = inv.0; shut = true };
      second = unused;
      used = c.shut_plain.ensures c.args.me.number 0 (so_far inv.0) c.buffer-numbers.ensures.mutex inv.1;
      stage = record { takes = refl; others = refl; ends = inl (inv.2 ∙ ap numbers same, refl) };
    }
