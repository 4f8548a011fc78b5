use Rattle.std.proofs.Common.{ℕ, true, List, ◌∷◌, [], ◌++◌, map, refl, sym, ap, ◌∙◌, inl, inr}
use Rattle.std.proofs.lemmas.List.{map-append}
use Rattle.nub.proofs.Users.{idle_first}
use Rattle.bounded_buffer.specs.Parts.{Used, unused}
use Rattle.bounded_buffer.specs.Using.{items_of}
use Rattle.bounded_buffer.proofs.Using.{used_first}
use Rattle.example_pipeline.specs.Stages.{squared}
use Rattle.example_pipeline.proofs.stages.square_all.Goals as goal

abbrev so_far : List (ℕ × ℕ) → List (ℕ × ℕ) → List (Used ℕ)
so_far takes puts = record unused { takes = takes } ∷ record unused { puts = puts } ∷ []

pub loop-init : goal.loop-init
loop-init g c = ([], [], used_first c.args.p.now c.args.me.number 2 c.args.me (idle_first c.args.p.now (λ w t. []) c.args.me.number c.args.me c.requires.first), refl)

pub take_anyway-requires-clause-used : goal.take_anyway-requires-clause-used
take_anyway-requires-clause-used g c κs within = let inv = c.loop.invariant in (c.args.me.number, so_far inv.0 inv.1, inv.2)

pub shut_plain-requires-clause-used : goal.shut_plain-requires-clause-used
shut_plain-requires-clause-used g c κs within =
    let inv = c.loop.invariant in
    (c.args.me.number, record unused { takes = inv.0; seen_end = true } ∷ record unused { puts = inv.1 } ∷ [], c.in-Err.ensures.over c.args.me.number 0 (so_far inv.0 inv.1) c.buffer-numbers.ensures.mutex inv.2)

pub returns-in-Err : goal.returns-in-Err
returns-in-Err g c =
    let inv = c.loop.invariant in
    let n = c.args.me.number in
    let over = c.in-Err.ensures.over n 0 (so_far inv.0 inv.1) c.buffer-numbers.ensures.mutex inv.2 in
    record {
      first = record unused { takes = inv.0; seen_end = true };
      second = record unused { puts = inv.1; shut = true };
      used = c.shut_plain.ensures n 1 (record unused { takes = inv.0; seen_end = true } ∷ record unused { puts = inv.1 } ∷ []) c.buffer-squares.ensures.mutex over;
      stage = record { puts = refl; opened = refl; takes = refl; ends = inl (refl, inv.3, refl) };
    }

pub put_anyway-requires-clause-used : goal.put_anyway-requires-clause-used
put_anyway-requires-clause-used g c κs within =
    let inv = c.loop.invariant in
    (c.args.me.number, so_far ((c.in-Ok.field-0-0, c.in-Ok.number) ∷ inv.0) inv.1, c.in-Ok.ensures.took c.args.me.number 0 (so_far inv.0 inv.1) c.buffer-numbers.ensures.mutex inv.2)

pub returns-in_default : goal.returns-in_default
returns-in_default g c =
    let inv = c.loop.invariant in
    let n = c.args.me.number in
    let takes = (c.in-Ok.field-0-0, c.in-Ok.number) ∷ inv.0 in
    let took = c.in-Ok.ensures.took n 0 (so_far inv.0 inv.1) c.buffer-numbers.ensures.mutex inv.2 in
    record {
      first = record unused { takes = takes };
      second = record unused { puts = inv.1; seen_shut = true };
      used = c.in_default.ensures.refused.1 n 1 (so_far takes inv.1) c.buffer-squares.ensures.mutex took;
      stage = record { puts = refl; opened = refl; takes = refl; ends = inr (refl, refl) };
    }

pub loop-preserved : goal.loop-preserved
loop-preserved g c =
    let inv = c.loop.invariant in
    let n = c.args.me.number in
    let number = c.in-Ok.number in
    let takes = (c.in-Ok.field-0-0, number) ∷ inv.0 in
    let took = c.in-Ok.ensures.took n 0 (so_far inv.0 inv.1) c.buffer-numbers.ensures.mutex inv.2 in (
      takes,
      (c.in-Ok-put_anyway.field-0, c.square.result) ∷ inv.1,
      c.in-Ok-put_anyway.ensures.put n 1 (so_far takes inv.1) c.buffer-squares.ensures.mutex took,
      ap (λ l. l ++ c.square.result ∷ []) inv.3 ∙ (ap (λ q. map squared (items_of inv.0) ++ q ∷ []) c.square.ensures ∙ sym (map-append squared (items_of inv.0) (number ∷ []))),
    )
