use Rattle.std.proofs.Common.{ℕ, true, List, ◌∷◌, [], ◌++◌, refl, ap, ◌∙◌}
use Rattle.nub.proofs.Users.{idle_first}
use Rattle.bounded_buffer.specs.Parts.{Used, unused}
use Rattle.bounded_buffer.proofs.Using.{used_first}
use Rattle.example_pipeline.proofs.stages.take_all.Goals as goal

abbrev so_far : List (ℕ × ℕ) → List (Used ℕ)
so_far takes = unused ∷ record unused { takes = takes } ∷ []

pub loop-init : goal.loop-init
loop-init g c = ([], used_first c.args.p.now c.args.me.number 2 c.args.me (idle_first c.args.p.now (λ w t. []) c.args.me.number c.args.me c.requires.first), λ none_lost. c.none-came.ensures.0)

pub take_anyway-requires-clause-used : goal.take_anyway-requires-clause-used
take_anyway-requires-clause-used g c κs within = let inv = c.loop.invariant in (c.args.me.number, so_far inv.0, inv.1)

pub returns-in-Err : goal.returns-in-Err
returns-in-Err g c =
    let inv = c.loop.invariant in
    record {
      first = unused;
      second = record unused { takes = inv.0; seen_end = true };
      used = c.in-Err.ensures.over c.args.me.number 1 (so_far inv.0) c.buffer-squares.ensures.mutex inv.1;
      stage = record { none = refl; puts = refl; opened = refl; end = refl; kept = inv.2 };
    }

pub loop-preserved : goal.loop-preserved
loop-preserved g c =
    let inv = c.loop.invariant in
    let item = c.in-Ok.item in (
      (c.in-Ok.field-0-0, item) ∷ inv.0,
      c.in-Ok.ensures.took c.args.me.number 1 (so_far inv.0) c.buffer-squares.ensures.mutex inv.1,
      λ none_lost. let a = c.add.ensures none_lost in a.1 ∙ ap (λ l. l ++ item ∷ []) (inv.2 a.0),
    )
