use Rattle.std.proofs.Common.{◌≡◌, ℕ, ◌<◌, true, sym, ◌∙◌, arith}
use Rattle.script_text.specs.Operations.{held_after, none_held, none_forked}
use Rattle.script_text.proofs.Layouts.{few_threads}
use Rattle.script_text.proofs.Tables.{free_from, free_to, held_within, none_within}
use Rattle.script_text.proofs.draft.Draft.is_free.Goals as goal

pub returns : goal.returns
returns c =
    let d = c.args.self.now in
    let h = held_after none_held d.lines.items in
    let within : (t m : ℕ) → h t m ≡ true → (t < 256) × (m < 64) =
    λ t m e.
    let r = held_within d.layout none_held none_forked d.lines.items c.requires.follow (none_within d.layout) t m e in
    (omega (arith, r.0, few_threads d.layout c.requires.lawful), omega (arith, r.1, c.requires.lawful.mutexes))
    in (
      λ e. free_from d.held h c.requires.shows within (sym c.none_set.ensures ∙ e),
      λ f. c.none_set.ensures ∙ free_to d.held h c.requires.shows f,
    )
