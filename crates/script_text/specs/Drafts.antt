-- What was read of a script so far.
use Rattle.std.specs.Prelude.{◌≡◌, ℕ, ◌<◌, Bool, [], ◌∷◌, ◌++◌}
use Rattle.larch_actions.specs.declared.event.Layout.{Layout}
use Rattle.larch_actions.specs.Layout.{IsLawful}
use Rattle.script_text.specs.declared.line.Line.{Line}
use Rattle.script_text.specs.declared.draft.Draft.{Draft}
use Rattle.script_text.specs.declared.parse.Place.{Place}
use Rattle.script_text.specs.declared.parse.Place.TheVariants.{Thread, First, Any}
use Rattle.script_text.specs.Operations.{Holding, Forked, none_held, held_after, none_forked, forked_after, MayFollow}
use Rattle.script_text.specs.Held.{Shows, Marks}
use Rattle.script_text.specs.NextLine.{lives, may_stand_first, first_count, any}

-- which thread holds which mutex after the lines, and which threads they forked
abbrev pub held_in : Draft → Holding
held_in d = held_after none_held d.lines.items

abbrev pub forked_in : Draft → Forked
forked_in d = forked_after none_forked d.lines.items

-- the lines may come one after another, and the tables show what is held after them, and who was forked
pub record IsDraft (d : Draft) : Type 0 where
  pub lawful : IsLawful d.layout
  pub follow : MayFollow d.layout none_held none_forked d.lines.items
  pub shows : Shows d.held (held_in d)
  pub marks : Marks d.forked (forked_in d)

-- one more line was taken
pub record Takes (old new : Draft) (x : Line) : Type 0 where
  pub layout : new.layout ≡ old.layout
  pub lines : new.lines.items ≡ old.lines.items ++ x ∷ []
  pub draft : IsDraft new

-- the number is one of those at the place
abbrev pub IsAt : Layout → Place → ℕ → Type 0
IsAt l Thread n = n < l.threads
IsAt l (First t w) n = (t < l.threads) × (n < first_count l w)
IsAt l Any n = n ≡ n

-- it may stand there
abbrev pub allowed : Draft → Place → ℕ → Bool
allowed d Thread n = lives d.layout.version (forked_in d) n
allowed d (First t w) n = may_stand_first d.layout.version (held_in d) (forked_in d) t w n
allowed d Any n = any n
