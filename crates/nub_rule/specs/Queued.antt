-- What the steps that change a queue have in common, whatever each says of the view.
use Rattle.std.specs.Prelude.{◌≡◌, ℕ, List, length, None}
use mathlib.Core.Option.{none}
use Rattle.larch_actions.specs.declared.event.Layout.{Layout}
use Rattle.larch_actions.specs.Layout.{IsLawful}
use Rattle.atomic_table.specs.Table.{Step, State, step, Allows}
use Rattle.nub_rule.specs.declared.rule.Slot.{Slot}
use Rattle.nub_rule.specs.declared.view.Kind.TheVariants.{Member}
use Rattle.nub_rule.specs.declared.view.Part.{Part}
use Rattle.nub_rule.specs.declared.view.View.{View}
use Rattle.nub_rule.specs.Known.{Known}
use Rattle.nub_rule.specs.Places.{length_at}
use Rattle.nub_rule.specs.Plays.{Sat, Becomes}

module _ {T H W : Type 0} where
  -- a step on the length word of the object o says that the part was changed by f
  abbrev pub Records : (Step (Slot T) → Sat T H W → ℕ → Sat T H W → Type 0) → ℕ → (ℕ → Part T H → Part T H) → Type 0
  Records records o f = (st : Step (Slot T)) (me : Sat T H W) (r : ℕ) (me' : Sat T H W) → st.word ≡ length_at o → records st me r me'
      → Becomes me (f me.0.number me.0.part) me'

  -- a thread that contracts see as k may write the length of zs, which the queue of the object o
  -- has become, and then has changed nothing by which it has slots. If it then stands nowhere,
  -- `nowhere` holds
  pub record MayRequeue (rule : State (Slot T) (View T H W) → Type 0) (records : Step (Slot T) → Sat T H W → ℕ → Sat T H W → Type 0)
      (l : Layout) (k : Known T H W) (o : ℕ) (zs : List ℕ) (nowhere : Type 0) : Type 0 where
    pub allowed : IsLawful l → (slots id : ℕ) (me : Sat T H W) → me.0.kind ≡ Member → me.0.number ≡ k.number → me.0.part ≡ k.part
        → Allows rule slots id me (length_at o) (λ _. length zs) (λ _. records (step slots (length_at o) (length zs) 0 none) me (length zs))
    pub change : ℕ → Part T H → Part T H
    pub recorded : Records records o change
    pub held : (change k.number k.part).held ≡ k.held
    pub spin : (change k.number k.part).spin ≡ k.spin
    pub queue : (change k.number k.part).queue ≡ zs
    pub stand : (change k.number k.part).stand ≡ None → nowhere

  -- the thread was changed as the step says
  abbrev pub Requeued : (Step (Slot T) → Sat T H W → ℕ → Sat T H W → Type 0) → ℕ → Known T H W → Known T H W → Type 0
  Requeued records o a b = (f : ℕ → Part T H → Part T H) → Records records o f → b ≡ record a { part = f a.number a.part }
