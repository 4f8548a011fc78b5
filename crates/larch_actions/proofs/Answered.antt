-- What the answer to an action says of its event.
use Rattle.std.proofs.Common.{Bool, true, false, ◌≡◌, sym, subst, ◌∙◌, ap, Result, Ok, Err, OnOk, OnErr, IfErr}
use Rattle.larch_actions.specs.declared.event.Event.{Event}
use Rattle.larch_actions.specs.declared.event.Action.{Action}
use Rattle.larch_actions.specs.declared.event.Broken.{Broken}
use Rattle.larch_actions.specs.Actions.{Acts, Fails}
use Rattle.larch_actions.specs.State.{Moment, spec_of, Answers}

module _ {X : Type 0} (old new : Moment) (e : Event) where
  pub answers_at : (a : Action) (r : Result X Broken) → e.action ≡ a → Answers old new (record { thread = e.thread; action = a }) r → Answers old new e r
  answers_at a r is h = let at : Action → Event = λ b. record { thread = e.thread; action = b } in subst (λ (b : Action). Answers old new (at b) r) (sym is) h

  pub ok_reported : (r : Result X Broken) → Answers old new e r → OnOk r (Acts (spec_of old) e (spec_of new))
  ok_reported (Ok x) h = h.0
  ok_reported (Err why) h = tt

  pub refused_reported : (r : Result X Broken) → Answers old new e r → IfErr r (Fails (spec_of old) e)
  refused_reported (Ok x) h = tt
  refused_reported (Err why) h = h.0

  pub same_reported : (r : Result X Broken) → Answers old new e r → OnErr r (new ≡ old)
  same_reported (Ok x) h = tt
  same_reported (Err why) h = h.1

  pub layout_reported : (r : Result X Broken) → Answers old new e r → new.layout ≡ old.layout
  layout_reported (Ok x) h = h.1
  layout_reported (Err why) h = ap (λ (m : Moment). m.layout) h.1

false_true : false ≡ true → ⊥
false_true e = cc

pub not_both : (b : Bool) → b ≡ false → b ≡ true → ⊥
not_both b lacks has = false_true (sym lacks ∙ has)
