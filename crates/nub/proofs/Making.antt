-- An event that a thread made, as that of the thread before.
use Rattle.std.proofs.Common.{◌≡◌, ℕ, List, [], ◌∷◌, ◌++◌, length, ap, ap₂, sym, subst, ◌∙◌}
use Rattle.larch_actions.specs.declared.event.Event.{Event}
use Rattle.larch_actions.specs.Actions.{by_thread}
use Rattle.nub_rule.specs.declared.view.Pen.{Pen}
use Rattle.nub_rule.specs.declared.view.Pen.TheVariants.{No, Read}
use Rattle.nub_rule.specs.Known.{Known, Makes}
use Rattle.nub.proofs.Adding.{legal_as}

no_read : (q : Pen) (k : ℕ) → q ≡ No → q ≡ Read k → ⊥
no_read q k is not = cc

module _ {T H W : Type 0} where
  -- an event that s made is made by o where s is o in all that the event hangs on
  pub makes_from : (e : Event) (o s z : Known T H W) → s.number ≡ o.number → s.version ≡ o.version → s.seen ≡ o.seen → s.mine ≡ o.mine → s.places ≡ o.places → s.pen ≡ o.pen → Makes e s z → Makes e o z
  makes_from e o s z number version seen mine places pen at =
      let far = ap (λ l. l ++ at.0) seen in (
        at.0,
        record {
          legal = legal_as s.version o.version ((s.seen ++ at.0) ++ e ∷ []) ((o.seen ++ at.0) ++ e ∷ []) (sym version) (ap (λ l. l ++ e ∷ []) far) at.1.legal;
          own = ap₂ (λ n l. by_thread n l) (sym number) (sym (ap (λ l. l ++ e ∷ []) far)) ∙ (at.1.own ∙ ap (λ l. l ++ e ∷ []) mine);
          number = λ k p. at.1.number k (pen ∙ p) ∙ ap length far;
        },
        at.2 ∙ ap (λ l. l ++ e ∷ []) far,
        at.3 ∙ ap (λ l. l ++ e ∷ []) mine,
        at.4 ∙ ap₂ (λ l m. l ++ length m ∷ []) places far,
      )

  -- the same of an event that is told by the thread's number
  pub makes_by : (by : ℕ → Event) (o s z : Known T H W) → s.number ≡ o.number → s.version ≡ o.version → s.seen ≡ o.seen → s.mine ≡ o.mine → s.places ≡ o.places → s.pen ≡ o.pen
      → Makes (by s.number) s z → Makes (by o.number) o z
  makes_by by o s z number version seen mine places pen at =
      makes_from (by o.number) o s z number version seen mine places pen (subst (λ (n : ℕ). Makes (by n) s z) number at)

  -- the thread o has read its number as b, has made the event as u, and has given the pen back as z
  module _ (o b u z : Known T H W) (pen : o.pen ≡ No) (began : b ≡ record o { part = record o.part { pen = b.pen }; next = b.next }) (recorded : z ≡ record u { part = record u.part { pen = No }; entries = z.entries; space = z.space }) where
    pub made_traced : (e : Event) → Makes e b u → Makes e o z
    made_traced e at =
        let far = ap (λ k. k.seen ++ at.0) began in (
          at.0,
          record {
            legal = legal_as b.version o.version ((b.seen ++ at.0) ++ e ∷ []) ((o.seen ++ at.0) ++ e ∷ []) (sym (ap (λ k. k.version) began)) (ap (λ l. l ++ e ∷ []) far) at.1.legal;
            own = ap₂ (λ n l. by_thread n l) (sym (ap (λ k. k.number) began)) (sym (ap (λ l. l ++ e ∷ []) far)) ∙ (at.1.own ∙ ap (λ k. k.mine ++ e ∷ []) began);
            number = λ k p. absurd (no_read o.pen k pen p);
          },
          ap (λ k. k.seen) recorded ∙ (at.2 ∙ ap (λ l. l ++ e ∷ []) far),
          ap (λ k. k.mine) recorded ∙ (at.3 ∙ ap (λ k. k.mine ++ e ∷ []) began),
          ap (λ k. k.places) recorded ∙ (at.4 ∙ ap₂ (λ l m. l ++ length m ∷ []) (ap (λ k. k.places) began) far),
        )
