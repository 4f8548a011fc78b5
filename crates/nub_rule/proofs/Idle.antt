-- A thread that hasn't begun, or has ended, has nothing, and no step of it changes that: each asks that its thread lives, or for something that such a
-- thread hasn't.
use Rattle.std.proofs.Common.{◌≡◌, ◌≢◌, ℕ, List, ◌∷◌, refl, sym, ap, ◌∙◌, subst, true, false, Some}
use Rattle.std.specs.Prelude.{Option as Opt}
use mathlib.Core.Logic.{dite}
use native.Mathlib.Decide.{ℕ_discrete}
use Rattle.larch_actions.specs.declared.event.Event.{Event}
use Rattle.larch_actions.specs.declared.event.Life.{Life}
use Rattle.larch_actions.specs.declared.event.Life.TheVariants.{Live, Ended}
use Rattle.larch_actions.specs.declared.event.Version.{Version}
use Rattle.larch_actions.specs.Sets.{mem, without}
use Rattle.nub_rule.specs.declared.view.Child.{Child}
use Rattle.nub_rule.specs.declared.view.Child.TheVariants.{No}
use Rattle.nub_rule.specs.declared.view.Part.{Part}
use Rattle.nub_rule.specs.declared.view.Pen.{Pen}
use Rattle.nub_rule.specs.declared.view.Stand.{Stand}
use Rattle.nub_rule.specs.declared.view.Wait.{Wait}
use Rattle.nub_rule.specs.Parts.{HasNothing, alerted_stand, fresh}
use Rattle.nub_rule.specs.Plays.{recorded}
use Rattle.nub_rule.specs.Rule.{HasNothingUnlessLive}
use Rattle.nub_rule.proofs.Ends.{none-got}
use Rattle.nub_rule.proofs.Lines.{false_true, some_none}

module _ {T H : Type 0} where
  -- a thread that has done nothing has nothing
  pub fresh-idle : (version : Version) (life : Life) (seen : List Event) (s : Opt H) → HasNothing (fresh {T = T} version life seen s)
  fresh-idle version life seen s = record {
    none = λ m x. none-got 64 m x;
    spin = refl;
    queue = refl;
    owed = refl;
    left = refl;
    wait = refl;
    stand = refl;
    turns = refl;
    cleared = refl;
    looked = refl;
    calling = refl;
    raised = refl;
  }

module _ {T H : Type 0} (p q : Part T H) (child : Child) where
  -- the thread lives, and goes on to
  pub idle-live : p.life ≡ Live → q.life ≡ p.life → HasNothingUnlessLive p child → HasNothingUnlessLive q child
  idle-live live same h dead = absurd (dead (same ∙ live))

  -- the thread has something, so it lives
  idle-busy : (HasNothing p → ⊥) → q.life ≡ p.life → HasNothingUnlessLive p child → HasNothingUnlessLive q child
  idle-busy has same h dead = absurd (has (h (λ live. dead (same ∙ live))).0)

  pub idle-spun : (o : ℕ) → p.spin ≡ Some o → q.life ≡ p.life → HasNothingUnlessLive p child → HasNothingUnlessLive q child
  idle-spun o here = idle-busy (λ n. some_none p.spin o n.spin here)

  pub idle-stood : (s : Stand) → p.stand ≡ Some s → q.life ≡ p.life → HasNothingUnlessLive p child → HasNothingUnlessLive q child
  idle-stood s stood = idle-busy (λ n. some_none p.stand s n.stand stood)

  pub idle-waits : (w : Wait) → p.wait ≡ Some w → q.life ≡ p.life → HasNothingUnlessLive p child → HasNothingUnlessLive q child
  idle-waits w waits = idle-busy (λ n. some_none p.wait w n.wait waits)

  pub idle-raised : (c : ℕ) → p.raised ≡ Some c → q.life ≡ p.life → HasNothingUnlessLive p child → HasNothingUnlessLive q child
  idle-raised c has = idle-busy (λ n. some_none p.raised c n.raised has)

  -- nothing of the view has changed
  pub idle-same : q ≡ p → HasNothingUnlessLive p child → HasNothingUnlessLive q child
  idle-same e h = subst (λ (z : Part T H). HasNothingUnlessLive z child) (sym e) h

  -- the thread looked for a queue at the gate o
  pub idle-looked : (o : ℕ) (found : ℕ) → (found ≡ 0 → q ≡ record p { cleared = without o p.cleared; looked = without o p.looked })
      × (found ≢ 0 → mem o p.cleared ≡ true → q ≡ record p { looked = o ∷ p.looked }) × (found ≢ 0 → mem o p.cleared ≡ false → q ≡ p)
      → HasNothingUnlessLive p child → HasNothingUnlessLive q child
  idle-looked o found says h = dite (ℕ_discrete found 0)
      (λ hit. subst (λ (z : Part T H). HasNothingUnlessLive z child) (sym (says.0 hit))
      (λ dead. let n = (h dead).0 in (
        record {
          none = n.none;
          spin = n.spin;
          queue = n.queue;
          owed = n.owed;
          left = n.left;
          wait = n.wait;
          stand = n.stand;
          turns = n.turns;
          cleared = ap (without o) n.cleared;
          looked = ap (without o) n.looked;
          calling = n.calling;
          raised = n.raised;
        },
        (h dead).1,
      )))
      (λ miss. elim (mem o p.cleared) as (λ b. mem o p.cleared ≡ b → HasNothingUnlessLive q child) [
        | true ↦ (λ is. idle-busy (λ n. false_true (sym (ap (mem o) n.cleared) ∙ is)) (ap (λ (z : Part T H). z.life) (says.1 miss is)) h)
        | false ↦ (λ is. idle-same (says.2 miss is) h)
      ] refl)

  -- only what the thread does with the pen has changed
  pub idle-penned : (x : Pen) → q ≡ record p { pen = x } → HasNothingUnlessLive p child → HasNothingUnlessLive q child
  idle-penned x e h = subst (λ (z : Part T H). HasNothingUnlessLive z child) (sym e) (λ dead. let n = (h dead).0 in (
    record {
      none = n.none;
      spin = n.spin;
      queue = n.queue;
      owed = n.owed;
      left = n.left;
      wait = n.wait;
      stand = n.stand;
      turns = n.turns;
      cleared = n.cleared;
      looked = n.looked;
      calling = n.calling;
      raised = n.raised;
    },
    (h dead).1,
  ))

  -- the thread found its alert word set
  pub idle-alerted : q ≡ record p { alerted = true; stand = alerted_stand p.stand } → HasNothingUnlessLive p child → HasNothingUnlessLive q child
  idle-alerted e h = subst (λ (z : Part T H). HasNothingUnlessLive z child) (sym e) (λ dead. let n = (h dead).0 in (
    record {
      none = n.none;
      spin = n.spin;
      queue = n.queue;
      owed = n.owed;
      left = n.left;
      wait = n.wait;
      stand = ap alerted_stand n.stand;
      turns = n.turns;
      cleared = n.cleared;
      looked = n.looked;
      calling = n.calling;
      raised = n.raised;
    },
    (h dead).1,
  ))

  -- the thread ended, and had nothing
  pub idle-ended : (log : List Event) (e : Event) → q ≡ record (recorded p log e) { life = Ended } → HasNothing p → child ≡ No → HasNothingUnlessLive q child
  idle-ended log e is n alone = subst (λ (z : Part T H). HasNothingUnlessLive z child) (sym is) (λ _. (
    record {
      none = n.none;
      spin = n.spin;
      queue = n.queue;
      owed = n.owed;
      left = n.left;
      wait = n.wait;
      stand = n.stand;
      turns = n.turns;
      cleared = n.cleared;
      looked = n.looked;
      calling = n.calling;
      raised = n.raised;
    },
    alone,
  ))
