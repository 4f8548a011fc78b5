use Rattle.std.proofs.Common.{◌≡◌, [], ◌∷◌, true, false, rules, sym, subst, ◌∙◌}
use Rattle.nub_rule.specs.Plays.{release_event}
use Rattle.nub.specs.Rest.{Added, Adds}
use Rattle.nub.proofs.Adding.{added, added_on}
use Rattle.nub.proofs.Holding.{may_give}
use Rattle.sum_uses.specs.Sums.{GrowsAlike, grown}
use Rattle.test_turns.specs.Turns.{Wakes, ends_turn}
use Rattle.test_turns.proofs.turns.end_turn.Goals as goal

pub release-requires-clause-rest : goal.release-requires-clause-rest
release-requires-clause-rest g c κs within = c.requires.holding.3.rest

pub release-requires-clause-may : goal.release-requires-clause-may
release-requires-clause-may g c κs within =
    let h = c.requires.holding in
    may_give (λ w m t x y s r. GrowsAlike m x y s r) (λ w m t x y s. grown m x y s) c.args.p.now h.0 c.args.turn.mutex.0 h.1 h.2 c.args.value c.args.me.now h.3 h.4

pub wake_up-requires-else-turn-clause-rest : goal.wake_up-requires-else-turn-clause-rest
wake_up-requires-else-turn-clause-rest g c = c.requires.holding.3.rest

pub release-requires-else-turn-clause-may : goal.release-requires-else-turn-clause-may
release-requires-else-turn-clause-may g c κs within =
    let h = c.requires.holding in
    may_give (λ w m t x y s r. GrowsAlike m x y s r) (λ w m t x y s. grown m x y s) c.args.p.now h.0 c.args.turn.mutex.0 h.1 h.2 c.args.value c.wake_up-else-turn.new.me (c.wake_up-else-turn.ensures.holding h.0 c.args.turn.mutex.0 h.1 h.2 h.3) h.4

pub returns-then-turn : goal.returns-then-turn
returns-then-turn g c = record {
  woke =
      let t = c.args.me.now.number in
      let e = release_event t c.args.turn.mutex.0 in
      let gave = c.release.ensures in
      let woke = c.wake_up.ensures.woke in
      let yes : c.args.turn.after ≡ true = search rules in
      let recorded = added_on (e ∷ []) woke.0 c.args.me.now c.release.new.me c.wake_up.new.me (added [] e c.args.me.now c.release.new.me gave.event) woke.2 in
      (woke.0, subst (λ n. Wakes c.args.whom n woke.0) gave.same.number woke.1, subst (λ b. Added (ends_turn b e woke.0) c.args.me.now c.wake_up.new.me) (sym yes) recorded);
  idle = λ n s x i. c.wake_up.ensures.idle n (grown c.args.turn.mutex.0 x c.args.value s) (c.release.ensures.idle n s x i);
}

pub returns-else-turn : goal.returns-else-turn
returns-else-turn g c = record {
  woke =
      let t = c.args.me.now.number in
      let woke = c.wake_up-else-turn.ensures.woke in
      let e = release_event t c.args.turn.mutex.0 in
      let mid = c.wake_up-else-turn.new.me in
      let h = c.requires.holding in
      let number = (c.wake_up-else-turn.ensures.holding h.0 c.args.turn.mutex.0 h.1 h.2 h.3).number ∙ sym h.3.number in
      let gave = subst (λ n. Adds [] (release_event n c.args.turn.mutex.0) mid c.release-else-turn.new.me) number c.release-else-turn.ensures.event in
      let no : c.args.turn.after ≡ false = search rules in
      let recorded = added_on woke.0 (e ∷ []) c.args.me.now mid c.release-else-turn.new.me woke.2 (added [] e mid c.release-else-turn.new.me gave) in
      (woke.0, woke.1, subst (λ b. Added (ends_turn b e woke.0) c.args.me.now c.release-else-turn.new.me) (sym no) recorded);
  idle = λ n s x i. c.release-else-turn.ensures.idle n s x (c.wake_up-else-turn.ensures.holding n c.args.turn.mutex.0 s x i);
}
