-- A board that was changed by the row of an action, by the turn of its thread and by silent lines shows where the event leads.
use Rattle.std.proofs.Common.{◌≡◌, ℕ, zero, suc, ◌<◌, ◌≤◌, Bool, true, false, List, [], ◌∷◌, length, drop, refl, ap, sym, subst, ◌∙◌, arith}
use Rattle.larch_actions.specs.declared.event.Layout.{Layout}
use Rattle.larch_actions.specs.declared.event.Version.{Version}
use Rattle.larch_actions.specs.declared.event.Version.TheVariants.{One, Two}
use Rattle.larch_actions.specs.Actions.{MayAct, Acts}
use Rattle.script_text.specs.declared.line.Line.{Line}
use Rattle.script_text.specs.Runs.{event, lines_of}
use Rattle.script_plays.specs.declared.choice.Choice.{Choice}
use Rattle.script_plays.specs.declared.choice.Turn.TheVariants.{Stays, Next}
use Rattle.script_plays.specs.Choices.{Gives}
use Rattle.script_plays.specs.Scenes.{Scene, rest_of, settled, turned}
use Rattle.script_plays.specs.Plays.{Goes}
use Rattle.script_search.specs.Boards.{Moment, spec_of, played_of, scene_of, IsBoard, SameSize, Steps}

-- a choice that goes on to the next line has a line
has_line : (v : Version) (rest : List Line) (c : Choice) → Gives v rest c → c.turn ≡ Next → (x : Line) × (after : List Line) × (rest ≡ x ∷ after)
has_line One [] c gives next = absurd gives
has_line Two [] c gives next = absurd (stays_next (sym (ap (λ (z : Choice). z.turn) gives) ∙ next))
  where
    stays_next : Stays ≡ Next → ⊥
    stays_next e = cc
has_line One (x ∷ after) c gives next = (x, after, refl)
has_line Two (x ∷ after) c gives next = (x, after, refl)

drop_low : (xs : List Line) (k : ℕ) (x : Line) (after : List Line) → drop k xs ≡ x ∷ after → k < length xs
drop_low [] zero x after e = absurd (cc)
drop_low [] (suc k) x after e = absurd (cc)
drop_low (y ∷ ys) zero x after e = omega arith
drop_low (y ∷ ys) (suc k) x after e = omega (arith, drop_low ys k x after e)

pub next_few : (v : Version) (xs : List Line) (played : ℕ → ℕ) (t n : ℕ) (c : Choice) → Gives v (rest_of xs played t) c → length (lines_of t xs) ≤ n → n < 100000 → c.turn ≡ Next → played t < 100000
next_few v xs played t n c gives le few next =
    let line = has_line v (rest_of xs played t) c gives next in
    omega (arith, drop_low (lines_of t xs) (played t) line.0 line.1 line.2)

pub sized : (l : Layout) (m n : Moment) → IsBoard l m → SameSize m n → IsBoard l n
sized l m n b s = record { version = s.second ∙ b.version; threads = s.threads ∙ b.threads; holders = s.holders ∙ b.holders; available = s.available ∙ b.available }

module _ (l : Layout) (xs : List Line) (old m : Moment) (t : ℕ) (c : Choice) (same : m ≡ old) where
  -- where the row refuses the event, it leads nowhere
  pub stays_put : (after : Moment) (b : Bool) → Steps m after (event t c.action) b → b ≡ false → (s : Scene) → Goes l xs (scene_of old) (event t c.action) s → ⊥
  stays_put after b steps refuses s g =
      let refused = subst (λ (z : Bool). Steps m after (event t c.action) z) refuses steps in
      refused (subst (λ (z : Moment). MayAct (spec_of z) (event t c.action)) (sym same) g.acts.0)

  -- where it makes the step, the thread takes its turn and silent lines are played, the event has led there
  pub goes_there : (after turned_m last : Moment) (b : Bool) → t < l.threads → Gives l.version (rest_of xs (played_of old) t) c → Steps m after (event t c.action) b → b ≡ true
      → spec_of turned_m ≡ spec_of after → played_of turned_m ≡ turned c.turn t (played_of after)
      → spec_of last ≡ spec_of turned_m → played_of last ≡ settled l.threads xs t (played_of turned_m)
      → Goes l xs (scene_of old) (event t c.action) (scene_of last)
  goes_there after turned_m last b low gives steps made_it spec1 played1 spec2 played2 =
      let made = subst (λ (z : Bool). Steps m after (event t c.action) z) made_it steps in
      let acts = subst (λ (z : Moment). Acts (spec_of z) (event t c.action) (spec_of after)) same made.0 in
      let was = made.1.played ∙ ap played_of same in
      record {
        thread = low;
        turn = c.turn;
        gives = gives;
        acts = (acts.0, spec2 ∙ (spec1 ∙ acts.1));
        played = played2 ∙ ap (settled l.threads xs t) (played1 ∙ ap (turned c.turn t) was);
      }

  -- the row plays no line
  pub played_after : (after : Moment) (b : Bool) → Steps m after (event t c.action) b → b ≡ true → played_of after ≡ played_of old
  played_after after b steps made_it =
      let made = subst (λ (z : Bool). Steps m after (event t c.action) z) made_it steps in
      made.1.played ∙ ap played_of same

  pub size_after : (after : Moment) (b : Bool) → Steps m after (event t c.action) b → b ≡ true → SameSize m after
  size_after after b steps made_it =
      let made = subst (λ (z : Bool). Steps m after (event t c.action) z) made_it steps in
      made.1.sizes
