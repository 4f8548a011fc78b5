-- Reduced plays reach each scene from which no event leads on.
use Rattle.std.proofs.Common.{◌≡◌, ◌≢◌, ◌⊎◌, inl, inr, ℕ, zero, suc, ◌≤◌, true, false, List, [], ◌∷◌, ◌++◌, length, drop, refl, ap, sym, subst, ◌∙◌, arith, Option, Some, None}
use Rattle.std.proofs.lemmas.Bool.Decides.{eqb_tells}
use Rattle.larch_actions.specs.declared.event.Layout.{Layout}
use Rattle.larch_actions.specs.declared.event.Event.{Event}
use Rattle.larch_actions.specs.Actions.{Spec, MayAct, acted}
use Rattle.script_text.specs.declared.line.Line.{Line}
use Rattle.script_text.specs.Text.{IsScript}
use Rattle.script_text.specs.Operations.{none_held, none_forked}
use Rattle.script_text.specs.Runs.{lines_of}
use Rattle.script_plays.specs.declared.choice.Turn.{Turn}
use Rattle.script_plays.specs.Choices.{Gives}
use Rattle.script_plays.specs.Scenes.{Scene, first_scene, rest_of, settled, turned}
use Rattle.script_plays.specs.Plays.{Goes, GoesOn, Plays, IsPlayTo, IsStuck, AllFinished, CanGoOn, Ends}
use Rattle.script_plays.specs.Reduced.{GoesAlone, IsLookedAround, PicksAlone, IsLookedAt, ReducedPlays, StuckPlaysAreReduced, ReducedPlaysDecide}
use Rattle.script_plays.proofs.Bounded.{turned-other}
use Rattle.script_plays.proofs.Scened.{goes_one, plays_more, plays_last, plays_have_one_scene}
use Rattle.script_plays.proofs.Owning.{AreOwn, AllOwn, mine_by, waits_on, own_after, rest_turned, own_first}
use Rattle.script_plays.proofs.Settling.{steps_swap}
use Rattle.script_plays.proofs.Commuting.{Swaps, alone_idle, alone_mine, foreign, own_goes, gives_alone, acts_swap, forks_apart}

-- an event that leads on from a scene is there at each that is equal to it
pub goes_from : (l : Layout) (xs : List Line) (s u : Scene) (e : Event) (w : Scene) → s ≡ u → Goes l xs s e w → Goes l xs u e w
goes_from l xs s u e w same g = subst (λ (z : Scene). Goes l xs z e w) same g

module _ (l : Layout) (xs : List Line) (script : IsScript l xs) where
  -- an event that may be looked at alone, and one of another thread, lead to the same scene in both orders
  module _ (s : Scene) (e f : Event) (u v : Scene) (own : AllOwn xs s) (alone : GoesAlone l xs s e u) (goes : Goes l xs s f v) (ne : e.thread.0 ≢ f.thread.0) where
    swapped : Swaps s.spec e.thread.0 f.thread.0 e.action f.action
    swapped =
        acts_swap s.spec e.thread.0 f.thread.0 ne e.action f.action alone.0 alone.1.acts.0 goes.acts.0
        (forks_apart l xs script s e.thread.0 f.thread.0 e.action f.action alone.1.turn goes.turn ne alone.1.gives goes.gives)

    own_then : (g : Event) (w : Scene) (to : Goes l xs s g w) → AreOwn (mine_by g.action (own g.thread.0).mine) (rest_of xs (turned to.turn g.thread.0 s.played) g.thread.0)
    own_then g w to =
        let was = own g.thread.0 in
        subst (λ (r : List Line). AreOwn (mine_by g.action was.mine) r) (sym (rest_turned xs to.turn s.played g.thread.0))
        (own_after l.version (rest_of xs s.played g.thread.0) (record { action = g.action; turn = to.turn }) was.mine to.gives was.lines)

    apart : (m : ℕ) → mine_by e.action (own e.thread.0).mine m ≡ true → mine_by f.action (own f.thread.0).mine m ≡ false
    apart m has =
        let was = own e.thread.0 in
        let theirs = own f.thread.0 in
        let idle = alone_idle e.action (s.spec.pending e.thread.0) alone.0 alone.1.acts.0.order in
        let held = was.holds m (alone_mine e.action was.mine m alone.0 has) (ap (λ p. waits_on p m) idle) in
        foreign s.spec f.thread.0 theirs.mine theirs.holds m e.thread.0 held ne f.action goes.acts.0

    played_swap : settled l.threads xs e.thread.0 (turned alone.1.turn e.thread.0 v.played) ≡ settled l.threads xs f.thread.0 (turned goes.turn f.thread.0 u.played)
    played_swap =
        ap (λ (p : ℕ → ℕ). settled l.threads xs e.thread.0 (turned alone.1.turn e.thread.0 p)) goes.played
        ∙ (steps_swap l.threads xs l.version e.thread.0 f.thread.0 alone.1.turn goes.turn s.played e.action f.action
        (mine_by e.action (own e.thread.0).mine) (mine_by f.action (own f.thread.0).mine) ne alone.1.gives goes.gives (own_then e u alone.1) (own_then f v goes) apart
        ∙ sym (ap (λ (p : ℕ → ℕ). settled l.threads xs f.thread.0 (turned goes.turn f.thread.0 p)) alone.1.played))

    -- the lines of the one are the same after the event of the other
    rest_kept : (t w : ℕ) (turn : Turn) (p : ℕ → ℕ) → t ≢ w → p ≡ settled l.threads xs w (turned turn w s.played) → rest_of xs s.played t ≡ rest_of xs p t
    rest_kept t w turn p other is = ap (λ k. drop k (lines_of t xs)) (sym (ap (λ (q : ℕ → ℕ). q t) is ∙ turned-other l.threads xs w turn s.played t other))

    pub goes_swap : (w : Scene) × GoesAlone l xs v e w × Goes l xs u f w
    goes_swap =
        let spec = acted e.thread.0 v.spec e.action in
        let w : Scene = record { spec = spec; played = settled l.threads xs e.thread.0 (turned alone.1.turn e.thread.0 v.played) } in
        let both = swapped in (
          w,
          (
            alone.0,
            record {
              thread = alone.1.thread;
              turn = alone.1.turn;
              gives = subst (λ (r : List Line). Gives l.version r (record { action = e.action; turn = alone.1.turn })) (rest_kept e.thread.0 f.thread.0 goes.turn v.played ne goes.played) alone.1.gives;
              acts = (subst (λ (z : Spec). MayAct z e) (sym goes.acts.1) both.late, refl);
              played = refl;
            },
          ),
          record {
            thread = goes.thread;
            turn = goes.turn;
            gives = subst (λ (r : List Line). Gives l.version r (record { action = f.action; turn = goes.turn })) (rest_kept f.thread.0 e.thread.0 alone.1.turn u.played (λ z. ne (sym z)) alone.1.played) goes.gives;
            acts = (
              subst (λ (z : Spec). MayAct z f) (sym alone.1.acts.1) both.early,
              ap (λ (z : Spec). acted e.thread.0 z e.action) goes.acts.1 ∙ (sym both.same ∙ sym (ap (λ (z : Spec). acted f.thread.0 z f.action) alone.1.acts.1)),
            );
            played = played_swap;
          },
        )

  -- its thread has no other event
  pub same_event : (s : Scene) (e f : Event) (u v : Scene) → GoesAlone l xs s e u → Goes l xs s f v → e.thread.0 ≡ f.thread.0 → f ≡ e
  same_event s e f u v alone goes same =
      let gives = subst (λ t. Gives l.version (rest_of xs s.played t) (record { action = f.action; turn = goes.turn })) (sym same) goes.gives in
      let is = gives_alone l.version (rest_of xs s.played e.thread.0) e.action f.action alone.1.turn goes.turn alone.0 alone.1.gives gives in
      λ i. record { thread = record { 0 = sym same i }; action = is i }

  -- it may come first of a play, or is still to come after it
  comes_first : (s : Scene) (e : Event) (u : Scene) (h : List Event) (d : Scene) → AllOwn xs s → GoesAlone l xs s e u → Plays l xs s h d
      → ((g : List Event) × Plays l xs u g d × (suc (length g) ≡ length h)) ⊎ GoesOn l xs d
  comes_first s e u [] d own alone p = inr (e, u, goes_from l xs s d e u p alone.1)
  comes_first s e u (f ∷ h) d own alone p = elim (eqb_tells e.thread.0 f.thread.0) [
    | inl same ↦
        let is = same_event s e f u p.0 alone p.1 same.1 in
        let there = goes_one l xs s e p.0 u (subst (λ (z : Event). Goes l xs s z p.0) is p.1) alone.1 in
        inl (h, subst (λ (z : Scene). Plays l xs z h d) there p.2, refl)
    | inr other ↦
        let w = goes_swap s e f u p.0 own alone p.1 other.1 in
        elim (comes_first p.0 e w.0 h d (own_goes l xs s f p.0 own p.1) w.1 p.2) [
          | inl r ↦ inl (f ∷ r.0, (w.0, w.2, r.1), ap suc r.2)
          | inr on ↦ inr on
        ]
  ]

  -- a play from a scene that is seen leads to one that is seen, or from which an event leads on
  module _ (Seen : Scene → Type 0) (around : (s : Scene) → Seen s → IsLookedAround l xs Seen s) where
    seen_from : (n : ℕ) (s : Scene) (h : List Event) (d : Scene) → length h ≤ n → AllOwn xs s → Seen s → Plays l xs s h d → Seen d ⊎ GoesOn l xs d
    seen_from n s [] d few own seen p = inl (subst Seen p seen)
    seen_from zero s (f ∷ h) d few own seen p = absurd (omega arith)
    seen_from (suc n) s (f ∷ h) d few own seen p = elim (around s seen) [
      | inl all ↦ seen_from n p.0 h d (omega arith) (own_goes l xs s f p.0 own p.1) (all f p.0 p.1) p.2
      | inr one ↦ elim (comes_first s one.0 one.1 (f ∷ h) d own one.2 p) [
        | inl r ↦ let shorter = r.2 in seen_from n one.1 r.0 d (omega (arith, shorter, few)) (own_goes l xs s one.0 one.1 own one.2.1) one.3 r.1
        | inr on ↦ inr on
      ]
    ]

    pub seen_or_on : (h : List Event) (d : Scene) → Seen (first_scene l.version) → IsPlayTo l xs h d → Seen d ⊎ GoesOn l xs d
    seen_or_on h d seen p = seen_from (length h) (first_scene l.version) h d (omega arith) (own_first l l.version none_held none_forked xs (λ t m. refl) script.follow) seen p

    -- so where each scene that is seen is whole or goes on, each play is whole or can go on
    pub seen_end : Seen (first_scene l.version) → ((s : Scene) → Seen s → AllFinished l xs s ⊎ GoesOn l xs s) → Ends l xs
    seen_end first alive h play =
        let on : GoesOn l xs play.0 → CanGoOn l xs h = λ more. (more.0, (more.1, plays_more l xs (first_scene l.version) h play.0 more.0 more.1 play.1 more.2)) in
        elim (seen_or_on h play.0 first play.1) [
          | inl seen ↦ elim (alive play.0 seen) [ inl all ↦ inl (play.0, play.1, all) | inr more ↦ inr (on more) ]
          | inr more ↦ inr (on more)
        ]

-- a play to a scene in which not all threads are finished, and from which no event leads on, is stuck
pub is_stuck : (l : Layout) (xs : List Line) (h : List Event) (s : Scene) → IsPlayTo l xs h s → (AllFinished l xs s → ⊥) → (GoesOn l xs s → ⊥) → IsStuck l xs h
is_stuck l xs h s play not no_more = record {
  play = (s, play);
  unfinished = λ whole. not (subst (λ (z : Scene). AllFinished l xs z) (plays_have_one_scene l xs h whole.0 s whole.1 play) whole.2);
  no_more = λ on.
      let last = plays_last l xs (first_scene l.version) h on.0 on.1.0 on.1.1 in
      no_more (on.0, on.1.0, goes_from l xs last.0 s on.0 on.1.0 (plays_have_one_scene l xs h last.0 s last.1 play) last.2);
}

module _ (l : Layout) (xs : List Line) (pick : Scene → Option ℕ) where
  -- a reduced play is a play, and may have one event more that is looked at
  are_plays : (s : Scene) (h : List Event) (u : Scene) → ReducedPlays l xs pick s h u → Plays l xs s h u
  are_plays s [] u p = p
  are_plays s (e ∷ h) u p = (p.0, p.1, are_plays p.0 h u p.3)

  one_more : (s : Scene) (h : List Event) (u : Scene) (e : Event) (w : Scene) → ReducedPlays l xs pick s h u → Goes l xs u e w → IsLookedAt (pick u) e → ReducedPlays l xs pick s (h ++ e ∷ []) w
  one_more s [] u e w p goes at = (w, goes_from l xs u s e w (sym p) goes, subst (λ (z : Scene). IsLookedAt (pick z) e) (sym p) at, refl)
  one_more s (x ∷ h) u e w p goes at = (p.0, p.1, p.2, one_more p.0 h u e w p.3 goes at)

  abbrev Reached : Scene → Type 0
  Reached s = (h : List Event) × ReducedPlays l xs pick (first_scene l.version) h s

  picked : (o : Option ℕ) → (o ≡ None) ⊎ ((t : ℕ) × (o ≡ Some t))
  picked None = inl refl
  picked (Some t) = inr (t, refl)

  around : PicksAlone l xs pick → (s : Scene) → Reached s → IsLookedAround l xs Reached s
  around picks s there = elim (picked (pick s)) [
    | inl none ↦ inl (λ e u goes. (there.0 ++ e ∷ [], one_more (first_scene l.version) there.0 s e u there.1 goes (subst (λ (o : Option ℕ). IsLookedAt o e) (sym none) tt)))
    | inr one ↦
        let may = picks s one.0 one.1 in
        let at : IsLookedAt (pick s) may.0 = subst (λ (o : Option ℕ). IsLookedAt o may.0) (sym one.1) may.2 in
        inr (may.0, may.1, may.3, (there.0 ++ may.0 ∷ [], one_more (first_scene l.version) there.0 s may.0 may.1 there.1 may.3.1 at))
  ]

pub stuck_plays_are_reduced : StuckPlaysAreReduced
stuck_plays_are_reduced l xs pick h script picks stuck =
    let d = stuck.play.0 in
    let p = stuck.play.1 in
    let no_more : GoesOn l xs d → ⊥ = λ on. stuck.no_more (on.0, (on.1, plays_more l xs (first_scene l.version) h d on.0 on.1 p on.2)) in
    elim (seen_or_on l xs script (Reached l xs pick) (around l xs pick picks) h d ([], refl) p) [
      | inl there ↦
          (there.0, (d, there.1), is_stuck l xs there.0 d (are_plays l xs pick (first_scene l.version) there.0 d there.1) (λ all. stuck.unfinished (d, p, all)) no_more)
      | inr on ↦ absurd (no_more on)
    ]

pub reduced_plays_decide : ReducedPlaysDecide
reduced_plays_decide l xs pick script picks each =
    seen_end l xs script (Reached l xs pick) (around l xs pick picks) ([], refl)
    (λ s there.
    let p = are_plays l xs pick (first_scene l.version) there.0 s there.1 in
    elim (each there.0 (s, there.1)) [
      | inl whole ↦ inl (subst (λ (z : Scene). AllFinished l xs z) (plays_have_one_scene l xs there.0 whole.0 s whole.1 p) whole.2)
      | inr on ↦
          let last = plays_last l xs (first_scene l.version) there.0 on.0 on.1.0 on.1.1 in
          inr (on.0, on.1.0, goes_from l xs last.0 s on.0 on.1.0 (plays_have_one_scene l xs there.0 last.0 s last.1 p) last.2)
    ])
