-- The history of a run of a script is a whole play of the script.
use Rattle.std.proofs.Common.{◌≡◌, ◌≢◌, inl, inr, ℕ, zero, suc, ◌≤◌, false, eqb, List, [], ◌∷◌, ◌++◌, drop, length, refl, ap, sym, subst, ◌∙◌, append-nil, arith}
use Rattle.std.proofs.lemmas.Bool.Decides.{eqb_tells}
use Rattle.std.specs.List.{AllByRecursion}
use mathlib.Core.Option.{none}
use Rattle.larch_actions.specs.declared.event.Event.{Event}
use Rattle.larch_actions.specs.declared.event.Layout.{Layout}
use Rattle.larch_actions.specs.declared.event.Version.{Version}
use Rattle.larch_actions.specs.declared.event.Version.TheVariants.{One, Two}
use Rattle.larch_actions.specs.declared.event.Action.{Action}
use Rattle.larch_actions.specs.declared.event.Action.TheVariants as action
use Rattle.larch_actions.specs.declared.event.Life.{Life}
use Rattle.larch_actions.specs.declared.event.Life.TheVariants.{Unborn, Live, Ended}
use Rattle.larch_actions.specs.Actions.{AreOver, Leads, Spec, acted, at_first, by_thread}
use Rattle.larch_actions.specs.Layout.{HasNames}
use Rattle.script_text.specs.declared.line.Line.{Line}
use Rattle.script_text.specs.declared.line.Operation.{Operation}
use Rattle.script_text.specs.declared.line.Operation.TheVariants.{Add, Until, AlertUntil}
use Rattle.script_text.specs.Operations.{is_born, none_forked, forked_after, none_held}
use Rattle.script_text.specs.Runs.{event, lines_of, total}
use Rattle.script_text.specs.Table.{use_of}
use Rattle.script_text.specs.Text.{IsScript}
use Rattle.script_text.specs.Visits.{AreThreadVisits, Hand, Visit, no_hand, visits_at, visits_by}
use Rattle.script_text.specs.Visited.{AreVisited}
use Rattle.script_plays.specs.declared.choice.Turn.TheVariants.{Stays}
use Rattle.script_plays.specs.Choices.{is_silent}
use Rattle.script_plays.specs.Laws.{RunsAreWhole}
use Rattle.script_plays.specs.Plays.{IsFinished, Plays}
use Rattle.script_plays.specs.Scenes.{Scene, first_scene, rest_of, sum_below}
use Rattle.script_plays.proofs.Owning.{AreOwn, MayHave, Mine, known, own_first, own_lines}
use Rattle.script_plays.proofs.Running.{IsLoud, Runs, now, quiet_hand, quiet_lines}
use Rattle.script_plays.proofs.Opening.{runs_of}
use Rattle.script_plays.proofs.Silent.{loud_hand, loud_lines}
use Rattle.script_plays.proofs.Stepping.{IsOn, goes_to}

-- event by event
plays_on : (l : Layout) (xs : List Line) (es : List Event) (s : Scene) (z : Spec) → AllByRecursion (HasNames l) es → Leads s.spec es z → ((m : ℕ) → z.holder m ≡ none) → IsOn l xs s es
    → (w : Scene) × Plays l xs s es w × IsOn l xs w [] × (w.spec ≡ z)
plays_on l xs [] s z names leads free on = (s, refl, on, leads)
plays_on l xs (e ∷ es) s z names (u, acts, leads) free on =
    let one = goes_to l xs s e es u z names.0 acts leads free on in
    let rest = plays_on l xs es one.0 z names.1 (subst (λ (q : Spec). Leads q es z) (sym one.3) leads) free one.2 in
    (rest.0, (one.0, one.1, rest.1), rest.2, rest.3)

-- a thread that has made an event is one that was there
life_kept : (s : Spec) (u : ℕ) (a : Action) (t : ℕ) → s.life t ≢ Unborn → (acted u s a).life t ≢ Unborn
life_kept s u (action.Fork who) t there = elim (eqb_tells t who.0) [ inl p ↦ rw p.0 (λ e. absurd (cc)) | inr p ↦ rw p.0 there ]
life_kept s u action.End t there = elim (eqb_tells t u) [ inl p ↦ rw p.0 (λ e. absurd (cc)) | inr p ↦ rw p.0 there ]
life_kept s u _ t there = there

still_there : (es : List Event) (s z : Spec) (t : ℕ) → Leads s es z → s.life t ≢ Unborn → z.life t ≢ Unborn
still_there [] s z t leads there = subst (λ (q : Spec). q.life t ≢ Unborn) leads there
still_there (e ∷ es) s z t (u, (may, is), leads) there = still_there es u z t leads (subst (λ (q : Spec). q.life t ≢ Unborn) (sym is) (life_kept s e.thread.0 e.action t there))

was_there : (es : List Event) (s z : Spec) (t : ℕ) → Leads s es z → by_thread t es ≢ [] → z.life t ≢ Unborn
was_there [] s z t leads some = absurd (some refl)
was_there (e ∷ es) s z t (u, (may, is), leads) some = elim (eqb_tells e.thread.0 t) [
  | inl p ↦
      let there : s.life t ≢ Unborn = λ un. let both : Live ≡ Unborn = sym may.live ∙ (ap s.life p.1 ∙ un) in cc in
      still_there es u z t leads (subst (λ (q : Spec). q.life t ≢ Unborn) (sym is) (life_kept s e.thread.0 e.action t there))
  | inr p ↦ was_there es u z t leads (rw p.0 at some)
]

ended : (x : Life) → x ≢ Live → x ≢ Unborn → x ≡ Ended
ended Unborn live unborn = absurd (unborn refl)
ended Live live unborn = absurd (live refl)
ended Ended live unborn = refl

some_end : (calls : List Event) (e : Event) → calls ++ e ∷ [] ≢ []
some_end [] e is = cc
some_end (x ∷ calls) e is = cc

no_rest : (ys : List Line) (k : ℕ) → drop k ys ≡ [] → length ys ≤ k
no_rest [] k e = omega arith
no_rest (y ∷ ys) zero e = absurd (cc)
no_rest (y ∷ ys) (suc k) e = omega (arith, no_rest ys k e)

finished : (v : Version) (xs : List Line) (h : List Event) (s : Scene) (hand : Hand) (vs ws : List Visit) (t : ℕ) → Leads (at_first v) h s.spec → AreOver v s.spec.life
    → AreThreadVisits v xs t (by_thread t h) vs → Runs v t (rest_of xs s.played t) hand [] ws → IsFinished v xs s t
finished One xs h s hand vs ws t leads over own runs = no_rest (lines_of t xs) (s.played t) runs.0
finished Two xs h s hand vs ws t leads over own runs = elim (known (is_born (forked_after none_forked xs) t)) [
  | inl born ↦
      let made = rw born at own in
      inl (ended (s.spec.life t) (over t) (was_there h (at_first Two) s.spec t leads (λ none. some_end made.0 (event t action.End) (sym made.2 ∙ none))))
  | inr not ↦ inr not
]

-- the first scene
first_loud : (o : Operation) (f : ℕ → ℕ) (mine : Mine) → ((m : ℕ) → mine m ≡ false) → MayHave (use_of o) mine → is_silent o f ≡ false
first_loud (Add m n) f mine bare has = absurd (let b = bare m.0 in cc)
first_loud (Until m c n) f mine bare has = absurd (let b = bare m.0 in cc)
first_loud (AlertUntil m c n) f mine bare has = absurd (let b = bare m.0 in cc)
first_loud _ f mine bare has = refl

lines_loud : (rest : List Line) (h : Hand) (mine : Mine) → ((m : ℕ) → mine m ≡ false) → AreOwn mine rest → IsLoud rest h
lines_loud [] h mine bare own = tt
lines_loud (x ∷ rest) h mine bare own = first_loud x.operation (now h) mine bare own.0

first_runs : (v : Version) (xs : List Line) (t : ℕ) (es : List Event) (vs : List Visit) → AreThreadVisits v xs t es vs → Runs v t (quiet_lines (lines_of t xs) no_hand) (quiet_hand (lines_of t xs) no_hand) es vs
first_runs One xs t es vs own =
    subst (λ (w : List Event). Runs One t (quiet_lines (lines_of t xs) no_hand) (quiet_hand (lines_of t xs) no_hand) w vs) (append-nil es)
    (runs_of One t [] (λ h. (refl, refl)) (lines_of t xs) es no_hand vs own.0 own.1)
first_runs Two xs t es vs own = elim (known (is_born (forked_after none_forked xs) t)) [
  | inl born ↦
      let made = rw born at own in
      subst (λ (w : List Event). Runs Two t (quiet_lines (lines_of t xs) no_hand) (quiet_hand (lines_of t xs) no_hand) w vs) (sym made.2)
      (runs_of Two t (event t action.End ∷ []) (λ h. (Stays, [], [], h, refl, (refl, refl), refl, (tt, refl))) (lines_of t xs) made.0 no_hand vs made.1.0 made.1.1)
  | inr not ↦
      let none = rw not at own in
      subst (λ (w : List Event). Runs Two t (quiet_lines (lines_of t xs) no_hand) (quiet_hand (lines_of t xs) no_hand) w vs) (sym none.0) (tt, none.1)
]

no_sum : (f : ℕ → ℕ) (n : ℕ) → ((t : ℕ) → f t ≡ 0) → sum_below f n ≡ 0
no_sum f zero all = refl
no_sum f (suc n) all = omega (arith, no_sum f n all, all n)

both_filters : (t m : ℕ) (vs : List Visit) → visits_at m (visits_by t vs) ≡ visits_by t (visits_at m vs)
both_filters t m [] = refl
both_filters t m (v ∷ vs) = elim (known (eqb v.thread t)) [
  | inl a ↦ elim (known (eqb v.mutex m)) [ inl b ↦ rw (a, b) (rw a (ap (λ w. v ∷ w) (both_filters t m vs))) | inr b ↦ rw (a, b) (both_filters t m vs) ]
  | inr a ↦ elim (known (eqb v.mutex m)) [ inl b ↦ rw (a, b) (rw a (both_filters t m vs)) | inr b ↦ rw (a, b) (both_filters t m vs) ]
]

begins : (l : Layout) (xs : List Line) (h : List Event) → IsScript l xs → AreVisited l xs h → IsOn l xs (first_scene l.version) h
begins l xs h script visited =
    let own = own_first l l.version none_held none_forked xs (λ t m. refl) script.follow in
    let loud : (t : ℕ) → IsLoud (lines_of t xs) no_hand = λ t. lines_loud (lines_of t xs) no_hand (none_held t) (λ m. refl) (own_lines l none_held none_forked t xs script.follow) in
    record {
      hand = λ t. no_hand;
      of = λ t. visits_by t visited.visits;
      at = λ m. visits_at m visited.visits;
      value = λ m. 0;
      coming = record {
        couple = λ t m low. both_filters t m visited.visits;
        gives = visited.gives;
        lead = λ m low. (total xs m, visited.lead m low);
      };
      runs = λ t low.
          subst (λ (r : List Line). Runs l.version t r no_hand (by_thread t h) (visits_by t visited.visits)) (loud_lines (lines_of t xs) no_hand (loud t))
          (subst (λ (k : Hand). Runs l.version t (quiet_lines (lines_of t xs) no_hand) k (by_thread t h) (visits_by t visited.visits)) (loud_hand (lines_of t xs) no_hand (loud t))
          (first_runs l.version xs t (by_thread t h) (visits_by t visited.visits) (visited.own t low)));
      loud = λ t low. loud t;
      own = own;
      free = λ m is. no_sum (λ t. 0) l.threads (λ t. refl);
      held = λ m t is. sym (no_sum (λ u. 0) l.threads (λ u. refl));
    }

pub runs_are_whole : RunsAreWhole
runs_are_whole l xs h script (z, leads, free, idle, over) names visited =
    let play = plays_on l xs h (first_scene l.version) z names leads free (begins l xs h script visited) in (
      play.0,
      play.1,
      λ t low. finished l.version xs h play.0 (play.2.hand t) (visits_by t visited.visits) (play.2.of t) t
          (subst (λ (q : Spec). Leads (at_first l.version) h q) (sym play.3) leads) (subst (λ (q : Spec). AreOver l.version q.life) (sym play.3) over) (visited.own t low) (play.2.runs t low),
    )
