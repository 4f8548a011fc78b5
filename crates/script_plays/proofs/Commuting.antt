-- An event that may be looked at alone, and one of another thread: each is possible after the other, and the state is the same then.
use Rattle.std.proofs.Common.{◌≡◌, ◌≢◌, ◌⊎◌, inl, inr, ℕ, zero, suc, Bool, true, false, cond, eqb, List, [], ◌∷◌, drop, refl, ap, sym, subst, ◌∙◌, arith}
use Rattle.std.proofs.lemmas.Bool.{ne_eqb}
use Rattle.std.proofs.lemmas.Bool.Decides.{eqb_tells}
use mathlib.Core.Option.{none, some}
use Rattle.larch_actions.specs.declared.event.Layout.{Layout}
use Rattle.larch_actions.specs.declared.event.Version.{Version}
use Rattle.larch_actions.specs.declared.event.Version.TheVariants.{One, Two}
use Rattle.larch_actions.specs.declared.event.Event.{Event}
use Rattle.larch_actions.specs.declared.event.Action.{Action}
use Rattle.larch_actions.specs.declared.event.Action.TheVariants as action
use Rattle.larch_actions.specs.declared.event.ThreadId.{ThreadId}
use Rattle.larch_actions.specs.declared.event.Life.TheVariants.{Unborn, Live, Ended}
use Rattle.larch_actions.specs.declared.event.Pending.{Pending}
use Rattle.larch_actions.specs.declared.event.Pending.TheVariants.{Nothing}
use Rattle.larch_actions.specs.Actions.{Spec, KeepsOrder, MayAct, acted}
use Rattle.script_text.specs.declared.line.Line.{Line}
use Rattle.script_text.specs.declared.line.Operation.{Operation}
use Rattle.script_text.specs.declared.line.Operation.TheVariants.{Add, Fork}
use Rattle.script_text.specs.declared.table.Fate.{Fate}
use Rattle.script_text.specs.declared.table.Fate.TheVariants as fate
use Rattle.script_text.specs.Table.{fate_of}
use Rattle.script_text.specs.Text.{IsScript}
use Rattle.script_text.specs.Operations.{Holding, Forked, MayLive, MayFollow, holding_after, forked_with, is_born, none_held, none_forked}
use Rattle.script_text.specs.Runs.{event, lines_of}
use Rattle.script_plays.specs.declared.choice.Turn.{Turn}
use Rattle.script_plays.specs.declared.choice.Choice.{Choice}
use Rattle.script_plays.specs.Choices.{MayMake, Gives}
use Rattle.script_plays.specs.Scenes.{Scene, rest_of, turned}
use Rattle.script_plays.specs.Plays.{Goes}
use Rattle.script_plays.specs.Reduced.{is_alone}
use Rattle.script_plays.proofs.Bounded.{turned-other}
use Rattle.script_plays.proofs.Owning.{Mine, AreOwn, Holds, HasOwn, AllOwn, mine_by, waits_on, known, own_after, rest_turned, own_settled, holds_after}
use Rattle.script_plays.proofs.Swapping.{ForksOther, unborn_live, live_ended, unborn_ended, apart_none, apart_lives, holder_stays, holder_was, pending_stays, life_stays, may_freed, swap_freed, may_lived, swap_lived}

-- the thread of an event that may be looked at alone is in no wait, and takes no mutex
pub alone_idle : (a : Action) (p : Pending) → is_alone a ≡ true → KeepsOrder p a → p ≡ Nothing
alone_idle (action.Release k) p alone order = order
alone_idle (action.Fork who) p alone order = order
alone_idle action.End p alone order = order
alone_idle (action.Join who) p alone order = order
alone_idle _ p alone order = absurd (cc)

pub alone_mine : (a : Action) (mine : Mine) (m : ℕ) → is_alone a ≡ true → mine_by a mine m ≡ true → mine m ≡ true
alone_mine (action.Acquire k) mine m alone has = absurd (cc)
alone_mine (action.Release k) mine m alone has = elim (known (eqb k.0 m)) [
  | inl here ↦ absurd (let no = rw here at has in cc)
  | inr other ↦ rw other at has
]
alone_mine _ mine m alone has = has

-- what another thread holds is none of those that a thread has after its event
module _ (s : Spec) (u : ℕ) (mine : Mine) (holds : Holds mine s u) (m t : ℕ) (held : s.holder m ≡ some t) (ne : t ≢ u) where
  not_mine : waits_on (s.pending u) m ≡ false → mine m ≡ false
  not_mine free = elim (known (mine m)) [
    | inl has ↦ let both : some t ≡ some u = sym held ∙ holds m has free in absurd (ne (cc))
    | inr not ↦ not
  ]

  idle_mine : s.pending u ≡ Nothing → mine m ≡ false
  idle_mine idle = not_mine (ap (λ p. waits_on p m) idle)

  free_other : (k : ℕ) → s.holder k ≡ none → eqb k m ≡ false
  free_other k free = ne_eqb k m (λ e. apart_none s.holder m k t held free (sym e))

  pub foreign : (b : Action) → MayAct s (event u b) → mine_by b mine m ≡ false
  foreign (action.Acquire k) may = rw (free_other k.0 may.when_met) (idle_mine may.order)
  foreign (action.Release k) may = elim (known (eqb k.0 m)) [ inl here ↦ rw here refl | inr other ↦ rw other (idle_mine may.order) ]
  foreign (action.Resume k c) may = not_mine (ap (λ p. waits_on p m) may.order ∙ free_other k.0 may.when_met.0)
  foreign (action.AlertReturn k c) may = not_mine (ap (λ p. waits_on p m) may.order ∙ free_other k.0 may.when_met.0)
  foreign (action.AlertRaise k c) may = not_mine (ap (λ p. waits_on p m) may.order ∙ free_other k.0 may.when_met.0)
  foreign _ may = idle_mine may.order

-- each scene of a play is one in which the threads hold what they have by their lines
pub own_goes : (l : Layout) (xs : List Line) (s : Scene) (e : Event) (v : Scene) → AllOwn xs s → Goes l xs s e v → AllOwn xs v
own_goes l xs s e v own goes w = elim (eqb_tells w e.thread.0) [
  | inl is ↦ subst (λ (i : ℕ). HasOwn xs v i) (sym is.1) mover
  | inr is ↦ other is.1
]
  where
    mover : HasOwn xs v e.thread.0
    mover =
        let was = own e.thread.0 in
        let choice : Choice = record { action = e.action; turn = goes.turn } in
        let after = own_after l.version (rest_of xs s.played e.thread.0) choice was.mine goes.gives was.lines in
        record {
          mine = mine_by e.action was.mine;
          lines = subst (λ (p : ℕ → ℕ). AreOwn (mine_by e.action was.mine) (rest_of xs p e.thread.0)) (sym goes.played)
              (own_settled l.threads xs e.thread.0 (mine_by e.action was.mine) (turned goes.turn e.thread.0 s.played)
              (subst (λ (r : List Line). AreOwn (mine_by e.action was.mine) r) (sym (rest_turned xs goes.turn s.played e.thread.0)) after));
          holds = subst (λ (z : Spec). Holds (mine_by e.action was.mine) z e.thread.0) (sym goes.acts.1) (holds_after s.spec e.thread.0 was.mine was.holds e.action goes.acts.0);
        }

    other : w ≢ e.thread.0 → HasOwn xs v w
    other ne =
        let was = own w in
        record {
          mine = was.mine;
          lines = subst (λ (k : ℕ). AreOwn was.mine (drop k (lines_of w xs))) (sym (ap (λ (p : ℕ → ℕ). p w) goes.played ∙ turned-other l.threads xs e.thread.0 goes.turn s.played w ne)) was.lines;
          holds = subst (λ (z : Spec). Holds was.mine z w) (sym goes.acts.1)
              (λ m has not. holder_stays s.spec e.thread.0 e.action goes.acts.0 m w
              (was.holds m has (ap (λ p. waits_on p m) (sym (pending_stays s.spec e.thread.0 e.action w ne)) ∙ not)) ne);
        }

-- a line of these forks the thread k
abbrev ForksIt : Operation → ℕ → Type 0
ForksIt (Fork who) k = who.0 ≡ k
ForksIt _ k = ⊥

abbrev Forks : ℕ → List Line → Type 0
Forks k [] = ⊥
Forks k (x ∷ xs) = ForksIt x.operation k ⊎ Forks k xs

forks_drop : (k i : ℕ) (ys : List Line) → Forks k (drop i ys) → Forks k ys
forks_drop k zero [] forks = forks
forks_drop k (suc i) [] forks = forks
forks_drop k zero (y ∷ ys) forks = forks
forks_drop k (suc i) (y ∷ ys) forks = inr (forks_drop k i ys forks)

-- a line that may come forks no thread that is there, and then that thread is there
forks_new : (v : Version) (f : Forked) (t k : ℕ) (o : Operation) → MayLive v f t (fate_of o) → ForksIt o k → is_born f k ≡ true → ⊥
forks_new One f t k (Fork who) may forks born = absurd (cc)
forks_new Two f t k (Fork who) may forks born = let both : true ≡ false = sym born ∙ (ap (is_born f) (sym forks) ∙ may.1) in absurd (cc)
forks_new v f t k _ may forks born = absurd forks

forks_there : (f : Forked) (k : ℕ) (o : Operation) → ForksIt o k → is_born (forked_with f (fate_of o)) k ≡ true
forks_there f k (Fork who) forks = elim (eqb_tells k 0) [
  | inl z ↦ ap (λ b. cond b true (forked_with f (fate.Begins who) k)) z.0
  | inr z ↦ elim (eqb_tells who.0 k) [
    | inl p ↦ ap (λ b. cond b true (forked_with f (fate.Begins who) k)) z.0 ∙ ap (λ b. cond b true (f k)) p.0
    | inr p ↦ absurd (p.1 forks)
  ]
]
forks_there f k _ forks = absurd forks

stays_there : (f : Forked) (k : ℕ) (x : Fate) → is_born f k ≡ true → is_born (forked_with f x) k ≡ true
stays_there f k (fate.Begins who) born = elim (known (eqb who.0 k)) [
  | inl here ↦ ap (λ b. cond (eqb k 0) true (cond b true (f k))) here ∙ both (eqb k 0)
  | inr other ↦ ap (λ b. cond (eqb k 0) true (cond b true (f k))) other ∙ born
]
  where
    both : (b : Bool) → cond b true true ≡ true
    both true = refl
    both false = refl
stays_there f k (fate.Awaits who) born = born
stays_there f k fate.Nothing born = born

none_forks : (l : Layout) (h : Holding) (f : Forked) (t k : ℕ) (xs : List Line) → MayFollow l h f xs → is_born f k ≡ true → Forks k (lines_of t xs) → ⊥
none_forks l h f t k [] follow born forks = forks
none_forks l h f t k (x ∷ xs) follow born forks =
    let further : Forks k (lines_of t xs) → ⊥ =
    λ more. none_forks l (holding_after h x.thread.0 x.operation) (forked_with f (fate_of x.operation)) t k xs follow.1 (stays_there f k (fate_of x.operation) born) more in
    elim (eqb_tells x.thread.0 t) [
      | inl p ↦ elim (subst (λ (b : Bool). Forks k (cond b (x ∷ lines_of t xs) (lines_of t xs))) p.0 forks) [
        | inl here ↦ forks_new l.version f x.thread.0 k x.operation follow.0.live here born
        | inr more ↦ further more
      ]
      | inr p ↦ further (subst (λ (b : Bool). Forks k (cond b (x ∷ lines_of t xs) (lines_of t xs))) p.0 forks)
    ]

-- a thread is forked by one thread alone
one_forks : (l : Layout) (h : Holding) (f : Forked) (t u k : ℕ) (xs : List Line) → MayFollow l h f xs → Forks k (lines_of t xs) → Forks k (lines_of u xs) → t ≡ u
one_forks l h f t u k [] follow a b = absurd a
one_forks l h f t u k (x ∷ xs) follow a b =
    let later = one_forks l (holding_after h x.thread.0 x.operation) (forked_with f (fate_of x.operation)) t u k xs follow.1 in
    elim (line_forks t a) [
      | inl here ↦ elim (line_forks u b) [
        | inl too ↦ sym here.0 ∙ too.0
        | inr more ↦ absurd (after u here.1 more)
      ]
      | inr more ↦ elim (line_forks u b) [
        | inl here ↦ absurd (after t here.1 more)
        | inr too ↦ later more too
      ]
    ]
  where
    line_forks : (w : ℕ) → Forks k (lines_of w (x ∷ xs)) → ((x.thread.0 ≡ w) × ForksIt x.operation k) ⊎ Forks k (lines_of w xs)
    line_forks w c = elim (eqb_tells x.thread.0 w) [
      | inl p ↦ elim (subst (λ (y : Bool). Forks k (cond y (x ∷ lines_of w xs) (lines_of w xs))) p.0 c) [ inl here ↦ inl (p.1, here) | inr more ↦ inr more ]
      | inr p ↦ inr (subst (λ (y : Bool). Forks k (cond y (x ∷ lines_of w xs) (lines_of w xs))) p.0 c)
    ]

    after : (w : ℕ) → ForksIt x.operation k → Forks k (lines_of w xs) → ⊥
    after w here more = none_forks l (holding_after h x.thread.0 x.operation) (forked_with f (fate_of x.operation)) w k xs follow.1 (forks_there f k x.operation here) more

-- an event that forks is that of such a line
made_fork : (o : Operation) (who : ThreadId) (turn : Turn) → MayMake o (record { action = action.Fork who; turn = turn }) → ForksIt o who.0
made_fork (Add m n) who turn made = absurd made
made_fork _ who turn made = grind arith

gives_fork : (v : Version) (rest : List Line) (who : ThreadId) (turn : Turn) → Gives v rest (record { action = action.Fork who; turn = turn }) → Forks who.0 rest
gives_fork One [] who turn gives = absurd gives
gives_fork Two [] who turn gives = absurd (let is : action.Fork who ≡ action.End = ap (λ (c : Choice). c.action) gives in cc)
gives_fork One (x ∷ rest) who turn gives = inl (made_fork x.operation who turn gives)
gives_fork Two (x ∷ rest) who turn gives = inl (made_fork x.operation who turn gives)

-- a thread that has an event that may be looked at alone has no other event
made_alone : (o : Operation) (a b : Action) (turn other : Turn) → is_alone a ≡ true → MayMake o (record { action = a; turn = turn }) → MayMake o (record { action = b; turn = other }) → b ≡ a
made_alone (Add m n) a b turn other alone made makes = absurd made
made_alone _ a b turn other alone made makes = grind arith

pub gives_alone : (v : Version) (rest : List Line) (a b : Action) (turn other : Turn) → is_alone a ≡ true → Gives v rest (record { action = a; turn = turn }) → Gives v rest (record { action = b; turn = other }) → b ≡ a
gives_alone One [] a b turn other alone given gives = absurd given
gives_alone Two [] a b turn other alone given gives = ap (λ (c : Choice). c.action) gives ∙ sym (ap (λ (c : Choice). c.action) given)
gives_alone One (x ∷ rest) a b turn other alone given gives = made_alone x.operation a b turn other alone given gives
gives_alone Two (x ∷ rest) a b turn other alone given gives = made_alone x.operation a b turn other alone given gives

-- the states after an event of the thread t that may be looked at alone, and one of another thread u
pub record Swaps (s : Spec) (t u : ℕ) (a b : Action) : Type 0 where
  pub late : MayAct (acted u s b) (event t a)
  pub early : MayAct (acted t s a) (event u b)
  pub same : acted u (acted t s a) b ≡ acted t (acted u s b) a

module _ (s : Spec) (t u : ℕ) (ne : t ≢ u) where
  forks_other : (b : Action) → MayAct s (event u b) → (k : ℕ) → s.life k ≢ Unborn → ForksOther b k
  forks_other (action.Fork who) may j born = λ e. born (ap s.life (sym e) ∙ may.requires_met)
  forks_other _ may j born = tt

  still_live : (b : Action) → MayAct s (event u b) → s.life t ≡ Live → (acted u s b).life t ≡ Live
  still_live b may live = life_stays s u b t ne (forks_other b may t (λ e. unborn_live (sym e ∙ live))) ∙ live

  pub acts_swap : (a b : Action) → is_alone a ≡ true → MayAct s (event t a) → MayAct s (event u b) → ((who : ThreadId) → a ≡ action.Fork who → ForksOther b who.0) → Swaps s t u a b
  acts_swap (action.Release k) b alone may also other = record {
    late = record {
      live = still_live b also may.live;
      order = pending_stays s u b t ne ∙ may.order;
      requires_met = holder_stays s u b also k.0 t may.requires_met ne;
      when_met = tt;
      choice_met = tt;
    };
    early = may_freed s u b also k.0 t may.requires_met ne;
    same = swap_freed s u b also k.0 t may.requires_met ne;
  }
  acts_swap (action.Fork who) b alone may also other =
      let apart = apart_lives s.life who.0 u Unborn Live may.requires_met also.live unborn_live in
      record {
        late = record {
          live = still_live b also may.live;
          order = pending_stays s u b t ne ∙ may.order;
          requires_met = life_stays s u b who.0 apart (other who refl) ∙ may.requires_met;
          when_met = tt;
          choice_met = tt;
        };
        early = may_lived s u b also who.0 Live apart (λ e. unborn_ended (sym may.requires_met ∙ e)) (other who refl);
        same = swap_lived s u b who.0 Live apart (other who refl);
      }
  acts_swap action.End b alone may also other =
      let none = forks_other b also t (λ e. unborn_live (sym e ∙ may.live)) in
      record {
        late = record {
          live = still_live b also may.live;
          order = pending_stays s u b t ne ∙ may.order;
          requires_met = λ m has. may.requires_met m (holder_was s u b m t ne has);
          when_met = tt;
          choice_met = tt;
        };
        early = may_lived s u b also t Ended ne (λ e. live_ended (sym may.live ∙ e)) none;
        same = swap_lived s u b t Ended ne none;
      }
  acts_swap (action.Join who) b alone may also other =
      let apart : who.0 ≢ u = λ e. live_ended (sym also.live ∙ (ap s.life (sym e) ∙ may.when_met)) in
      record {
        late = record {
          live = still_live b also may.live;
          order = pending_stays s u b t ne ∙ may.order;
          requires_met = tt;
          when_met = life_stays s u b who.0 apart (forks_other b also who.0 (λ e. unborn_ended (sym e ∙ may.when_met))) ∙ may.when_met;
          choice_met = tt;
        };
        early = also;
        same = refl;
      }
  acts_swap _ b alone may also other = absurd (cc)

module _ (l : Layout) (xs : List Line) (script : IsScript l xs) where
  pub forks_apart : (s : Scene) (t u : ℕ) (a b : Action) (turn other : Turn) → t ≢ u
      → Gives l.version (rest_of xs s.played t) (record { action = a; turn = turn }) → Gives l.version (rest_of xs s.played u) (record { action = b; turn = other })
      → (who : ThreadId) → a ≡ action.Fork who → ForksOther b who.0
  forks_apart s t u a (action.Fork other_who) turn other ne given gives who is = λ e.
      let mine = gives_fork l.version (rest_of xs s.played t) who turn (subst (λ (z : Action). Gives l.version (rest_of xs s.played t) (record { action = z; turn = turn })) is given) in
      let theirs = gives_fork l.version (rest_of xs s.played u) other_who other gives in
      ne (one_forks l none_held none_forked t u who.0 xs script.follow (forks_drop who.0 (s.played t) (lines_of t xs) mine)
      (forks_drop who.0 (s.played u) (lines_of u xs) (subst (λ k. Forks k (rest_of xs s.played u)) e theirs)))
  forks_apart s t u a _ turn other ne given gives who is = tt
