-- What a thread has by its lines it holds, and one line alone forks a thread.
use Rattle.std.proofs.Common.{◌≡◌, ◌⊎◌, inl, inr, ℕ, zero, suc, Bool, true, false, cond, eqb, List, [], ◌∷◌, drop, refl, ap, sym, subst, ◌∙◌}
use Rattle.std.proofs.lemmas.Bool.{eq-eqb, ne_eqb}
use Rattle.std.proofs.lemmas.Bool.Decides.{eqb_tells}
use mathlib.Core.Option.{none, some}
use Rattle.larch_actions.specs.declared.event.Layout.{Layout}
use Rattle.larch_actions.specs.declared.event.Version.{Version}
use Rattle.larch_actions.specs.declared.event.Version.TheVariants.{One, Two}
use Rattle.larch_actions.specs.declared.event.Action.{Action}
use Rattle.larch_actions.specs.declared.event.Action.TheVariants as action
use Rattle.larch_actions.specs.declared.event.Pending.{Pending}
use Rattle.larch_actions.specs.declared.event.Pending.TheVariants.{Nothing, Waiting, AlertWaiting}
use Rattle.larch_actions.specs.Actions.{Spec, MayAct, acted, put}
use Rattle.script_text.specs.declared.line.Line.{Line}
use Rattle.script_text.specs.declared.line.Operation.{Operation}
use Rattle.script_text.specs.declared.line.Operation.TheVariants.{Acquire, Release, Wait, AlertWait, Signal, Broadcast, P, V, Alert, TestAlert, AlertP, Add, Until, AlertUntil, Fork, Join}
use Rattle.script_text.specs.declared.table.Use.{Use}
use Rattle.script_text.specs.declared.table.Use.TheVariants.{Takes, Gives as Frees, Needs, Nothing as NoUse}
use Rattle.script_text.specs.Table.{use_of, fate_of}
use Rattle.script_text.specs.Operations.{Holding, Forked, MayUse, MayFollow, holding_with, holding_after, forked_with}
use Rattle.script_text.specs.Runs.{event, lines_of}
use Rattle.script_plays.specs.declared.choice.Turn.{Turn}
use Rattle.script_plays.specs.declared.choice.Turn.TheVariants.{Stays, Next}
use Rattle.script_plays.specs.declared.choice.Choice.{Choice}
use Rattle.script_plays.specs.Choices.{MayMake, Gives, is_silent}
use Rattle.script_plays.specs.Scenes.{Scene, first_scene, rest_of, number_of, settled_over, settled, turned}
use Rattle.script_plays.proofs.Bounded.{put_here, put_other}

-- which mutexes one thread has by its lines
abbrev pub Mine : Type 0
Mine = ℕ → Bool

abbrev pub MayHave : Use → Mine → Type 0
MayHave (Takes m) mine = mine m.0 ≡ false
MayHave (Frees m) mine = mine m.0 ≡ true
MayHave (Needs m) mine = mine m.0 ≡ true
MayHave NoUse mine = Unit {0}

abbrev pub mine_with : Use → Mine → Mine
mine_with (Takes m) mine = λ n. cond (eqb m.0 n) true (mine n)
mine_with (Frees m) mine = λ n. cond (eqb m.0 n) false (mine n)
mine_with (Needs m) mine = mine
mine_with NoUse mine = mine

-- a thread that has these may play these lines
abbrev pub AreOwn : Mine → List Line → Type 0
AreOwn mine [] = Unit {0}
AreOwn mine (x ∷ xs) = MayHave (use_of x.operation) mine × AreOwn (mine_with (use_of x.operation) mine) xs

-- lines that may come one after another are such for each thread
use_mine : (h : Holding) (t : ℕ) (u : Use) → MayUse h t u → MayHave u (h t)
use_mine h t (Takes m) may = may
use_mine h t _ may = may

mine_after : (h : Holding) (t : ℕ) (u : Use) → mine_with u (h t) ≡ holding_with h t u t
mine_after h t (Takes m) = λ i n. sym (ap (λ b. cond b (cond (eqb m.0 n) true (h t n)) (h t n)) (eq-eqb t t refl)) i
mine_after h t (Frees m) = λ i n. sym (ap (λ b. cond b (cond (eqb m.0 n) false (h t n)) (h t n)) (eq-eqb t t refl)) i
mine_after h t (Needs m) = refl
mine_after h t NoUse = refl

other_after : (h : Holding) (t : ℕ) (u : Use) (k : ℕ) → eqb t k ≡ false → h k ≡ holding_with h t u k
other_after h t (Takes m) k other = λ i n. sym (ap (λ b. cond b (cond (eqb m.0 n) true (h k n)) (h k n)) other) i
other_after h t (Frees m) k other = λ i n. sym (ap (λ b. cond b (cond (eqb m.0 n) false (h k n)) (h k n)) other) i
other_after h t (Needs m) k other = refl
other_after h t NoUse k other = refl

pub own_lines : (l : Layout) (h : Holding) (f : Forked) (t : ℕ) (xs : List Line) → MayFollow l h f xs → AreOwn (h t) (lines_of t xs)
own_lines l h f t [] follow = tt
own_lines l h f t (x ∷ xs) follow =
    let rest = own_lines l (holding_after h x.thread.0 x.operation) (forked_with f (fate_of x.operation)) t xs follow.1 in
    elim (eqb_tells x.thread.0 t) [
      | inl same ↦
          rw same.0 (
            subst (λ k. MayHave (use_of x.operation) (h k)) same.1 (use_mine h x.thread.0 (use_of x.operation) follow.0.may),
            subst (λ (mine : Mine). AreOwn mine (lines_of t xs))
                (sym (subst (λ k. mine_with (use_of x.operation) (h k) ≡ holding_after h x.thread.0 x.operation k) same.1 (mine_after h x.thread.0 (use_of x.operation)))) rest,
          )
      | inr other ↦ rw other.0 (subst (λ (mine : Mine). AreOwn mine (lines_of t xs)) (sym (other_after h x.thread.0 (use_of x.operation) t other.0)) rest)
    ]

-- what an action makes of them
abbrev pub mine_by : Action → Mine → Mine
mine_by (action.Acquire m) mine = λ n. cond (eqb m.0 n) true (mine n)
mine_by (action.Release m) mine = λ n. cond (eqb m.0 n) false (mine n)
mine_by _ mine = mine

-- the lines after a choice
abbrev pub lines_after : Turn → List Line → List Line
lines_after Stays rest = rest
lines_after Next [] = []
lines_after Next (x ∷ rest) = rest

-- a choice of these lines leaves such lines
at_choice : (a b : Choice) (mine : Mine) (rest : List Line) → a ≡ b → AreOwn (mine_by b.action mine) (lines_after b.turn rest) → AreOwn (mine_by a.action mine) (lines_after a.turn rest)
at_choice a b mine rest e own = subst (λ (c : Choice). AreOwn (mine_by c.action mine) (lines_after c.turn rest)) (sym e) own

line_made : (o : Operation) (c : Choice) (mine : Mine) (x : Line) (rest : List Line) → x.operation ≡ o → MayMake o c → AreOwn mine (x ∷ rest) → AreOwn (mine_with (use_of o) mine) rest → AreOwn (mine_by c.action mine) (lines_after c.turn (x ∷ rest))
line_made (Acquire m) c mine x rest is (inl e) own tail = at_choice c _ mine (x ∷ rest) e tail
line_made (Acquire m) c mine x rest is (inr h) own tail = absurd h
line_made (Release m) c mine x rest is (inl e) own tail = at_choice c _ mine (x ∷ rest) e tail
line_made (Release m) c mine x rest is (inr h) own tail = absurd h
line_made (Wait m k) c mine x rest is (inl e) own tail = at_choice c _ mine (x ∷ rest) e own
line_made (Wait m k) c mine x rest is (inr (inl e)) own tail = at_choice c _ mine (x ∷ rest) e tail
line_made (Wait m k) c mine x rest is (inr (inr h)) own tail = absurd h
line_made (AlertWait m k) c mine x rest is (inl e) own tail = at_choice c _ mine (x ∷ rest) e own
line_made (AlertWait m k) c mine x rest is (inr (inl e)) own tail = at_choice c _ mine (x ∷ rest) e tail
line_made (AlertWait m k) c mine x rest is (inr (inr (inl e))) own tail = at_choice c _ mine (x ∷ rest) e tail
line_made (AlertWait m k) c mine x rest is (inr (inr (inr h))) own tail = absurd h
line_made (Signal k) c mine x rest is h own tail = at_choice c _ mine (x ∷ rest) h.1 tail
line_made (Broadcast k) c mine x rest is (inl e) own tail = at_choice c _ mine (x ∷ rest) e tail
line_made (Broadcast k) c mine x rest is (inr h) own tail = absurd h
line_made (P s) c mine x rest is (inl e) own tail = at_choice c _ mine (x ∷ rest) e tail
line_made (P s) c mine x rest is (inr h) own tail = absurd h
line_made (V s) c mine x rest is (inl e) own tail = at_choice c _ mine (x ∷ rest) e tail
line_made (V s) c mine x rest is (inr h) own tail = absurd h
line_made (Alert u) c mine x rest is (inl e) own tail = at_choice c _ mine (x ∷ rest) e tail
line_made (Alert u) c mine x rest is (inr h) own tail = absurd h
line_made TestAlert c mine x rest is (inl e) own tail = at_choice c _ mine (x ∷ rest) e tail
line_made TestAlert c mine x rest is (inr (inl e)) own tail = at_choice c _ mine (x ∷ rest) e tail
line_made TestAlert c mine x rest is (inr (inr h)) own tail = absurd h
line_made (AlertP s) c mine x rest is (inl e) own tail = at_choice c _ mine (x ∷ rest) e tail
line_made (AlertP s) c mine x rest is (inr (inl e)) own tail = at_choice c _ mine (x ∷ rest) e tail
line_made (AlertP s) c mine x rest is (inr (inr h)) own tail = absurd h
line_made (Add m n) c mine x rest is h own tail = absurd h
line_made (Until m k n) c mine x rest is (inl e) own tail = at_choice c _ mine (x ∷ rest) e own
line_made (Until m k n) c mine x rest is (inr (inl e)) own tail = at_choice c _ mine (x ∷ rest) e own
line_made (Until m k n) c mine x rest is (inr (inr h)) own tail = absurd h
line_made (AlertUntil m k n) c mine x rest is (inl e) own tail = at_choice c _ mine (x ∷ rest) e own
line_made (AlertUntil m k n) c mine x rest is (inr (inl e)) own tail = at_choice c _ mine (x ∷ rest) e own
line_made (AlertUntil m k n) c mine x rest is (inr (inr (inl e))) own tail = at_choice c _ mine (x ∷ rest) e tail
line_made (AlertUntil m k n) c mine x rest is (inr (inr (inr h))) own tail = absurd h
line_made (Fork u) c mine x rest is (inl e) own tail = at_choice c _ mine (x ∷ rest) e tail
line_made (Fork u) c mine x rest is (inr h) own tail = absurd h
line_made (Join u) c mine x rest is (inl e) own tail = at_choice c _ mine (x ∷ rest) e tail
line_made (Join u) c mine x rest is (inr h) own tail = absurd h

pub own_after : (v : Version) (rest : List Line) (c : Choice) (mine : Mine) → Gives v rest c → AreOwn mine rest → AreOwn (mine_by c.action mine) (lines_after c.turn rest)
own_after One [] c mine gives own = absurd gives
own_after Two [] c mine gives own = at_choice c _ mine [] gives tt
own_after One (x ∷ rest) c mine gives own = line_made x.operation c mine x rest refl gives own own.1
own_after Two (x ∷ rest) c mine gives own = line_made x.operation c mine x rest refl gives own own.1

-- the lines from a place on
drop_next : (ys : List Line) (k : ℕ) (x : Line) (rest : List Line) → drop k ys ≡ x ∷ rest → drop (suc k) ys ≡ rest
drop_next [] zero x rest e = absurd (cc)
drop_next [] (suc k) x rest e = absurd (cc)
drop_next (y ∷ ys) zero x rest e = cc
drop_next (y ∷ ys) (suc k) x rest e = drop_next ys k x rest e

pub rest_next : (xs : List Line) (played : ℕ → ℕ) (t : ℕ) (x : Line) (rest : List Line) → rest_of xs played t ≡ x ∷ rest → rest_of xs (put played t (suc (played t))) t ≡ rest
rest_next xs played t x rest e = ap (λ k. drop k (lines_of t xs)) (put_here played t (suc (played t))) ∙ drop_next (lines_of t xs) (played t) x rest e

drop_all : (ys : List Line) (k : ℕ) → drop k ys ≡ [] → drop (suc k) ys ≡ []
drop_all [] zero e = refl
drop_all [] (suc k) e = refl
drop_all (y ∷ ys) zero e = absurd (cc)
drop_all (y ∷ ys) (suc k) e = drop_all ys k e

after_next : (xs : List Line) (played : ℕ → ℕ) (t : ℕ) (rest : List Line) → rest_of xs played t ≡ rest → rest_of xs (put played t (suc (played t))) t ≡ lines_after Next rest
after_next xs played t [] e = ap (λ k. drop k (lines_of t xs)) (put_here played t (suc (played t))) ∙ drop_all (lines_of t xs) (played t) e
after_next xs played t (x ∷ rest) e = rest_next xs played t x rest e

pub rest_turned : (xs : List Line) (turn : Turn) (played : ℕ → ℕ) (t : ℕ) → rest_of xs (turned turn t played) t ≡ lines_after turn (rest_of xs played t)
rest_turned xs Stays played t = refl
rest_turned xs Next played t = after_next xs played t (rest_of xs played t) refl

-- a silent line takes and frees no mutex
pub silent_keeps : (o : Operation) (number : ℕ → ℕ) (mine : Mine) → is_silent o number ≡ true → mine_with (use_of o) mine ≡ mine
silent_keeps (Add m n) number mine s = refl
silent_keeps (Until m c n) number mine s = refl
silent_keeps (AlertUntil m c n) number mine s = refl
silent_keeps _ number mine s = absurd (cc)

pub known : (b : Bool) → (b ≡ true) ⊎ (b ≡ false)
known true = inl refl
known false = inr refl

own_over : (n : ℕ) (xs : List Line) (t : ℕ) (mine : Mine) (rest : List Line) (played : ℕ → ℕ) → rest_of xs played t ≡ rest → AreOwn mine rest → AreOwn mine (rest_of xs (settled_over n xs t rest played) t)
own_over n xs t mine [] played e own = subst (λ (r : List Line). AreOwn mine r) (sym e) own
own_over n xs t mine (x ∷ rest) played e own = elim (known (is_silent x.operation (number_of n xs played))) [
  | inl silent ↦
      rw silent (
      own_over n xs t mine rest (put played t (suc (played t))) (rest_next xs played t x rest e)
      (subst (λ (h : Mine). AreOwn h rest) (silent_keeps x.operation (number_of n xs played) mine silent) own.1)
      )
  | inr not ↦ rw not (subst (λ (r : List Line). AreOwn mine r) (sym e) own)
]

pub own_settled : (n : ℕ) (xs : List Line) (t : ℕ) (mine : Mine) (played : ℕ → ℕ) → AreOwn mine (rest_of xs played t) → AreOwn mine (rest_of xs (settled n xs t played) t)
own_settled n xs t mine played own = own_over n xs t mine (rest_of xs played t) played refl own

-- the mutex of a wait, which its thread has by its lines but needn't hold
abbrev pub waits_on : Pending → ℕ → Bool
waits_on Nothing n = false
waits_on (Waiting m c) n = eqb m.0 n
waits_on (AlertWaiting m c) n = eqb m.0 n

abbrev pub Holds : Mine → Spec → ℕ → Type 0
Holds mine s t = (m : ℕ) → mine m ≡ true → waits_on (s.pending t) m ≡ false → s.holder m ≡ some t

-- what the thread has by its lines it holds
pub record HasOwn (xs : List Line) (s : Scene) (t : ℕ) : Type 0 where
  pub mine : Mine
  pub lines : AreOwn mine (rest_of xs s.played t)
  pub holds : Holds mine s.spec t

abbrev pub AllOwn : List Line → Scene → Type 0
AllOwn xs s = (t : ℕ) → HasOwn xs s t

pub own_first : (l : Layout) (v : Version) (h : Holding) (f : Forked) (xs : List Line) → ((t m : ℕ) → h t m ≡ false) → MayFollow l h f xs → AllOwn xs (first_scene v)
own_first l v h f xs bare follow t = record { mine = h t; lines = own_lines l h f t xs follow; holds = λ m has. absurd (let is = bare t m in cc) }

-- an event changes what its own thread has and holds alike
module _ (s : Spec) (t : ℕ) (mine : Mine) (holds : Holds mine s t) where
  -- of a thread in no wait
  still : s.pending t ≡ Nothing → (m : ℕ) → mine m ≡ true → s.holder m ≡ some t
  still idle m has = holds m has (ap (λ p. waits_on p m) idle)

  -- one that takes the mutex k again holds it, and all others as before
  again : (k m : ℕ) → ((eqb k m ≡ false) → s.holder m ≡ some t) → put s.holder k (some t) m ≡ some t
  again k m else = elim (eqb_tells m k) [
    | inl p ↦ ap (λ b. cond b (some t) (s.holder m)) p.0
    | inr p ↦ ap (λ b. cond b (some t) (s.holder m)) p.0 ∙ else (ne_eqb k m (λ e. p.1 (sym e)))
  ]

  resumed : (k m : ℕ) → waits_on (s.pending t) m ≡ eqb k m → mine m ≡ true → put s.holder k (some t) m ≡ some t
  resumed k m wait has = again k m (λ other. holds m has (wait ∙ other))

  taken : (k m : ℕ) → s.pending t ≡ Nothing → cond (eqb k m) true (mine m) ≡ true → put s.holder k (some t) m ≡ some t
  taken k m idle has = again k m (λ other. still idle m (sym (ap (λ b. cond b true (mine m)) other) ∙ has))

  freed : (k m : ℕ) → s.pending t ≡ Nothing → eqb k m ≡ false → mine m ≡ true → put s.holder k none m ≡ some t
  freed k m idle other has = elim (eqb_tells k m) [
    | inl p ↦ absurd (cc)
    | inr p ↦ put_other s.holder k none m (λ e. p.1 (sym e)) ∙ still idle m has
  ]

  released : (k m : ℕ) → s.pending t ≡ Nothing → cond (eqb k m) false (mine m) ≡ true → put s.holder k none m ≡ some t
  released k m idle has = elim (known (eqb k m)) [
    | inl here ↦ absurd (let no = rw here at has in cc)
    | inr other ↦ freed k m idle other (rw other at has)
  ]

  waiting_on : (k m : ℕ) (p : Pending) → waits_on p m ≡ eqb k m → put s.pending t p t ≡ p → waits_on (put s.pending t p t) m ≡ false → eqb k m ≡ false
  waiting_on k m p shape here not = sym (ap (λ q. waits_on q m) here ∙ shape) ∙ not

  pub holds_after : (a : Action) → MayAct s (event t a) → Holds (mine_by a mine) (acted t s a) t
  holds_after (action.Acquire k) may m has not = taken k.0 m may.order has
  holds_after (action.Release k) may m has not = released k.0 m may.order has
  holds_after (action.Enqueue k c) may m has not = freed k.0 m may.order (waiting_on k.0 m (Waiting k c) refl (put_here s.pending t (Waiting k c)) not) has
  holds_after (action.Resume k c) may m has not = resumed k.0 m (ap (λ p. waits_on p m) may.order) has
  holds_after (action.AlertEnqueue k c) may m has not = freed k.0 m may.order (waiting_on k.0 m (AlertWaiting k c) refl (put_here s.pending t (AlertWaiting k c)) not) has
  holds_after (action.AlertReturn k c) may m has not = resumed k.0 m (ap (λ p. waits_on p m) may.order) has
  holds_after (action.AlertRaise k c) may m has not = resumed k.0 m (ap (λ p. waits_on p m) may.order) has
  holds_after _ may m has not = still may.order m has
