-- A search that looks at one board after another.
use Rattle.std.proofs.Common.{◌≡◌, ◌⊎◌, ◌↔◌, IsTrue, MatchBool, inl, inr, ℕ, zero, suc, ◌+◌, ◌<◌, ◌≤◌, Bool, true, false, List, [], ◌∷◌, length, refl, sym, ap, subst, ◌∙◌, arith, Some}
use Rattle.std.specs.List.{slice_get}
use mathlib.Core.Logic.{dite}
use native.Mathlib.Decide.{ℕ_discrete}
use Rattle.larch_actions.specs.declared.event.Event.{Event}
use Rattle.larch_actions.specs.declared.event.Layout.{Layout}
use Rattle.script_text.specs.declared.line.Line.{Line}
use Rattle.script_text.specs.Text.{IsScript}
use Rattle.script_plays.specs.Scenes.{Scene, first_scene}
use Rattle.script_plays.specs.Plays.{Goes, GoesOn, AllFinished, Ends, IsPlayTo}
use Rattle.script_plays.proofs.Reduced.{is_stuck}
use Rattle.script_search.specs.declared.explorer.Stuck.{Stuck}
use Rattle.script_search.specs.declared.found.Found.{Found}
use Rattle.script_search.specs.Boards.{Moment, moment_of, scene_of, played_of, IsBoard}
use Rattle.script_search.specs.Explored.{AreNumbers, IsStuckAt}
use Rattle.script_search.specs.Firsts.{IsFirst}
use Rattle.script_search.specs.Founds.{moments_of, IsAlone}
use Rattle.script_search.specs.Seen.{HasEnd, IsSeen, IsClosed, IsAlive}
use Rattle.script_search.specs.Searches.{Searched, IsDead}
use Rattle.script_search.specs.Tries.{IsAt, Tries, Exceeds}
use Rattle.script_search.proofs.Tells.{never}
use Rattle.script_search.proofs.Planning.{before_end}
use Rattle.script_search.proofs.Ending.{all_end}
use Rattle.script_search.proofs.Trying.{some_same, end_more}

-- the one element of a list
only_there : {X : Type 0} (x y : X) (k : ℕ) → slice_get (x ∷ []) k ≡ Some y → (k ≡ 0) × (x ≡ y)
only_there x y zero at = (refl, cc)
only_there x y (suc k) at = absurd (cc)

-- at a place below the length an element stands
pub there_at : {X : Type 0} (xs : List X) (k : ℕ) → k < length xs → (x : X) × (slice_get xs k ≡ Some x)
there_at [] k low = absurd (omega arith)
there_at (x ∷ xs) zero low = (x, refl)
there_at (x ∷ xs) (suc k) low = there_at xs k (omega arith)

module _ (l : Layout) (xs : List Line) where
  -- the first scene alone
  seen_first : (m : Moment) → IsFirst l m → IsSeen l xs (m ∷ []) (0 ∷ [])
  seen_first m first = record {
    size = refl;
    first = (0, m, refl, first.scene);
    root = λ n at. ap scene_of (sym (only_there m n 0 at).1) ∙ first.scene;
    boards = λ k n at. subst (λ (z : Moment). IsBoard l z) (only_there m n k at).1 first.board;
    linked = λ k n at low. absurd (omega (arith, low, (only_there m n k at).0));
    distinct = λ i k n o ati atk low. absurd (omega (arith, low, (only_there m o k atk).0));
  }

  pub searched_first : (m : Moment) (f : Found) (limit : ℕ) → IsFirst l m → IsAlone f l m limit → Searched l xs limit f 0
  searched_first m f limit first alone = record {
    sound = record {
      keyed = alone.keyed;
      layout = alone.layout_is;
      seen = subst (λ (ms : List Moment). IsSeen l xs ms f.parents.items) (sym alone.moments)
          (subst (λ (ps : List ℕ). IsSeen l xs (m ∷ []) ps) (sym alone.parents) (seen_first m first));
    };
    limit_is = alone.limit_is;
    low = omega arith;
    closed = λ k n low. absurd (omega arith);
    alive = λ k n low. absurd (omega arith);
  }

  -- no scene is allowed, and one is reached
  pub exceeds_none : (limit : ℕ) → limit ≡ 0 → Exceeds l xs limit
  exceeds_none limit none = record {
    scenes = first_scene l.version ∷ [];
    count = omega (arith, none);
    reached = λ k s at. ([], (only_there (first_scene l.version) s k at).1);
    distinct = λ i k s u ati atk low. absurd (omega (arith, low, (only_there (first_scene l.version) u k atk).0));
  }

  module _ (limit : ℕ) (f g : Found) (n : ℕ) (m : Moment) (r : Bool) (old : Searched l xs limit f n) (tries : Tries l xs f g m (λ e. Unit {0}) r) (at : IsAt f n m) where
    -- a board that is looked at is one of those before, or this one
    looked : (k : ℕ) (o : Moment) → k < n + 1 → IsAt g k o → ((k < n) × IsAt f k o) ⊎ (m ≡ o)
    looked k o low ato =
        let was = there_at (moments_of f) k (omega (arith, low, before_end (moments_of f) n m at)) in
        let is = some_same was.0 o (slice_get (moments_of g) k) (tries.grows.kept k was.0 was.1) ato in
        dite (ℕ_discrete k n)
        (λ e. inr (some_same m o (slice_get (moments_of f) n) at (ap (slice_get (moments_of f)) (sym e) ∙ (was.1 ∙ ap Some is))))
        (λ ne. inl (omega (arith, low, ne), was.1 ∙ ap Some is))

    pub searched_more : AllFinished l xs (scene_of m) ⊎ GoesOn l xs (scene_of m) → Searched l xs limit g (n + 1)
    searched_more alive = record {
      sound = tries.grows.sound;
      limit_is = tries.grows.limit ∙ old.limit_is;
      low = omega (arith, before_end (moments_of g) n m (tries.grows.kept n m at));
      closed = λ k o low ato. elim (looked k o low ato) [
        | inl before ↦ λ e s goes. end_more l xs f g s tries.grows (old.closed k o before.0 before.1 e s goes)
        | inr here ↦ subst (λ (z : Moment). (e : Event) (s : Scene) → Goes l xs (scene_of z) e s → HasEnd l xs (moments_of g) s) here (λ e s goes. tries.covers e s tt goes)
      ];
      alive = λ k o low ato. elim (looked k o low ato) [
        | inl before ↦ old.alive k o before.0 before.1
        | inr here ↦ subst (λ (z : Moment). AllFinished l xs (scene_of z) ⊎ GoesOn l xs (scene_of z)) here alive
      ];
    }

  -- some event leads on
  pub searched_on : (limit : ℕ) (f g : Found) (n : ℕ) (m : Moment) (r : Bool) → Searched l xs limit f n → Tries l xs f g m (λ e. Unit {0}) r → IsAt f n m → r ≡ true → Searched l xs limit g (n + 1)
  searched_on limit f g n m r old tries at on =
      searched_more limit f g n m r old tries at (inr (subst (λ (b : Bool). MatchBool b (GoesOn l xs (scene_of m)) ((e : Event) (s : Scene) → Unit {0} → Goes l xs (scene_of m) e s → ⊥)) on tries.goes))

  -- none does: then all threads are finished, or the scene is dead
  pub searched_over : (limit : ℕ) (f g : Found) (n : ℕ) (m : Moment) (r : Bool) → Searched l xs limit f n → Tries l xs f g m (λ e. Unit {0}) r → IsAt f n m → r ≡ false
      → (b : Bool) → (IsTrue b ↔ AllFinished l xs (scene_of m)) → MatchBool b (Searched l xs limit g (n + 1)) (IsDead l xs g n)
  searched_over limit f g n m r old tries at off true whole = searched_more limit f g n m r old tries at (inl (whole.0 refl))
  searched_over limit f g n m r old tries at off false whole = record {
    sound = tries.grows.sound;
    moment = m;
    at = tries.grows.kept n m at;
    unfinished = λ finished. never (whole.1 finished);
    no_more = λ more. subst (λ (b : Bool). MatchBool b (GoesOn l xs (scene_of m)) ((e : Event) (s : Scene) → Unit {0} → Goes l xs (scene_of m) e s → ⊥)) off tries.goes more.0 more.1 tt more.2;
  }

  -- all are looked at, and none is dead
  pub searched_all : IsScript l xs → (limit : ℕ) (f : Found) (n : ℕ) → Searched l xs limit f n → length (moments_of f) ≤ n → Ends l xs
  searched_all script limit f n s all =
      let is : n ≡ length (moments_of f) = omega (arith, all, s.low) in
      all_end l xs (moments_of f) script s.sound.seen.first (subst (λ k. IsClosed l xs (moments_of f) k) is s.closed) (subst (λ k. IsAlive l xs (moments_of f) k) is s.alive)

  -- a play to a dead scene is stuck
  pub stuck_there : (f : Found) (k : ℕ) (s : Stuck) → IsDead l xs f k → IsAt f k (moment_of s.board) → IsPlayTo l xs s.events.items (scene_of (moment_of s.board))
      → AreNumbers l xs (played_of (moment_of s.board)) l.mutexes s.numbers.items → IsStuckAt l xs s
  stuck_there f k s dead at play numbers =
      let is = some_same dead.moment (moment_of s.board) (slice_get (moments_of f) k) dead.at at in
      record {
        stuck = is_stuck l xs s.events.items (scene_of (moment_of s.board)) play
            (λ all. dead.unfinished (subst (λ (z : Moment). AllFinished l xs (scene_of z)) (sym is) all))
            (λ on. dead.no_more (subst (λ (z : Moment). GoesOn l xs (scene_of z)) (sym is) on));
        play = play;
        board = dead.sound.seen.boards k (moment_of s.board) at;
        numbers = numbers;
      }
