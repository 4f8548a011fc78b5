-- What is said of the threads, by what a board shows.
use Rattle.std.proofs.Common.{◌≡◌, ◌≢◌, ℕ, ◌+◌, ◌<◌, List, [], ◌∷◌, ◌++◌, length, drop, get_or, refl, sym, ap, ◌∙◌, add-one, append_assoc, Some}
use Rattle.std.specs.List.{slice_get}
use Rattle.larch_actions.specs.declared.event.Layout.{Layout}
use Rattle.larch_actions.specs.declared.event.Life.TheVariants as life
use Rattle.larch_actions.specs.Actions.{Spec}
use Rattle.script_text.specs.declared.line.Line.{Line}
use Rattle.script_text.specs.declared.line.Operation.{Operation}
use Rattle.script_text.specs.Layouts.{head_lines}
use Rattle.script_text.specs.Runs.{lines_of}
use Rattle.script_plays.specs.Scenes.{Scene, rest_of}
use Rattle.script_search.specs.declared.board.Place.{Place}
use Rattle.script_search.specs.declared.board.Place.TheVariants as place
use Rattle.script_search.specs.declared.board.Thread.{Thread}
use Rattle.script_search.specs.Boards.{Moment, spec_of, life_of}
use Rattle.script_search.proofs.Shown.{life_now}
use Rattle.command_explore.proofs.Lining.{got}
use Rattle.command_explore.specs.Waits.{at_text, after_text, life_text, lines_before, lines_text, stands_text}

pub life_is : (m : Moment) (t : ℕ) → t < length m.threads → (x : Thread) → x ≡ get_or m.threads t x → (spec_of m).life t ≡ life_of x.place
life_is m t low x is = life_now m t low x ∙ ap (λ (y : Thread). life_of y.place) (sym is)

pub lives : (p : Place) → p ≢ place.Unborn → p ≢ place.Ended → life_of p ≡ life.Live
lives place.Unborn u e = absurd (u refl)
lives place.Ended u e = absurd (e refl)
lives _ u e = refl

-- a thread that has the line at the place i before it
module _ (l : Layout) (xs : List Line) (numbers : List ℕ) (s : Scene) (t k i : ℕ) (played : k ≡ s.played t) where
  rest_is : (ys : List Line) → drop k (lines_of t xs) ≡ ys → rest_of xs s.played t ≡ ys
  rest_is ys e = ap (λ n. drop n (lines_of t xs)) (sym played) ∙ e

  pub stands_at : (d y : Line) (rest : List Line) → i ≡ lines_before t k xs → i < length xs → slice_get xs i ≡ Some y → drop k (lines_of t xs) ≡ y ∷ rest
      → at_text s.spec numbers t (head_lines l.version + i + 1) (get_or xs i d).operation ≡ stands_text l xs numbers s t (rest_of xs s.played t)
  stands_at d y rest is low there e =
      let some : Some (get_or xs i d) ≡ Some y = sym (got xs i d low) ∙ there in
      let equal : get_or xs i d ≡ y = cc in
      ap (λ (z : Line). at_text s.spec numbers t (head_lines l.version + i + 1) z.operation) equal
      ∙ (ap (λ n. at_text s.spec numbers t (head_lines l.version + n + 1) y.operation) (is ∙ ap (λ n. lines_before t n xs) played)
      ∙ sym (ap (stands_text l xs numbers s t) (rest_is (y ∷ rest) e)))

  pub stands_after : drop k (lines_of t xs) ≡ [] → after_text l.version t ≡ stands_text l xs numbers s t (rest_of xs s.played t)
  stands_after e = sym (ap (stands_text l xs numbers s t) (rest_is [] e))

-- one more line
pub one_line_more : (l : Layout) (xs : List Line) (numbers : List ℕ) (s : Scene) (n : ℕ) (head old line new : List ℕ) → old ≡ head ++ lines_text l xs numbers s n → line ≡ life_text l xs numbers s n (s.spec.life n) → new ≡ old ++ line
    → new ≡ head ++ lines_text l xs numbers s (n + 1)
one_line_more l xs numbers s n head old line new was is e =
    let more : lines_text l xs numbers s (n + 1) ≡ lines_text l xs numbers s n ++ life_text l xs numbers s n (s.spec.life n) = rw add-one refl in
    e ∙ (ap (λ z. z ++ line) was ∙ (ap (λ z. (head ++ lines_text l xs numbers s n) ++ z) is ∙ (append_assoc head (lines_text l xs numbers s n) (life_text l xs numbers s n (s.spec.life n)) ∙ ap (λ z. head ++ z) (sym more))))

-- the lines of all threads, under equal names
pub all_lines : (k l : Layout) (xs ys : List Line) (ms ns : List ℕ) (s : Scene) (n : ℕ) (head text : List ℕ) → k ≡ l → xs ≡ ys → ms ≡ ns → n ≡ k.threads → text ≡ head ++ lines_text k xs ms s n → text ≡ head ++ lines_text l ys ns s l.threads
all_lines k l xs ys ms ns s n head text el ex em en e =
    e ∙ (ap (λ z. head ++ lines_text k xs ms s z) en
    ∙ (ap (λ (z : Layout). head ++ lines_text z xs ms s z.threads) el
    ∙ (ap (λ (z : List Line). head ++ lines_text l z ms s l.threads) ex ∙ ap (λ (z : List ℕ). head ++ lines_text l ys z s l.threads) em)))
