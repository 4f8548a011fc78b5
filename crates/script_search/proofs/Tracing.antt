-- The way back from a board to the first one, and the numbers of the mutexes.
use Rattle.std.proofs.Common.{◌≡◌, inl, inr, ℕ, ◌+◌, ◌<◌, List, [], ◌∷◌, ◌++◌, length, length-append, reverse, sym, ap, subst, ◌∙◌, arith, Some}
use Rattle.std.proofs.lemmas.List.{reverse-append, reverse-reverse}
use Rattle.std.specs.List.{slice_get}
use Rattle.larch_actions.specs.declared.event.Event.{Event}
use Rattle.larch_actions.specs.declared.event.Layout.{Layout}
use Rattle.script_text.specs.declared.line.Line.{Line}
use Rattle.script_plays.specs.Scenes.{Scene, number_of}
use Rattle.script_plays.specs.Plays.{Plays, IsPlayTo}
use Rattle.script_search.specs.declared.found.Found.{Found}
use Rattle.script_search.specs.Boards.{Moment, scene_of}
use Rattle.script_search.specs.Explored.{AreNumbers}
use Rattle.script_search.specs.Founds.{moments_of}
use Rattle.script_search.specs.Seen.{IsChild}
use Rattle.script_search.specs.Tries.{IsSound, IsAt}
use Rattle.script_search.specs.Ways.{Leads, LeadsBy}
use Rattle.script_search.proofs.Chaining.{plays_append}
use Rattle.script_search.proofs.Growing.{there_cases}
use Rattle.script_search.proofs.Searching.{there_at}
use Rattle.script_search.proofs.Trying.{some_same}

-- the events, the last of them first, lead from the board at the one place to that at the other
abbrev pub LeadBack : Layout → List Line → Found → ℕ → ℕ → List Event → Type 0
LeadBack l xs f at place events = (m n : Moment) → IsAt f at m → IsAt f place n → Plays l xs (scene_of m) (reverse events) (scene_of n)

module _ (l : Layout) (xs : List Line) (f : Found) (sound : IsSound l xs f) where
  pub back_none : (place : ℕ) → LeadBack l xs f place place []
  back_none place m n at there = ap scene_of (some_same m n (slice_get (moments_of f) place) at there)

  pub back_more : (parent at place : ℕ) (events : List Event) (a b : Moment) (last : List Event) → IsAt f parent a → IsAt f at b → LeadsBy l xs a b last → LeadBack l xs f at place events
      → LeadBack l xs f parent place (events ++ reverse last)
  back_more parent at place events a b last ata atb leads back m n atm there =
      let is = some_same a m (slice_get (moments_of f) parent) ata atm in
      subst (λ (h : List Event). Plays l xs (scene_of m) h (scene_of n)) (sym (reverse-append events (reverse last) ∙ ap (λ (z : List Event). z ++ reverse events) (reverse-reverse last)))
      (plays_append l xs (scene_of m) last (scene_of b) (reverse events) (scene_of n) (subst (λ (z : Moment). LeadsBy l xs z b last) is leads) (back b n atb there))

  -- the place from which a board was found
  child : (k : ℕ) → 0 < k → (low : k < length (moments_of f)) → IsChild l xs (moments_of f) f.parents.items k (there_at (moments_of f) k low).0
  child k some low = let here = there_at (moments_of f) k low in sound.seen.linked k here.0 here.1 some

  pub parent_before : (k parent : ℕ) → 0 < k → k < length (moments_of f) → slice_get f.parents.items k ≡ Some parent → parent < k
  parent_before k parent some low named =
      let c = child k some low in
      let is = some_same c.place parent (slice_get f.parents.items k) c.named named in
      let before = c.before in
      omega (arith, is, before)

  pub parent_leads : (k parent : ℕ) (m n : Moment) → 0 < k → k < length (moments_of f) → slice_get f.parents.items k ≡ Some parent → IsAt f parent m → IsAt f k n → (e : Event) × Leads l xs m n e
  parent_leads k parent m n some low named atm atn =
      let here = there_at (moments_of f) k low in
      let c = child k some low in
      let place = some_same c.place parent (slice_get f.parents.items k) c.named named in
      let from = some_same c.parent m (slice_get (moments_of f) parent) (ap (slice_get (moments_of f)) (sym place) ∙ c.there) atm in
      let to = some_same here.0 n (slice_get (moments_of f) k) here.1 atn in
      (c.event, subst (λ (z : Moment). Leads l xs m z c.event) to (subst (λ (z : Moment). Leads l xs z here.0 c.event) from (c.between, c.rest, c.goes, c.chain)))

  -- back at the first board
  pub back_all : (place : ℕ) (events : List Event) (n : Moment) → 0 < length (moments_of f) → LeadBack l xs f 0 place events → IsAt f place n → IsPlayTo l xs (reverse events) (scene_of n)
  back_all place events n some back there =
      let m = there_at (moments_of f) 0 some in
      subst (λ (s : Scene). Plays l xs s (reverse events) (scene_of n)) (sound.seen.root m.0 m.1) (back m.0 n m.1 there)

-- one number more
pub numbers_more : (l : Layout) (xs : List Line) (played : ℕ → ℕ) (n x : ℕ) (numbers : List ℕ) → AreNumbers l xs played n numbers → x ≡ number_of l.threads xs played n
    → AreNumbers l xs played (n + 1) (numbers ++ x ∷ [])
numbers_more l xs played n x numbers are is = record {
  size = length-append numbers (x ∷ []) ∙ ap (λ k. k + 1) are.size;
  each = λ k y at. elim (there_cases numbers x y k at) [
    | inl old ↦ are.each k y old
    | inr new ↦ sym new.1 ∙ (is ∙ ap (number_of l.threads xs played) (sym (new.0 ∙ are.size)))
  ];
}
