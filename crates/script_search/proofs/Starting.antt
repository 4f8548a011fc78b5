-- The first board shows the first scene.
use Rattle.std.proofs.Common.{◌≡◌, inl, inr, ℕ, zero, suc, ◌+◌, ◌≤◌, Bool, true, false, cond, eqb, ne_eqb, List, [], ◌∷◌, ◌++◌, length, length-append, replicate, refl, sym, ap, ◌∙◌, arith, Some, None}
use Rattle.std.specs.List.{slice_get}
use Rattle.std.proofs.lemmas.List.{length-replicate}
use mathlib.Core.Option.{none}
use Rattle.larch_actions.specs.declared.event.Layout.{Layout}
use Rattle.larch_actions.specs.declared.event.Version.{Version}
use Rattle.larch_actions.specs.declared.event.Version.TheVariants.{One, Two}
use Rattle.larch_actions.specs.declared.event.Life.TheVariants.{Unborn, Live}
use Rattle.larch_actions.specs.declared.event.Pending.TheVariants.{Nothing}
use Rattle.larch_actions.specs.Actions.{lives_at_first}
use Rattle.larch_actions.specs.Layout.{IsLawful}
use Rattle.larch_actions.specs.State.{shown_at}
use Rattle.larch_actions.proofs.Shown.{shown_at-replicate}
use Rattle.script_search.specs.declared.board.Place.TheVariants as place
use Rattle.script_search.specs.declared.board.Thread.{Thread}
use Rattle.script_search.specs.Boards.{Moment, pending_of, life_of, life_beyond, is_inside, holder_of, is_second}
use Rattle.script_search.specs.Firsts.{first_place, first_thread, AreFirst, IsFirst}
use Rattle.script_search.proofs.Growing.{there_cases}

-- one thread more
pub first_more : (v : Version) (n : ℕ) (threads : List Thread) (x : Thread) → AreFirst v n threads → x ≡ first_thread v n → AreFirst v (n + 1) (threads ++ x ∷ [])
first_more v n threads x first is = record {
  size = length-append threads (x ∷ []) ∙ ap (λ k. k + 1) first.size;
  each = λ k y at. elim (there_cases threads x y k at) [
    | inl old ↦ first.each k y old
    | inr new ↦ sym new.1 ∙ (is ∙ ap (first_thread v) (sym (new.0 ∙ first.size)))
  ];
}

-- a list whose elements show a function shows it, where past the end it has one value
shown_as : {X Y : Type 0} (view : X → Y) (d : Y) (f : ℕ → Y) (xs : List X) → ((k : ℕ) (x : X) → slice_get xs k ≡ Some x → view x ≡ f k) → ((k : ℕ) → length xs ≤ k → f k ≡ d)
    → (j : ℕ) → shown_at view d xs j ≡ f j
shown_as view d f [] each past j = sym (past j (omega arith))
shown_as view d f (x ∷ xs) each past zero = each zero x refl
shown_as view d f (x ∷ xs) each past (suc j) = shown_as view d (λ k. f (suc k)) xs (λ k y at. each (suc k) y at) (λ k low. past (suc k) (omega arith)) j

life_first : (v : Version) (k : ℕ) → life_of (first_place v k) ≡ lives_at_first v k
life_first One k = refl
life_first Two k = elim (eqb k 0) as (λ b. life_of (cond b place.Running place.Unborn) ≡ cond b Live Unborn) [ true ↦ refl | false ↦ refl ]

waits_first : (v : Version) (k : ℕ) → pending_of (first_place v k) ≡ Nothing
waits_first One k = refl
waits_first Two k = elim (eqb k 0) as (λ b. pending_of (cond b place.Running place.Unborn) ≡ Nothing) [ true ↦ refl | false ↦ refl ]

outside_first : (v : Version) (k c : ℕ) → is_inside c (first_place v k) ≡ false
outside_first One k c = refl
outside_first Two k c = elim (eqb k 0) as (λ b. is_inside c (cond b place.Running place.Unborn) ≡ false) [ true ↦ refl | false ↦ refl ]

life_past : (v : Version) (k : ℕ) → 1 ≤ k → lives_at_first v k ≡ life_beyond (is_second v)
life_past One k low = refl
life_past Two k low = ap (λ b. cond b Live Unborn) (ne_eqb k 0 (omega arith))

module _ (l : Layout) (m : Moment) (lawful : IsLawful l) (second : m.second ≡ is_second l.version) (first : AreFirst l.version l.threads m.threads)
    (holders : m.holders ≡ replicate l.mutexes None) (available : m.available ≡ replicate l.semaphores true) where
  life_shown : (j : ℕ) → shown_at (λ (x : Thread). life_of x.place) (life_beyond m.second) m.threads j ≡ lives_at_first l.version j
  life_shown = shown_as (λ (x : Thread). life_of x.place) (life_beyond m.second) (lives_at_first l.version) m.threads
      (λ k x at. ap (λ (z : Thread). life_of z.place) (first.each k x at) ∙ life_first l.version k)
      (λ k low. life_past l.version k (omega (arith, low, first.size, lawful.some)) ∙ ap life_beyond (sym second))

  waits_shown : (j : ℕ) → shown_at (λ (x : Thread). pending_of x.place) Nothing m.threads j ≡ Nothing
  waits_shown = shown_as (λ (x : Thread). pending_of x.place) Nothing (λ _. Nothing) m.threads
      (λ k x at. ap (λ (z : Thread). pending_of z.place) (first.each k x at) ∙ waits_first l.version k) (λ k low. refl)

  outside_shown : (c j : ℕ) → shown_at (λ (x : Thread). is_inside c x.place) false m.threads j ≡ false
  outside_shown c = shown_as (λ (x : Thread). is_inside c x.place) false (λ _. false) m.threads
      (λ k x at. ap (λ (z : Thread). is_inside c z.place) (first.each k x at) ∙ outside_first l.version k c) (λ k low. refl)

  alerts_shown : (j : ℕ) → shown_at (λ (x : Thread). x.alerted) false m.threads j ≡ false
  alerts_shown = shown_as (λ (x : Thread). x.alerted) false (λ _. false) m.threads
      (λ k x at. ap (λ (z : Thread). z.alerted) (first.each k x at)) (λ k low. refl)

  played_shown : (j : ℕ) → shown_at (λ (x : Thread). x.played) 0 m.threads j ≡ 0
  played_shown = shown_as (λ (x : Thread). x.played) 0 (λ _. 0) m.threads
      (λ k x at. ap (λ (z : Thread). z.played) (first.each k x at)) (λ k low. refl)

  holders_shown : shown_at holder_of none m.holders ≡ (λ j. none)
  holders_shown = ap (shown_at holder_of none) holders ∙ shown_at-replicate holder_of none l.mutexes None refl

  available_shown : shown_at (λ (b : Bool). b) true m.available ≡ (λ j. true)
  available_shown = ap (shown_at (λ (b : Bool). b) true) available ∙ shown_at-replicate (λ (b : Bool). b) true l.semaphores true refl

  pub is_first : IsFirst l m
  is_first = record {
    board = record {
      version = second;
      threads = first.size;
      holders = ap length holders ∙ length-replicate l.mutexes None;
      available = ap length available ∙ length-replicate l.semaphores true;
    };
    scene = λ i. record {
      spec = record {
        holder = holders_shown i;
        members = λ c j. outside_shown c j i;
        avail = available_shown i;
        alerts = λ j. alerts_shown j i;
        pending = λ j. waits_shown j i;
        life = λ j. life_shown j i;
      };
      played = λ j. played_shown j i;
    };
  }
