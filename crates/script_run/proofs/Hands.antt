-- The hand of a thread after its calls, its stints as visits, and their shares.
use Rattle.std.proofs.Common.{◌≡◌, ℕ, ◌+◌, ◌<◌, inl, inr, List, [], ◌∷◌, ◌++◌, append-nil, append_assoc, length, get_or, map, refl, ap, sym, subst, ◌∙◌, Some, None, Option as Opt}
use mathlib.Core.Option.{some}
use lib.ListN.{get_elem?, set}
use Rattle.atomic_table.proofs.Lists.{at_set}
use Rattle.std.proofs.lemmas.Bool.{eq-eqb, ne_eqb}
use Rattle.std.proofs.lemmas.Bool.Decides.{eqb_tells}
use Rattle.std.proofs.lemmas.List.{get_or-set_same, get_or-set_other, map-append}
use Rattle.larch_actions.specs.declared.event.Event.{Event}
use Rattle.larch_actions.specs.declared.event.MutexId.{MutexId}
use Rattle.nub_rule.specs.declared.view.Stint.{Stint}
use Rattle.sum_uses.specs.declared.added.Added.{Added}
use Rattle.script_text.specs.declared.line.Line.{Line}
use Rattle.script_text.specs.Runs.{IsRow, lines_of}
use Rattle.script_text.specs.Visits.{AreBelow, AreLeft, Hand, Leaves, Visit, adds, after_waits, gets, leaves, waits}
use Rattle.script_run.specs.Playing.{AreLinked, HasHand, visit_of, visits_of}
use Rattle.script_run.proofs.Rows.{own_line}

none_some : (x : ℕ) → (let n : Opt ℕ = None in n) ≡ Some x → ⊥
none_some x e = cc

same_got : (x y : ℕ) → (let n : Opt ℕ = Some x in n) ≡ Some y → x ≡ y
same_got x y e = cc

module _ (held : List (Opt ℕ)) (numbers : List ℕ) (hand : Hand) (has : HasHand held numbers hand) (m : MutexId) where
  -- after y was got with the mutex
  pub hand_gets : (y : ℕ) → m.0 < length numbers → HasHand (set held m.0 (Some y)) (set numbers m.0 y) (gets m y hand)
  hand_gets y low k x at =
      elim (at_set held m.0 k (Some y) (Some x) at) [
        | inl e ↦
            let P : ℕ → Type 0 = λ i. gets m y hand i ≡ (x, get_or (set numbers m.0 y) i 0) in
            let here : gets m y hand m.0 ≡ (y, y) = rw (eq-eqb m.0 m.0 refl) refl in
            let same : y ≡ x = same_got y x e.1 in
            subst P (sym e.0) (here ∙ (λ j. (same j, sym (get_or-set_same numbers m.0 y 0 low) j)))
        | inr e ↦
            let there : gets m y hand k ≡ hand k = rw (ne_eqb k m.0 e.0) refl in
            there ∙ (has k x e.1 ∙ ap (λ n. (x, n)) (sym (get_or-set_other numbers m.0 k y 0 e.0)))
      ]

  -- after it was given back
  pub hand_gives : HasHand (set held m.0 None) numbers hand
  hand_gives k x at =
      elim (at_set held m.0 k None (Some x) at) [
        | inl e ↦ absurd (none_some x e.1)
        | inr e ↦ has k x e.1
      ]

  -- after n was added to its number
  pub hand_adds : (n : ℕ) → m.0 < length numbers → HasHand held (set numbers m.0 (get_or numbers m.0 0 + n)) (adds m n hand)
  hand_adds n low k x at =
      elim (eqb_tells k m.0) [
        | inl e ↦
            let P : ℕ → Type 0 = λ i. get_elem? held i ≡ some (Some x) → adds m n hand i ≡ (x, get_or (set numbers m.0 (get_or numbers m.0 0 + n)) i 0) in
            let here : get_elem? held m.0 ≡ some (Some x) → adds m n hand m.0 ≡ (x, get_or (set numbers m.0 (get_or numbers m.0 0 + n)) m.0 0) = λ is.
            let now : adds m n hand m.0 ≡ ((hand m.0).0, (hand m.0).1 + n) = rw (eq-eqb m.0 m.0 refl) refl in
            now ∙ (ap (λ (q : ℕ × ℕ). (q.0, q.1 + n)) (has m.0 x is) ∙ ap (λ i. (x, i)) (sym (get_or-set_same numbers m.0 (get_or numbers m.0 0 + n) 0 low)))
            in
            subst P (sym e.1) here at
        | inr e ↦
            let there : adds m n hand k ≡ hand k = rw e.0 refl in
            there ∙ (has k x at ∙ ap (λ i. (x, i)) (sym (get_or-set_other numbers m.0 k (get_or numbers m.0 0 + n) 0 e.1)))
      ]

-- the visits of one stint more, and its share
pub visits_more : (ss : List (Stint ℕ (List Added))) (x : Stint ℕ (List Added)) (vs : List Visit) → visits_of ss ≡ vs → visits_of (ss ++ x ∷ []) ≡ vs ++ visit_of x ∷ []
visits_more ss x vs e = map-append visit_of ss (x ∷ []) ∙ ap (λ l. l ++ visit_of x ∷ []) e

pub linked_more : (b : List Added) (ss : List (Stint ℕ (List Added))) (x : Stint ℕ (List Added)) (s : List Added) → AreLinked b ss s → x.before ≡ s → AreLinked b (ss ++ x ∷ []) x.after
linked_more b [] x s l e = (e ∙ sym l, refl)
linked_more b (y ∷ ss) x s l e = (l.0, linked_more y.after ss x s l.1 e)

-- one wait more
pub below_more : (n : ℕ) (m : MutexId) (xs : List ℕ) (y : ℕ) (hand : Hand) → AreBelow n m xs hand → (after_waits m xs hand m.0).1 < n → AreBelow n m (xs ++ y ∷ []) hand
below_more n m [] y hand below last = (last, tt)
below_more n m (x ∷ xs) y hand below last = (below.0, below_more n m xs y (gets m x hand) below.1 last)

pub waits_more : (t : ℕ) (m : MutexId) (xs : List ℕ) (y : ℕ) (hand : Hand) → waits t m (xs ++ y ∷ []) hand ≡ waits t m xs hand ++ leaves t m (after_waits m xs hand) ∷ []
waits_more t m [] y hand = refl
waits_more t m (x ∷ xs) y hand = ap (λ l. leaves t m hand ∷ l) (waits_more t m xs y (gets m x hand))

pub after_more : (m : MutexId) (xs : List ℕ) (y : ℕ) (hand : Hand) → after_waits m (xs ++ y ∷ []) hand ≡ gets m y (after_waits m xs hand)
after_more m [] y hand = refl
after_more m (x ∷ xs) y hand = after_more m xs y (gets m x hand)

-- one line more
left_more : (t : ℕ) (ys : List Line) (y : Line) (es a : List Event) (vs v : List Visit) (first start after : Hand) → AreLeft t ys es first vs start → IsRow t y.operation a → Leaves t y.operation a start v after
    → AreLeft t (ys ++ y ∷ []) (es ++ a) first (vs ++ v) after
left_more t [] y es a vs v first start after l row left =
    let P : Hand → Type 0 = λ h. Leaves t y.operation a h v after in
    (a, [], v, [], after, row, subst P l.2 left, (refl, refl, refl), ap (λ z. z ++ a) l.0 ∙ sym (append-nil a), ap (λ z. z ++ v) l.1 ∙ sym (append-nil v))
left_more t (x ∷ ys) y es a vs v first start after l row left =
    (l.0, l.1 ++ a, l.2, l.3 ++ v, l.4, l.5, l.6, left_more t ys y l.1 a l.3 v l.4 start after l.7 row left, ap (λ z. z ++ a) l.8 ∙ append_assoc l.0 l.1 a, ap (λ z. z ++ v) l.9 ∙ append_assoc l.2 l.3 v)

pub left_own : (t : ℕ) (xs : List Line) (x : Line) (es a : List Event) (vs v : List Visit) (first start after : Hand) → x.thread.0 ≡ t → AreLeft t (lines_of t xs) es first vs start → IsRow t x.operation a → Leaves t x.operation a start v after
    → AreLeft t (lines_of t (xs ++ x ∷ [])) (es ++ a) first (vs ++ v) after
left_own t xs x es a vs v first start after own l row left =
    let P : List Line → Type 0 = λ ys. AreLeft t ys (es ++ a) first (vs ++ v) after in
    subst P (sym (own_line t xs x own)) (left_more t (lines_of t xs) x es a vs v first start after l row left)
