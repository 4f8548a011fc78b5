-- Rows into which batches are put at their places.
use Rattle.std.proofs.Common.{◌≡◌, ◌⊎◌, ℕ, zero, suc, ◌<◌, ◌≤◌, List, [], ◌∷◌, ◌++◌, map, length, get_or, set, replicate, Option as Opt, Some, None, refl, sym, ◌∙◌, ap, subst, inl, inr, ⊎_elim, arith, get_or-set_same, get_or-set_other, length-set, append_assoc, append-nil}
use Rattle.std.proofs.Common.{Vec, Global}
use Rattle.std.specs.List.{Contains, AllByRecursion}
use Rattle.std.proofs.lemmas.Bool.{cases_eq}
use Rattle.std.proofs.lemmas.List.Elements.{Contains-append_left, Contains-append_right, Contains-append_cases, Contains-push, Contains-push_cases}
use Rattle.job_pool.specs.declared.item.Item.{Item}
use Rattle.job_pool.specs.Crews.{filled_by}
use Rattle.job_pool.specs.Batches.{Comes, CameOf, IsPlaced, filled}
use Rattle.job_pool.specs.Working.{Worker, takes_of, all_takes_of}
use Rattle.job_pool.proofs.Members.{contains_cases, contains_head, contains_tail, contains_none}

module _ {A : Type 0} where
  pub set_beyond : (xs : List A) (i : ℕ) (y : A) → length xs ≤ i → set xs i y ≡ xs
  set_beyond [] i y low = refl
  set_beyond (x ∷ xs) zero y low = absurd (omega arith)
  set_beyond (x ∷ xs) (suc i) y low = ap (λ l. x ∷ l) (set_beyond xs i y (omega arith))

  none_at : (n k : ℕ) (x : Opt A) → get_or (replicate n x) k x ≡ x
  none_at zero k x = refl
  none_at (suc n) zero x = refl
  none_at (suc n) (suc k) x = none_at n k x

  -- what is there is within the places
  pub is_within : (places : List (Opt A)) (k : ℕ) (w : A) → get_or places k None ≡ Some w → k < length places
  is_within [] k w is = absurd (cc)
  is_within (x ∷ places) zero w is = omega arith
  is_within (x ∷ places) (suc k) w is = let low = is_within places k w is in omega arith

module _ {T : Type 0} where
  -- some batch is there
  abbrev Is : List (Opt T) → ℕ → Type 0
  Is places k = (v : T) × (get_or places k None ≡ Some v)

  is_set : (places : List (Opt T)) (i : Item T) (k : ℕ) → Is places k → Is (set places i.place (Some i.batch)) k
  is_set places i k h = ⊎_elim
      (λ (e : k ≡ i.place).
      let low = is_within places k h.0 h.1 in
      let within : i.place < length places = omega arith in
      (i.batch, ap (λ n. get_or (set places i.place (Some i.batch)) n None) e ∙ get_or-set_same places i.place (Some i.batch) None within))
      (λ (ne : k ≡ i.place → ⊥). (h.0, get_or-set_other places i.place k (Some i.batch) None ne ∙ h.1))
      (cases_eq k i.place)

  is_kept : (list : List (Item T)) (places : List (Opt T)) (k : ℕ) → Is places k → Is (filled list places) k
  is_kept [] places k h = h
  is_kept (i ∷ list) places k h = is_kept list (set places i.place (Some i.batch)) k (is_set places i k h)

  is_put : (list : List (Item T)) (places : List (Opt T)) (j : Item T) → Contains list j → j.place < length places → Is (filled list places) j.place
  is_put [] places j c low = absurd (contains_none j c)
  is_put (i ∷ list) places j c low = ⊎_elim
      (λ (e : i ≡ j).
      let here : Is (set places j.place (Some j.batch)) j.place = (j.batch, get_or-set_same places j.place (Some j.batch) None low) in
      let there : Is (set places i.place (Some i.batch)) j.place = subst (λ q. Is (set places q.place (Some q.batch)) j.place) (sym e) here in
      is_kept list (set places i.place (Some i.batch)) j.place there)
      (λ (d : Contains list j). is_put list (set places i.place (Some i.batch)) j d (let long = length-set places i.place (Some i.batch) in omega arith))
      (contains_cases i list j c)

  -- what is there was there or is one of the list
  abbrev From : List (Item T) → List (Opt T) → ℕ → T → Type 0
  From list places k w = (get_or places k None ≡ Some w) ⊎ ((j : Item T) × Contains list j × (j.place ≡ k) × (j.batch ≡ w))

  from_set : (places : List (Opt T)) (i : Item T) (k : ℕ) (w : T) → get_or (set places i.place (Some i.batch)) k None ≡ Some w → (get_or places k None ≡ Some w) ⊎ ((i.place ≡ k) × (i.batch ≡ w))
  from_set places i k w h = ⊎_elim
      (λ (e : k ≡ i.place).
      let low = is_within (set places i.place (Some i.batch)) k w h in
      let long = length-set places i.place (Some i.batch) in
      let within : i.place < length places = omega arith in
      let same : get_or (set places i.place (Some i.batch)) k None ≡ Some i.batch = ap (λ n. get_or (set places i.place (Some i.batch)) n None) e ∙ get_or-set_same places i.place (Some i.batch) None within in
      let both : i.batch ≡ w = cc in
      inr (sym e, both))
      (λ (ne : k ≡ i.place → ⊥). inl (sym (get_or-set_other places i.place k (Some i.batch) None ne) ∙ h))
      (cases_eq k i.place)

  from_list : (list : List (Item T)) (places : List (Opt T)) (k : ℕ) (w : T) → get_or (filled list places) k None ≡ Some w → From list places k w
  from_list [] places k w h = inl h
  from_list (i ∷ list) places k w h = ⊎_elim
      (λ (was : get_or (set places i.place (Some i.batch)) k None ≡ Some w). ⊎_elim
      (λ (old : get_or places k None ≡ Some w). inl old)
      (λ (new : (i.place ≡ k) × (i.batch ≡ w)). inr (i, contains_head i list, new.0, new.1))
      (from_set places i k w was))
      (λ (later : (j : Item T) × Contains list j × (j.place ≡ k) × (j.batch ≡ w)). inr (later.0, contains_tail i list later.0 later.1, later.2, later.3))
      (from_list list (set places i.place (Some i.batch)) k w h)

  long_filled : (list : List (Item T)) (places : List (Opt T)) → length (filled list places) ≡ length places
  long_filled [] places = refl
  long_filled (i ∷ list) places = long_filled list (set places i.place (Some i.batch)) ∙ length-set places i.place (Some i.batch)

  pub long_filled_by : (ws : List (Worker T × Vec (Item T) Global)) (places : List (Opt T)) → length (filled_by ws places) ≡ length places
  long_filled_by [] places = refl
  long_filled_by (w ∷ ws) places = long_filled_by ws (filled w.1.items places) ∙ long_filled w.1.items places

module _ {T : Type 0} (goes : T → T → Type 0) where
  pub came_nothing : CameOf goes [] []
  came_nothing = record { all = λ i h. absurd (contains_none i h); only = λ j h. absurd (contains_none j h) }

  -- one more was taken, and what came of it is after the others
  pub came_more : (got list : List (Item T)) (i j : Item T) → j.place ≡ i.place → Comes goes i.batch j.batch → CameOf goes got list → CameOf goes (i ∷ got) (list ++ j ∷ [])
  came_more got list i j same comes c = record {
    all = λ a h. ⊎_elim
        (λ (e : i ≡ a). (j, Contains-push list j, same ∙ ap (λ (q : Item T). q.place) e))
        (λ (d : Contains got a). let r = c.all a d in (r.0, Contains-append_left list (j ∷ []) r.0 r.1, r.2))
        (contains_cases i got a h);
    only = λ b h. ⊎_elim
        (λ (d : Contains list b). let r = c.only b d in (r.0, contains_tail i got r.0 r.1, r.2, r.3))
        (λ (e : j ≡ b). (i, contains_head i got, sym (ap (λ (q : Item T). q.place) e) ∙ same, subst (λ (q : Item T). Comes goes i.batch q.batch) e comes))
        (Contains-push_cases list j b h);
  }

  -- an item that nobody worked on
  came_itself : (i : Item T) → CameOf goes (i ∷ []) (i ∷ [])
  came_itself i = came_more [] [] i i refl (inl refl) came_nothing

  pub placed_nothing : (n : ℕ) (places : List (Opt T)) → places ≡ replicate n None → IsPlaced goes [] places
  placed_nothing n places is = record {
    all = λ i h low. absurd (contains_none i h);
    only = λ k w h.
        let none : get_or places k None ≡ None = ap (λ l. get_or l k None) is ∙ none_at n k None in
        absurd (cc);
  }

  pub placed_list : (seen got list : List (Item T)) (places : List (Opt T)) → IsPlaced goes seen places → CameOf goes got list → IsPlaced goes (seen ++ got) (filled list places)
  placed_list seen got list places p c = record {
    all = λ i h low.
        let long = long_filled list places in
        let within : i.place < length places = omega arith in
        ⊎_elim
        (λ (d : Contains seen i). is_kept list places i.place (p.all i d within))
        (λ (d : Contains got i).
        let j = c.all i d in
        let same = j.2 in
        subst (λ k. Is (filled list places) k) same (is_put list places j.0 j.1 (omega arith)))
        (Contains-append_cases seen got i h);
    only = λ k w h. ⊎_elim
        (λ (was : get_or places k None ≡ Some w). let i = p.only k w was in (i.0, Contains-append_left seen got i.0 i.1, i.2, i.3))
        (λ (new : (j : Item T) × Contains list j × (j.place ≡ k) × (j.batch ≡ w)).
        let i = c.only new.0 new.1 in
        (i.0, Contains-append_right seen got i.0 i.1, sym i.2 ∙ new.2, subst (λ q. Comes goes i.0.batch q) new.3 i.3))
        (from_list list places k w h);
  }

  placed_as : (xs ys : List (Item T)) (places : List (Opt T)) → ((i : Item T) → Contains xs i → Contains ys i) → ((i : Item T) → Contains ys i → Contains xs i) → IsPlaced goes xs places → IsPlaced goes ys places
  placed_as xs ys places f g p = record {
    all = λ i h low. p.all i (g i h) low;
    only = λ k w h. let i = p.only k w h in (i.0, f i.0 i.1, i.2, i.3);
  }

  -- one more is put as it is
  pub placed_one : (seen : List (Item T)) (i : Item T) (places : List (Opt T)) → IsPlaced goes seen places → IsPlaced goes (i ∷ seen) (set places i.place (Some i.batch))
  placed_one seen i places p = placed_as (seen ++ i ∷ []) (i ∷ seen) (set places i.place (Some i.batch))
      (λ a h. ⊎_elim
      (λ (d : Contains seen a). contains_tail i seen a d)
      (λ (e : i ≡ a). subst (λ q. Contains (i ∷ seen) q) e (contains_head i seen))
      (Contains-push_cases seen i a h))
      (λ a h. ⊎_elim
      (λ (e : i ≡ a). subst (λ q. Contains (seen ++ i ∷ []) q) e (Contains-push seen i))
      (λ (d : Contains seen a). Contains-append_left seen (i ∷ []) a d)
      (contains_cases i seen a h))
      (placed_list seen (i ∷ []) (i ∷ []) places p (came_itself i))

  -- the lists of all workers
  pub placed_by : (seen : List (Item T)) (ws : List (Worker T × Vec (Item T) Global)) (places : List (Opt T)) → IsPlaced goes seen places
      → AllByRecursion (λ w. CameOf goes (takes_of w.0) w.1.items) ws → IsPlaced goes (seen ++ all_takes_of (map (λ w. w.0) ws)) (filled_by ws places)
  placed_by seen [] places p each = subst (λ l. IsPlaced goes l places) (sym (append-nil seen)) p
  placed_by seen (w ∷ ws) places p each =
      subst (λ l. IsPlaced goes l (filled_by ws (filled w.1.items places))) (append_assoc seen (takes_of w.0) (all_takes_of (map (λ w. w.0) ws)))
      (placed_by (seen ++ takes_of w.0) ws (filled w.1.items places) (placed_list seen (takes_of w.0) w.1.items places p each.0) each.1)
