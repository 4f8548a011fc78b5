-- Slots whose jobs are called.
use Rattle.std.proofs.Common.{◌≡◌, ℕ, zero, suc, ◌+◌, ◌<◌, List, [], ◌∷◌, ◌++◌, map, length, get_or, set, Some, None, refl, sym, ◌∙◌, ap, subst, inl, inr, ⊎_elim, arith, append_assoc, append-nil, get_or-set_same, get_or-set_other}
use Rattle.std.specs.List.{AllZip, AllByRecursion}
use Rattle.std.proofs.lemmas.Bool.{cases_eq}
use mathlib.Core.Option.{some}
use lib.ListN.{get_elem?}
use Rattle.job_pool.specs.declared.batch.Batch.{Batch}
use Rattle.job_pool.specs.declared.job.Work.{Work}
use Rattle.job_pool.specs.declared.job.Work.TheVariants.{Value, Stop}
use Rattle.job_pool.specs.declared.slot.Slot.{Slot}
use Rattle.job_pool.specs.Jobs.{AreDone, AreStopped, MayBeNext}
use Rattle.job_pool.specs.Batches.{Comes}
use Rattle.job_pool.specs.Slots.{fresh, slots_of, HasValue, StopsAt, WasCalled, MayBeCalled, MayBeWorked}
use Rattle.job_pool.proofs.Lists.{zip_refl, zip_trans, zip_set, zip_append}

module _ {J : Type 0} (state : J → List ℕ) (gives : J → Work) (next : J → List ℕ) where
  abbrev May : Slot J → Slot J → Type 0
  May = MayBeCalled state gives next

  same : (a : Slot J) → May a a
  same a = inl refl

  on : (a b c : Slot J) → May a b → May b c → May a c
  on a b c x y = ⊎_elim
      (λ (e : b ≡ a). subst (λ q. May q c) e y)
      (λ (w : WasCalled state gives next a b). ⊎_elim
      (λ (e : c ≡ b). inr (subst (λ q. WasCalled state gives next a q) (sym e) w))
      (λ (v : WasCalled state gives next b c). let was = w.answer in let none = v.first in absurd (cc))
      y)
      x

  pub all_same : (xs : List (Slot J)) → AllZip May xs xs
  all_same xs = zip_refl May same xs

  pub all_on : (xs ys zs : List (Slot J)) → AllZip May xs ys → AllZip May ys zs → AllZip May xs zs
  all_on xs ys zs h k = zip_trans May on xs ys zs h k

  -- one more was called
  pub one_more : (xs ys : List (Slot J)) (i : ℕ) (a b : Slot J) → AllZip May xs ys → i < length ys → a ≡ get_or ys i a → May a b → AllZip May xs (set ys i b)
  one_more xs ys i a b h low is called = all_on xs ys (set ys i b) h (zip_set May same ys i a b low is called)

  -- what came of a batch, worked on or not
  pub comes_worked : (a b : Batch J) → Comes (MayBeWorked state gives next) a b → MayBeWorked state gives next a b
  comes_worked a b h = ⊎_elim
      (λ (e : b ≡ a). subst (λ q. AllZip May a.slots.items q.slots.items) (sym e) (all_same a.slots.items))
      (λ (w : MayBeWorked state gives next a b). w)
      h

  -- of batches, the slots of all
  pub all_slots : (cs bs : List (Batch J)) → AllZip (Comes (MayBeWorked state gives next)) cs bs → AllZip May (slots_of cs) (slots_of bs)
  all_slots [] [] h = tt
  all_slots [] (b ∷ bs) h = absurd h
  all_slots (a ∷ cs) [] h = absurd h
  all_slots (a ∷ cs) (b ∷ bs) h = zip_append May a.slots.items (slots_of cs) b.slots.items (slots_of bs) (comes_worked a b h.0) (all_slots cs bs h.1)

  was_called : (j : J) (s : Slot J) → May (fresh j) s → HasValue s → WasCalled state gives next (fresh j) s
  was_called j s h v = ⊎_elim
      (λ (e : s ≡ fresh j). let none : s.answer ≡ None = ap (λ (q : Slot J). q.answer) e in let some = v.1 in absurd (cc))
      (λ (w : WasCalled state gives next (fresh j) s). w)
      h

  nexts : (given : List J) (slots : List (Slot J)) → AllZip May (map fresh given) slots → AllByRecursion HasValue slots → map state (map (λ s. s.job) slots) ≡ map next given
  nexts [] [] h v = refl
  nexts [] (s ∷ slots) h v = absurd h
  nexts (j ∷ given) [] h v = absurd h
  nexts (j ∷ given) (s ∷ slots) h v = let first = (was_called j s h.0 v.0).after in let rest = nexts given slots h.1 v.1 in cc

  gave : (given : List J) (slots : List (Slot J)) (values : List ℕ) → AllZip May (map fresh given) slots → AllByRecursion HasValue slots
      → map (λ s. s.answer) slots ≡ map (λ v. Some (Value v)) values → map gives given ≡ map (λ v. Value v) values
  gave [] [] [] h v are = refl
  gave [] [] (x ∷ values) h v are = absurd (cc)
  gave [] (s ∷ slots) values h v are = absurd h
  gave (j ∷ given) [] values h v are = absurd h
  gave (j ∷ given) (s ∷ slots) [] h v are = absurd (cc)
  gave (j ∷ given) (s ∷ slots) (x ∷ values) h v are =
      let answer : s.answer ≡ Some (gives j) = (was_called j s h.0 v.0).answer in
      let head : s.answer ≡ Some (Value x) = cc in
      let tail : map (λ s. s.answer) slots ≡ map (λ v. Some (Value v)) values = cc in
      let first : gives j ≡ Value x = cc in
      let rest = gave given slots values h.1 v.1 tail in
      cc

  -- each job gave a value
  pub done : (given : List J) (slots : List (Slot J)) (values : List ℕ) → AllZip May (map fresh given) slots → AllByRecursion HasValue slots
      → map (λ s. s.answer) slots ≡ map (λ v. Some (Value v)) values → AreDone state gives next given values (map (λ s. s.job) slots)
  done given slots values called each are = record { values_are = gave given slots values called each are; each_next = nexts given slots called each }

  may_next : (j : J) (s : Slot J) → May (fresh j) s → MayBeNext state gives next j s.job
  may_next j s h = ⊎_elim
      (λ (e : s ≡ fresh j). inl (ap (λ (q : Slot J). state q.job) e))
      (λ (w : WasCalled state gives next (fresh j) s). inr w.after)
      h

  -- one gave Stop
  stopped_at : (k : ℕ) (given : List J) (slots : List (Slot J)) → AllZip May (map fresh given) slots → (s : Slot J) → get_elem? slots k ≡ some s → s.answer ≡ Some Stop
      → (j : J) × (get_elem? given k ≡ some j) × (gives j ≡ Stop) × (get_elem? (map (λ s. s.job) slots) k ≡ some s.job) × (state s.job ≡ next j)
  stopped_at k [] [] h s at stop = absurd (cc)
  stopped_at k [] (t ∷ slots) h s at stop = absurd h
  stopped_at k (j ∷ given) [] h s at stop = absurd h
  stopped_at zero (j ∷ given) (t ∷ slots) h s at stop =
      let e : t ≡ s = cc in
      let w : WasCalled state gives next (fresh j) s = ⊎_elim
      (λ (f : t ≡ fresh j). let none : s.answer ≡ None = ap (λ (q : Slot J). q.answer) (sym e ∙ f) in absurd (cc))
      (λ (w : WasCalled state gives next (fresh j) t). subst (λ q. WasCalled state gives next (fresh j) q) e w)
      h.0 in
      let answer : s.answer ≡ Some (gives j) = w.answer in
      (j, refl, cc, ap (λ (q : Slot J). some q.job) e, w.after)
  stopped_at (suc k) (j ∷ given) (t ∷ slots) h s at stop = stopped_at k given slots h.1 s at stop

  each_may : (given : List J) (slots : List (Slot J)) → AllZip May (map fresh given) slots → AllZip (MayBeNext state gives next) given (map (λ s. s.job) slots)
  each_may [] [] h = tt
  each_may [] (s ∷ slots) h = absurd h
  each_may (j ∷ given) [] h = absurd h
  each_may (j ∷ given) (s ∷ slots) h = (may_next j s h.0, each_may given slots h.1)

  pub stopped : (k : ℕ) (given : List J) (slots : List (Slot J)) → AllZip May (map fresh given) slots → StopsAt k slots → AreStopped state gives next k given (map (λ s. s.job) slots)
  stopped k given slots called stop =
      let r = stopped_at k given slots called stop.slot stop.is_slot stop.stops in
      record { job = r.0; is_job = r.1; stops = r.2; after = stop.slot.job; is_after = r.3; is_next = r.4; each = each_may given slots called }

module _ {J : Type 0} where
  -- a slot whose job wasn't called has the job as it was given
  pub jobs_of_fresh : (given : List J) → map (λ s. s.job) (map fresh given) ≡ given
  jobs_of_fresh [] = refl
  jobs_of_fresh (j ∷ given) = ap (λ l. j ∷ l) (jobs_of_fresh given)

  pub slots_push : (bs : List (Batch J)) (b : Batch J) → slots_of (bs ++ b ∷ []) ≡ slots_of bs ++ b.slots.items
  slots_push [] b = append-nil b.slots.items
  slots_push (a ∷ bs) b = ap (λ l. a.slots.items ++ l) (slots_push bs b) ∙ sym (append_assoc a.slots.items (slots_of bs) b.slots.items)

  -- one more has a value
  pub more_values : (ys : List (Slot J)) (i : ℕ) (b : Slot J) → i < length ys → HasValue b → ((k : ℕ) (d : Slot J) → k < i → HasValue (get_or ys k d))
      → (k : ℕ) (d : Slot J) → k < i + 1 → HasValue (get_or (set ys i b) k d)
  more_values ys i b low v was k d h = ⊎_elim
      (λ (e : k ≡ i). subst HasValue (sym (ap (λ n. get_or (set ys i b) n d) e ∙ get_or-set_same ys i b d low)) v)
      (λ (ne : k ≡ i → ⊥). subst HasValue (sym (get_or-set_other ys i k b d ne)) (was k d (omega arith)))
      (cases_eq k i)
