-- The laws of the two buffers: those of plain buffers, with what a thread may put, and what it may
-- know of what it takes.
use Rattle.std.proofs.Common.{◌≡◌, ◌≢◌, ◌⊎◌, ◌↔◌, ℕ, ◌+◌, ◌*◌, List, ◌∷◌, ◌++◌, eqb, Some, None, inl, inr, arith, sym, ap, subst, ◌∙◌, ⊎_elim, refl}
use Rattle.std.specs.Prelude.{All}
use Rattle.bounded_buffer.specs.declared.at.BufferAt.{BufferAt}
use Rattle.bounded_buffer.specs.declared.did.Did.{Did}
use Rattle.bounded_buffer.specs.declared.did.Did.TheVariants.{Put, Took, Shut, SawShut, SawEnd, WaitedFull, WaitedEmpty}
use Rattle.bounded_buffer.specs.Parts.{IsWithin, IsOfPut, IsOfTake, IsWait, HasDone, Waits}
use Rattle.bounded_buffer.specs.Plain.{IsPlain, part_of, put_did, take_did}
use Rattle.bounded_buffer.specs.PlainLaws.{plain_put, plain_take, plain_shut, plain_waits, put_did_is, take_did_is}
use Rattle.bounded_buffer.specs.Rings.{Held, Does}
use Rattle.firefly_outside.specs.Trees.{Path}
use Rattle.index_rule.specs.Children.{IsBelow}
use Rattle.index_rule.specs.Counting.{times-append, distinct_times, times_distinct, all_from, all_at}
use Rattle.index_rule.specs.Distinct.{AreDistinct}
use Rattle.index_rule.specs.Notes.{may_alike, fits_alike, alike_back}
use Rattle.index_rule.specs.Shares.{Share, AreAlike, IsItemAt, MayPut, noted, paths_of, paths_taken}
use Rattle.index_rule.specs.Work.{FitsWork, ItemFits, IsAfter, IsBuffer, IsNewTo, MayChange, MayDo, ring_in, ring_of, files_at, pieces_at}
use Rattle.index_rule.specs.WorkLaws.{allowed}
use Rattle.index_rule.specs.declared.value.IndexItem.{IndexItem}
use Rattle.index_rule.specs.declared.value.IndexValue.{IndexValue}
use Rattle.index_rule.specs.declared.value.IndexValue.TheVariants.{Dirs, Ring}
use Rattle.std.proofs.lemmas.List.Elements.{All-head, Contains-append_left}
use Rattle.std.specs.List.{flat_map}

-- a plain buffer under the same mutex
abbrev as_plain : BufferAt → BufferAt
as_plain at = record { mutex = at.mutex; room = record { 0 = 2 * at.mutex.0 }; more = record { 0 = 2 * at.mutex.0 + 1 } }

is_plain : (at : BufferAt) → IsPlain (as_plain at)
is_plain at = record { room = refl; more = refl }

-- a buffer is under mutex 1 or 2
one_or_two : (at : BufferAt) → IsBuffer at → (at.mutex.0 ≡ 1) ⊎ (at.mutex.0 ≡ 2)
one_or_two at is = ⊎_elim (λ (e : at ≡ files_at). inl (ap (λ (b : BufferAt). b.mutex.0) e))
    (λ (e : at ≡ pieces_at). inr (ap (λ (b : BufferAt). b.mutex.0) e)) is

not_first : (at : BufferAt) → IsBuffer at → at.mutex.0 ≢ 0
not_first at is zero = ⊎_elim (λ (e : at.mutex.0 ≡ 1). omega arith) (λ (e : at.mutex.0 ≡ 2). omega arith) (one_or_two at is)

no_ring : (q : Held IndexItem) → None ≡ Some q → ⊥
no_ring q e = cc

-- the ring that a value is represents it
ring_is : (x : IndexValue) (q : Held IndexItem) → ring_in x ≡ Some q → Some (ring_of x) ≡ Some q
ring_is (Dirs d) q e = absurd (no_ring q e)
ring_is (Ring r) q e = e

same_ring : (x : IndexValue) (q : Held IndexItem) → ring_in x ≡ Some q → x ≡ Ring q
same_ring (Dirs d) q e = absurd (no_ring q e)
same_ring (Ring r) q e = cc

-- a value that is a ring may be under the mutex of a buffer
ring_after : (m : ℕ) (x : IndexValue) (q : Held IndexItem) → m ≢ 0 → ring_in x ≡ Some q → IsAfter m x
ring_after m (Dirs d) q n e = absurd (no_ring q e)
ring_after m (Ring r) q n e = n

pub work_ring : (root : Path) (at : BufferAt) → IsBuffer at → (t : ℕ) (x : IndexValue) (s : Share) → FitsWork root at.mutex.0 x s
    → (q : Held IndexItem) × (ring_in x ≡ Some q) × IsWithin (part_of s.notes at.mutex.0) q
work_ring root at is t (Dirs d) s fits = absurd (not_first at is fits.kind)
work_ring root at is t (Ring r) s fits = (r, refl, fits.within)

-- the first of the items that are new to the thread is new to it
first_new : (root : Path) (i : IndexItem) (rest items : List IndexItem) (taken : List Path) → items ≡ i ∷ rest
    → AreDistinct (flat_map (paths_of root) items ++ taken) → AreDistinct (paths_of root i ++ taken)
first_new root i rest items taken first apart = times_distinct (paths_of root i ++ taken) (λ p.
    let most = distinct_times p (flat_map (paths_of root) (i ∷ rest) ++ taken)
    (subst (λ l. AreDistinct (flat_map (paths_of root) l ++ taken)) first apart) in
    let all = times-append p (flat_map (paths_of root) (i ∷ rest)) taken in
    let both = times-append p (paths_of root i) (flat_map (paths_of root) rest) in
    let one = times-append p (paths_of root i) taken in
    omega arith)

first_below : (root : Path) (i : IndexItem) (rest items : List IndexItem) → items ≡ i ∷ rest
    → All (IsBelow root) (flat_map (paths_of root) items) → All (IsBelow root) (paths_of root i)
first_below root i rest items first below = all_from (IsBelow root) (paths_of root i) (λ p h.
    all_at (IsBelow root) (flat_map (paths_of root) (i ∷ rest)) p (subst (λ l. All (IsBelow root) (flat_map (paths_of root) l)) first below)
    (Contains-append_left (paths_of root i) (flat_map (paths_of root) rest) p h))

pub work_first : (root : Path) (at : BufferAt) → IsBuffer at → (t : ℕ) (x : IndexValue) (s : Share) → FitsWork root at.mutex.0 x s
    → (q : Held IndexItem) → ring_in x ≡ Some q → (i : IndexItem) (rest : List IndexItem) → q.items ≡ i ∷ rest
    → ItemFits root at.mutex.0 i s
work_first root at is t x s fits q e i rest first =
    let there = subst (λ v. IsNewTo root at.mutex.0 s v) (same_ring x q e) fits.new in
    let new = there.1 (one_or_two at is) in
    record {
      kind = All-head (IsItemAt at.mutex.0) i rest (subst (All (IsItemAt at.mutex.0)) first there.0);
      new =
          first_new root i rest q.items (paths_taken root at.mutex.0 s) first new.0;
      below = first_below root i rest q.items first new.1;
    }

plain_of : (P : IndexItem → Type 0) (d : Did IndexItem) → IsOfPut P d → IsOfPut (λ i. Unit {0}) d
plain_of P (Put n i) of = tt
plain_of P (Took n i) of = of
plain_of P Shut of = of
plain_of P SawShut of = of
plain_of P SawEnd of = of
plain_of P WaitedFull of = of
plain_of P WaitedEmpty of = of

may_put : (root : Path) (m : ℕ) (s : Share) (d : Did IndexItem) → IsOfPut (λ i. MayPut root m i s) d → MayDo root m d s
may_put root m s (Put n i) of = of
may_put root m s (Took n i) of = tt
may_put root m s Shut of = tt
may_put root m s SawShut of = tt
may_put root m s SawEnd of = tt
may_put root m s WaitedFull of = tt
may_put root m s WaitedEmpty of = tt

may_take : (root : Path) (m : ℕ) (s : Share) (d : Did IndexItem) → IsOfTake d → MayDo root m d s
may_take root m s (Put n i) of = absurd of
may_take root m s (Took n i) of = tt
may_take root m s Shut of = tt
may_take root m s SawShut of = tt
may_take root m s SawEnd of = tt
may_take root m s WaitedFull of = tt
may_take root m s WaitedEmpty of = tt

-- a thread did something at a ring that it may do
ring_did : (root : Path) (m : ℕ) (x y : IndexValue) (s : Share) (q p : Held IndexItem) (d e : Did IndexItem) → ring_in x ≡ Some q
    → ring_in y ≡ Some p → m ≢ 0 → Does d q p → MayDo root m d s → e ≡ d
    → MayChange root m x y s (noted m e s)
ring_did root m x y s q p d e a b n does may same =
    subst (λ v. MayChange root m v y s (noted m e s)) (sym (same_ring x q a))
    (subst (λ v. MayChange root m (Ring q) v s (noted m e s)) (sym (same_ring y p b))
    (record { kind = n; moves = inr (d, does, may, ap (λ c. noted m c s) same) }))

-- the rings that represent values are these
does_of : (x y : IndexValue) (q p : Held IndexItem) (d : Did IndexItem) → ring_in x ≡ Some q → ring_in y ≡ Some p → Does d q p
    → Does d (ring_of x) (ring_of y)
does_of (Dirs c) y q p d a b does = absurd (no_ring q a)
does_of (Ring r) (Dirs c) q p d a b does = absurd (no_ring p b)
does_of (Ring r) (Ring u) q p d a b does = let e : q ≡ r = cc in let f : p ≡ u = cc in
    subst (λ v. Does d v u) e (subst (λ v. Does d q v) f does)

pub work_put : (root : Path) (at : BufferAt) → IsBuffer at
    → (t : ℕ) (x y : IndexValue) (s : Share) (q p : Held IndexItem) (d : Did IndexItem)
    → ring_in x ≡ Some q → ring_in y ≡ Some p → Does d q p → IsOfPut (λ i. MayPut root at.mutex.0 i s) d
    → MayChange root at.mutex.0 x y s (noted at.mutex.0 (put_did (ring_of x) (ring_of y)) s)
    × HasDone (λ (u : Share) m. part_of u.notes m) at.mutex.0 d s (noted at.mutex.0 (put_did (ring_of x) (ring_of y)) s)
    × (IsWait d → AreAlike s (noted at.mutex.0 (put_did (ring_of x) (ring_of y)) s))
work_put root at is t x y s q p d a b does of =
    let m = at.mutex.0 in
    let same = put_did_is (λ i. MayPut root m i s) d (ring_of x) (ring_of y) (does_of x y q p d a b does) of in
    let plain = plain_put tt (as_plain at) (is_plain at) t (ring_of x) (ring_of y) s.notes q p d (ring_is x q a) (ring_is y p b) does
    (plain_of (λ i. MayPut root m i s) d of) in (
      ring_did root m x y s q p d (put_did (ring_of x) (ring_of y)) a b (not_first at is) does (may_put root m s d of) same,
      record { here = plain.1.here; elsewhere = plain.1.elsewhere },
      (λ waits. record { took = refl; put = refl; files = refl; notes = plain.2 waits }),
    )

pub work_take : (root : Path) (at : BufferAt) → IsBuffer at
    → (t : ℕ) (x y : IndexValue) (s : Share) (q p : Held IndexItem) (d : Did IndexItem)
    → ring_in x ≡ Some q → ring_in y ≡ Some p → Does d q p → IsOfTake d
    → MayChange root at.mutex.0 x y s (noted at.mutex.0 (take_did (ring_of x)) s)
    × HasDone (λ (u : Share) m. part_of u.notes m) at.mutex.0 d s (noted at.mutex.0 (take_did (ring_of x)) s)
    × (IsWait d → AreAlike s (noted at.mutex.0 (take_did (ring_of x)) s))
work_take root at is t x y s q p d a b does of =
    let m = at.mutex.0 in
    let same = take_did_is d (ring_of x) (ring_of y) (does_of x y q p d a b does) of in
    let plain = plain_take tt (as_plain at) (is_plain at) t (ring_of x) (ring_of y) s.notes q p d (ring_is x q a)
    (ring_is y p b) does of in (
      ring_did root m x y s q p d (take_did (ring_of x)) a b (not_first at is) does (may_take root m s d of) same,
      record { here = plain.1.here; elsewhere = plain.1.elsewhere },
      (λ waits. record { took = refl; put = refl; files = refl; notes = plain.2 waits }),
    )

pub work_shut : (root : Path) (at : BufferAt) → IsBuffer at → (t : ℕ) (x y : IndexValue) (s : Share) (q p : Held IndexItem)
    → ring_in x ≡ Some q → ring_in y ≡ Some p → Does Shut q p
    → MayChange root at.mutex.0 x y s (noted at.mutex.0 Shut s)
    × HasDone (λ (u : Share) m. part_of u.notes m) at.mutex.0 Shut s (noted at.mutex.0 Shut s)
work_shut root at is t x y s q p a b does =
    let plain = plain_shut tt (as_plain at) (is_plain at) t (ring_of x) (ring_of y) s.notes q p (ring_is x q a) (ring_is y p b) does in (
      ring_did root at.mutex.0 x y s q p Shut Shut a b (not_first at is) does tt refl,
      record { here = plain.1.here; elsewhere = plain.1.elsewhere },
    )

pub work_stay : (root : Path) (at : BufferAt) → IsBuffer at → (t : ℕ) (x y : IndexValue) (s : Share) (q : Held IndexItem)
    → ring_in x ≡ Some q → ring_in y ≡ Some q → MayChange root at.mutex.0 x y s s
work_stay root at is t x y s q a b =
    subst (λ v. MayChange root at.mutex.0 v y s s) (sym (same_ring x q a))
    (subst (λ v. MayChange root at.mutex.0 (Ring q) v s s) (sym (same_ring y q b))
    (record { kind = not_first at is; moves = inl (refl, refl) }))

pub work_waits : (root : Path) (at : BufferAt) → IsBuffer at → (t : ℕ) (x y : IndexValue) (s r : Share) (q p : Held IndexItem)
    → ring_in x ≡ Some q → ring_in y ≡ Some p → MayChange root at.mutex.0 x y s r
    → (k : ℕ) → Waits WaitedFull q p (eqb k at.mutex.0) (part_of s.notes k).full_waits (part_of r.notes k).full_waits
    × Waits WaitedEmpty q p (eqb k at.mutex.0) (part_of s.notes k).empty_waits (part_of r.notes k).empty_waits
work_waits root at is t x y s r q p a b ok k =
    plain_waits tt (as_plain at) (is_plain at) t (ring_of x) (ring_of y) s.notes r.notes q p (ring_is x q a) (ring_is y p b)
    (allowed root at.mutex.0 x y s r ok.moves) k

pub alike_self : (s : Share) → AreAlike s s
alike_self s = record { took = refl; put = refl; files = refl; notes = refl }

pub alike_on : (s r u : Share) → AreAlike s r → AreAlike r u → AreAlike s u
alike_on s r u a b = record { took = a.took ∙ b.took; put = a.put ∙ b.put; files = a.files ∙ b.files; notes = a.notes ∙ b.notes }

pub alike_may : (root : Path) (m t : ℕ) (i : IndexItem) (s r : Share) → AreAlike s r → MayPut root m i s ↔ MayPut root m i r
alike_may root m t i s r h = (may_alike root m i s r h, may_alike root m i r s (alike_back s r h))

pub alike_fits : (root : Path) (m t : ℕ) (i : IndexItem) (s r : Share) → AreAlike s r → ItemFits root m i s ↔ ItemFits root m i r
alike_fits root m t i s r h = (fits_alike root m i s r h, fits_alike root m i r s (alike_back s r h))
