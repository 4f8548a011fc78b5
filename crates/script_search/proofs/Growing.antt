-- One board more keeps what a search has found.
use Rattle.std.proofs.Common.{◌≡◌, ◌≢◌, ◌⊎◌, inl, inr, ℕ, zero, suc, ◌+◌, ◌<◌, Bool, true, false, cond, eqb, List, [], ◌∷◌, ◌++◌, length, length-append, map, get_or, refl, sym, ap, subst, ◌∙◌, arith, eq-eqb, Some, None}
use Rattle.std.specs.Prelude.{Result, Ok, Err, IfOk}
use Rattle.std.specs.List.{slice_get}
use Rattle.std.specs.declared.option.Option.{Option}
use mathlib.Core.Option.{none, some-injective, some-ne-none}
use Rattle.smallvec.specs.SmallVec.{SmallVec}
use Rattle.larch_actions.specs.declared.event.Event.{Event}
use Rattle.larch_actions.specs.declared.event.Layout.{Layout}
use Rattle.larch_actions.specs.declared.event.Pending.{Pending}
use Rattle.larch_actions.specs.declared.event.Pending.TheVariants.{Nothing, Waiting, AlertWaiting}
use Rattle.larch_actions.specs.State.{shown_at}
use Rattle.larch_actions.proofs.Shown.{shown_at-get_or}
use Rattle.script_text.specs.declared.line.Line.{Line}
use Rattle.script_plays.specs.Scenes.{Scene}
use Rattle.script_plays.specs.Plays.{Goes}
use Rattle.script_search.specs.declared.board.Place.{Place}
use Rattle.script_search.specs.declared.board.Place.TheVariants as place
use Rattle.script_search.specs.declared.board.Thread.{Thread}
use Rattle.script_search.specs.declared.board.Board.{Board}
use Rattle.script_search.specs.declared.found.Found.{Found}
use Rattle.script_search.specs.Boards.{Moment, moment_of, scene_of, IsBoard, pending_of, life_of, life_beyond, is_inside, holder_of}
use Rattle.script_search.specs.Keys.{key_of, moment_in}
use Rattle.script_search.specs.Founds.{IsThere, keys_of, moments_of}
use Rattle.script_search.specs.Chains.{IsChain}
use Rattle.script_search.specs.Seen.{IsChild, IsSeen}
use Rattle.script_search.proofs.Rows.{nobody}
use Rattle.script_search.proofs.Planning.{before_end}

-- lists with the same elements
same_list : {X : Type 0} (d : X) (xs ys : List X) → length xs ≡ length ys → ((j : ℕ) → j < length xs → get_or xs j d ≡ get_or ys j d) → xs ≡ ys
same_list d [] [] size each = refl
same_list d [] (y ∷ ys) size each = absurd (omega arith)
same_list d (x ∷ xs) [] size each = absurd (omega arith)
same_list d (x ∷ xs) (y ∷ ys) size each =
    let here = each zero (omega arith) in
    let rest = same_list d xs ys (omega arith) (λ j low. each (suc j) (omega arith)) in
    λ i. here i ∷ rest i

cond_here : (c : ℕ) (b : Bool) → cond (eqb c c) b false ≡ b
cond_here c b = rw (eq-eqb c c refl) refl

mutex_of : Pending → ℕ
mutex_of Nothing = 0
mutex_of (Waiting m c) = m.0
mutex_of (AlertWaiting m c) = m.0

cond_of : Pending → ℕ
cond_of Nothing = 0
cond_of (Waiting m c) = c.0
cond_of (AlertWaiting m c) = c.0

-- a place is known by what it shows
same_place : (p q : Place) → life_of p ≡ life_of q → pending_of p ≡ pending_of q → ((c : ℕ) → is_inside c p ≡ is_inside c q) → p ≡ q
unfolding mutex_of cond_of
same_place place.Unborn place.Unborn a b h = refl
same_place place.Unborn place.Running a b h = absurd (cc)
same_place place.Unborn (place.Waiting m c i) a b h = absurd (cc)
same_place place.Unborn (place.AlertWaiting m c i) a b h = absurd (cc)
same_place place.Unborn place.Ended a b h = absurd (cc)
same_place place.Running place.Unborn a b h = absurd (cc)
same_place place.Running place.Running a b h = refl
same_place place.Running (place.Waiting m c i) a b h = absurd (cc)
same_place place.Running (place.AlertWaiting m c i) a b h = absurd (cc)
same_place place.Running place.Ended a b h = absurd (cc)
same_place (place.Waiting m c i) place.Unborn a b h = absurd (cc)
same_place (place.Waiting m c i) place.Running a b h = absurd (cc)
same_place (place.Waiting m c i) (place.Waiting n d j) a b h =
    let em : m ≡ n = ap mutex_of b in
    let ec : c ≡ d = ap cond_of b in
    let ei : i ≡ j = sym (cond_here c i) ∙ (h c ∙ (ap (λ z. cond (eqb z d) j false) ec ∙ cond_here d j)) in
    λ k. place.Waiting (em k) (ec k) (ei k)
same_place (place.Waiting m c i) (place.AlertWaiting n d j) a b h = absurd (cc)
same_place (place.Waiting m c i) place.Ended a b h = absurd (cc)
same_place (place.AlertWaiting m c i) place.Unborn a b h = absurd (cc)
same_place (place.AlertWaiting m c i) place.Running a b h = absurd (cc)
same_place (place.AlertWaiting m c i) (place.Waiting n d j) a b h = absurd (cc)
same_place (place.AlertWaiting m c i) (place.AlertWaiting n d j) a b h =
    let em : m ≡ n = ap mutex_of b in
    let ec : c ≡ d = ap cond_of b in
    let ei : i ≡ j = sym (cond_here c i) ∙ (h c ∙ (ap (λ z. cond (eqb z d) j false) ec ∙ cond_here d j)) in
    λ k. place.AlertWaiting (em k) (ec k) (ei k)
same_place (place.AlertWaiting m c i) place.Ended a b h = absurd (cc)
same_place place.Ended place.Unborn a b h = absurd (cc)
same_place place.Ended place.Running a b h = absurd (cc)
same_place place.Ended (place.Waiting m c i) a b h = absurd (cc)
same_place place.Ended (place.AlertWaiting m c i) a b h = absurd (cc)
same_place place.Ended place.Ended a b h = refl

same_holder : (a b : Option ℕ) → holder_of a ≡ holder_of b → a ≡ b
same_holder None None e = refl
same_holder None (Some t) e = absurd (some-ne-none t (sym e))
same_holder (Some t) None e = absurd (some-ne-none t e)
same_holder (Some t) (Some u) e = ap Some (some-injective t u e)

-- boards of one layout that show the same scene are the same
view_at : {Y : Type 0} (view : Thread → Y) (dm dn : Y) (m n : Moment) (j : ℕ) → j < length m.threads → j < length n.threads → shown_at view dm m.threads j ≡ shown_at view dn n.threads j
    → view (get_or m.threads j nobody) ≡ view (get_or n.threads j nobody)
view_at view dm dn m n j low low2 h = sym (shown_at-get_or view dm m.threads j nobody low) ∙ (h ∙ shown_at-get_or view dn n.threads j nobody low2)

module _ (l : Layout) (m n : Moment) (bm : IsBoard l m) (bn : IsBoard l n) (e : scene_of m ≡ scene_of n) where
  threads_alike : (j : ℕ) → j < length m.threads → get_or m.threads j nobody ≡ get_or n.threads j nobody
  threads_alike j low =
      let size = bm.threads ∙ sym bn.threads in
      let low2 : j < length n.threads = omega (arith, size) in
      let played = view_at (λ (x : Thread). x.played) 0 0 m n j low low2 (ap (λ (s : Scene). s.played j) e) in
      let alerted = view_at (λ (x : Thread). x.alerted) false false m n j low low2 (ap (λ (s : Scene). s.spec.alerts j) e) in
      let lives = view_at (λ (x : Thread). life_of x.place) (life_beyond m.second) (life_beyond n.second) m n j low low2 (ap (λ (s : Scene). s.spec.life j) e) in
      let waits = view_at (λ (x : Thread). pending_of x.place) Nothing Nothing m n j low low2 (ap (λ (s : Scene). s.spec.pending j) e) in
      let inside : (c : ℕ) → is_inside c (get_or m.threads j nobody).place ≡ is_inside c (get_or n.threads j nobody).place
      = λ c. view_at (λ (x : Thread). is_inside c x.place) false false m n j low low2 (ap (λ (s : Scene). s.spec.members c j) e) in
      let places = same_place (get_or m.threads j nobody).place (get_or n.threads j nobody).place lives waits inside in
      λ i. record { played = played i; place = places i; alerted = alerted i }

  holders_alike : (j : ℕ) → j < length m.holders → get_or m.holders j None ≡ get_or n.holders j None
  holders_alike j low =
      let size = bm.holders ∙ sym bn.holders in
      let low2 : j < length n.holders = omega (arith, size) in
      same_holder _ _ (sym (shown_at-get_or holder_of none m.holders j None low) ∙ (ap (λ (s : Scene). s.spec.holder j) e ∙ shown_at-get_or holder_of none n.holders j None low2))

  available_alike : (j : ℕ) → j < length m.available → get_or m.available j false ≡ get_or n.available j false
  available_alike j low =
      let size = bm.available ∙ sym bn.available in
      let low2 : j < length n.available = omega (arith, size) in
      sym (shown_at-get_or (λ (b : Bool). b) true m.available j false low) ∙ (ap (λ (s : Scene). s.spec.avail j) e ∙ shown_at-get_or (λ (b : Bool). b) true n.available j false low2)

  pub same_scene : m ≡ n
  same_scene =
      let v = bm.version ∙ sym bn.version in
      let t = same_list nobody m.threads n.threads (bm.threads ∙ sym bn.threads) threads_alike in
      let h = same_list None m.holders n.holders (bm.holders ∙ sym bn.holders) holders_alike in
      let a = same_list false m.available n.available (bm.available ∙ sym bn.available) available_alike in
      λ i. record { second = v i; threads = t i; holders = h i; available = a i }

-- places of a list with one element more
pub there_before : {X : Type 0} (xs : List X) (y x : X) (k : ℕ) → slice_get xs k ≡ Some x → slice_get (xs ++ y ∷ []) k ≡ Some x
there_before [] y x k at = absurd (cc)
there_before (z ∷ zs) y x zero at = at
there_before (z ∷ zs) y x (suc k) at = there_before zs y x k at

pub there_last : {X : Type 0} (xs : List X) (y : X) (k : ℕ) → length xs ≡ k → slice_get (xs ++ y ∷ []) k ≡ Some y
there_last [] y zero size = refl
there_last [] y (suc k) size = absurd (omega arith)
there_last (z ∷ zs) y zero size = absurd (omega arith)
there_last (z ∷ zs) y (suc k) size = there_last zs y k (omega arith)

pub there_cases : {X : Type 0} (xs : List X) (y x : X) (k : ℕ) → slice_get (xs ++ y ∷ []) k ≡ Some x → (slice_get xs k ≡ Some x) ⊎ ((k ≡ length xs) × (y ≡ x))
there_cases [] y x zero at = inr (refl, cc)
there_cases [] y x (suc k) at = absurd (cc)
there_cases (z ∷ zs) y x zero at = inl at
there_cases (z ∷ zs) y x (suc k) at = elim (there_cases zs y x k at) [ inl a ↦ inl a | inr b ↦ inr (omega (arith, b.0), b.1) ]

pub there_mapped : {X Y : Type 0} (f : X → Y) (xs : List X) (k : ℕ) (y : Y) → slice_get (map f xs) k ≡ Some y → (x : X) × (slice_get xs k ≡ Some x) × (f x ≡ y)
there_mapped f [] k y at = absurd (cc)
there_mapped f (x ∷ xs) zero y at = (x, refl, cc)
there_mapped f (x ∷ xs) (suc k) y at = there_mapped f xs k y at

pub mapped_there : {X Y : Type 0} (f : X → Y) (xs : List X) (k : ℕ) (x : X) → slice_get xs k ≡ Some x → slice_get (map f xs) k ≡ Some (f x)
mapped_there f [] k x at = absurd (cc)
mapped_there f (z ∷ zs) zero x at = let same : z ≡ x = cc in ap (λ w. Some (f w)) same
mapped_there f (z ∷ zs) (suc k) x at = mapped_there f zs k x at

-- a board that is read from the bytes at a place stands there
pub read_at : {E : Type 0} (f : Found) (k : ℕ) (key : SmallVec ℕ) (bytes : List ℕ) (r : Result Board E) → slice_get f.keys.keys k ≡ Some key → bytes ≡ key.items
    → IfOk r (λ b. moment_of b ≡ moment_in f.layout bytes) → IfOk r (λ b. slice_get (moments_of f) k ≡ Some (moment_of b))
read_at f k key bytes (Ok b) at same is =
    mapped_there (moment_in f.layout) (keys_of f) k key.items (mapped_there (λ (v : SmallVec ℕ). v.items) f.keys.keys k key at)
    ∙ ap Some (sym (is ∙ ap (moment_in f.layout) same))
read_at f k key bytes (Err e) at same is = is

module _ (l : Layout) (xs : List Line) (ms : List Moment) (parents : List ℕ) (seen : IsSeen l xs ms parents) (p : ℕ) (a m : Moment) (e : Event) (u : Scene) (rest : List Event)
    (there : slice_get ms p ≡ Some a) (goes : Goes l xs (scene_of a) e u) (chain : IsChain l xs u rest (scene_of m)) (board : IsBoard l m) (new : IsThere (map key_of ms) (key_of m) → ⊥) where
  old_child : (k : ℕ) (n : Moment) → IsChild l xs ms parents k n → IsChild l xs (ms ++ m ∷ []) (parents ++ p ∷ []) k n
  old_child k n c = record {
    place = c.place;
    parent = c.parent;
    event = c.event;
    named = there_before parents p c.place k c.named;
    before = c.before;
    there = there_before ms m c.parent c.place c.there;
    between = c.between;
    rest = c.rest;
    goes = c.goes;
    chain = c.chain;
  }

  new_child : (k : ℕ) → k ≡ length ms → IsChild l xs (ms ++ m ∷ []) (parents ++ p ∷ []) k m
  new_child k is = record {
    place = p;
    parent = a;
    event = e;
    named = there_last parents p k (seen.size ∙ sym is);
    before = omega (arith, is, before_end ms p a there);
    there = there_before ms m a p there;
    between = u;
    rest = rest;
    goes = goes;
    chain = chain;
  }

  -- a scene that is there is that of no new board
  apart : (k : ℕ) (n : Moment) → slice_get ms k ≡ Some n → scene_of n ≢ scene_of m
  apart k n at same = new (k, mapped_there key_of ms k n at ∙ ap (λ z. Some (key_of z)) (same_scene l n m (seen.boards k n at) board same))

  pub seen_pushed : IsSeen l xs (ms ++ m ∷ []) (parents ++ p ∷ [])
  seen_pushed = record {
    size = length-append parents (p ∷ []) ∙ (ap (λ n. n + 1) seen.size ∙ sym (length-append ms (m ∷ [])));
    first = (seen.first.0, seen.first.1, there_before ms m seen.first.1 seen.first.0 seen.first.2, seen.first.3);
    root = λ n at. elim (there_cases ms m n zero at) [
      | inl old ↦ seen.root n old
      | inr last ↦ absurd (omega (arith, last.0, before_end ms p a there))
    ];
    boards = λ k n at. elim (there_cases ms m n k at) [
      | inl old ↦ seen.boards k n old
      | inr last ↦ subst (λ (z : Moment). IsBoard l z) last.1 board
    ];
    linked = λ k n at low. elim (there_cases ms m n k at) [
      | inl old ↦ old_child k n (seen.linked k n old low)
      | inr last ↦ subst (λ (z : Moment). IsChild l xs (ms ++ m ∷ []) (parents ++ p ∷ []) k z) last.1 (new_child k last.0)
    ];
    distinct = λ i k n o ati atk low. elim (there_cases ms m o k atk) [
      | inl old ↦ elim (there_cases ms m n i ati) [
        | inl older ↦ seen.distinct i k n o older old low
        | inr last ↦ absurd (omega (arith, last.0, before_end ms k o old))
      ]
      | inr last ↦ elim (there_cases ms m n i ati) [
        | inl older ↦ λ same. apart i n older (same ∙ ap scene_of (sym last.1))
        | inr both ↦ absurd (omega (arith, last.0, both.0))
      ]
    ];
  }
