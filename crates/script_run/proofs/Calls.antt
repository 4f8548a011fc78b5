-- The calls of a line.
use Rattle.std.proofs.Common.{◌≡◌, ℕ, zero, suc, ◌+◌, ◌-◌, ◌^◌, ◌<◌, ◌≤◌, List, [], ◌∷◌, ◌++◌, length, get_or, refl, ap, sym, subst, ◌∙◌, append-nil, Bool, true, false, Some, None, arith}
use mathlib.Core.Option.{some, some-ne-none}
use lib.ListN.{get_elem?, set}
use Rattle.std.proofs.lemmas.List.{length-set}
use Rattle.larch_actions.specs.declared.event.Layout.{Layout}
use Rattle.larch_actions.specs.declared.event.MutexId.{MutexId}
use Rattle.larch_actions.specs.declared.event.Action.TheVariants as action
use Rattle.larch_actions.specs.declared.event.Event.{Event}
use Rattle.nub_rule.specs.Known.{Shape}
use Rattle.nub_rule.specs.declared.view.Stint.{Stint}
use Rattle.nub.specs.Rest.{AtRest, Adds, IsSame}
use Rattle.sum_uses.specs.declared.added.Added.{Added}
use Rattle.sum_uses.specs.Sums.{IsAbove, GrowsAlike, grown}
use Rattle.script_text.specs.declared.line.Operation.{Operation}
use Rattle.script_text.specs.declared.line.Operation.TheVariants.{Acquire, Release, Add}
use Rattle.script_text.specs.declared.line.Line.{Line}
use Rattle.script_text.specs.declared.table.Use.{Use}
use Rattle.script_text.specs.declared.table.Use.TheVariants.{Needs, Nothing}
use Rattle.script_text.specs.Operations.{Holding, IsNamed, MayDo, MayUse, none_held, held_after, holding_with, holding_after, held_if, MayFollow, none_forked, Forked, MayCome, MayLive}
use Rattle.larch_actions.specs.declared.event.Version.{Version}
use Rattle.larch_actions.specs.declared.event.Version.TheVariants.{One}
use Rattle.script_text.specs.declared.table.Fate.TheVariants as fate
use Rattle.script_text.specs.Table.{use_of, fate_of}
use Rattle.script_run.specs.Playing.{Player, AreLinked, HasHand, HasNumber, IsPlaying, IsWide, HasMutex, visits_of}
use Rattle.script_text.specs.Runs.{IsRow, lines_of, total, added_by, event}
use Rattle.script_text.specs.Visits.{Hand, Leaves, Visit, adds, gets, leaves}
use Rattle.script_run.proofs.Hands.{hand_adds, hand_gets, hand_gives, linked_more, visits_more}
use Rattle.script_run.proofs.Plays.{Stays, wide_set, played, acquired, released, may_release, untouched, added_to, number_small}
use Rattle.script_run.proofs.Rows.{total_small}

-- what the thread may do, at its own number and this operation
pub may_own : (h : Holding) (u t : ℕ) (o q : Operation) → u ≡ t → o ≡ q → MayDo h u o → MayDo h t q
may_own h u t o q e f m = let P : ℕ → Type 0 = λ v. MayDo h v q in subst P e (let Q : Operation → Type 0 = λ r. MayDo h u r in subst Q f m)

-- the sums of fewer than 99,999 lines are small
pub sums_small : (l : Layout) (t m : ℕ) (xs : List Line) → MayFollow l none_held none_forked xs → length xs < 99999 → total (lines_of t xs) m ≤ 100000000000
sums_small l t m xs f few = let s = total_small l none_held none_forked t m xs f in omega arith

-- the stint in which the thread t got x with the mutex m and left y, and its share was s
abbrev pub left_as : ℕ → ℕ → ℕ → ℕ → List Added → Stint ℕ (List Added)
left_as m x t y s = record { thread = t; mutex = m; got = x; left = y; before = s; after = grown m x y s }

-- the value got with a mutex that is held
pub got : (held : List _) (m number : ℕ) (share : List Added) (sum : ℕ) (b : Bool) → b ≡ true → HasNumber b held m number share sum → (x : ℕ) × (get_elem? held m ≡ some (Some x))
got held m number share sum true e (x, h, le, small, q) = (x, h)
got held m number share sum false e h = absurd (cc)

module _ (p : Shape (Prim.Unit {0})) (xs : List Line) (numbers : List ℕ) (a : Player) (line : Line) (s : IsPlaying p a.number xs numbers a) (own : line.thread.0 ≡ a.number) where
  abbrev sums : ℕ → ℕ
  sums m = total (lines_of a.number xs) m

  abbrev h : Holding
  h = held_after none_held xs

  stays : (b : Player) → AtRest p b → IsSame a b → IsWide b.held → Stays p a.number xs b
  stays b rest same size = record { rest = rest; number = same.number; world = same.world ∙ s.world; held_size = size }

  -- the line finds its mutex held
  pub has_mutex : (o : Operation) (m : MutexId) (l : Layout) → line.operation ≡ o → use_of o ≡ Needs m → MayDo h line.thread.0 line.operation → MayFollow l none_held none_forked xs → length xs < 99999 → HasMutex l a.number xs m.0
  has_mutex o m l is uses may follow few =
      let U : Use → Type 0 = λ u. MayUse h a.number u in
      record { held = subst U uses (may_own h line.thread.0 a.number line.operation o own is may); follow = follow; few = few }

  -- after an event of its own
  after_event : (o : Operation) (e : Event) (v : List Visit) (after : Hand) (numbers' : List ℕ) (b : Player) (share : List Added) → line.operation ≡ o → IsRow a.number o (e ∷ []) → Leaves a.number o (e ∷ []) s.hand v after → AtRest p b → IsSame a b → Adds [] e a b
      → visits_of b.stints ≡ s.visits ++ v → HasHand b.held numbers' after → IsWide b.held → length numbers' ≡ 64 → b.share ≡ Some share → AreLinked [] b.stints share
      → ((m : ℕ) → m < 64 → HasNumber (holding_after h a.number o a.number m) b.held m (get_or numbers' m 0) share (sums m + added_by o m))
      → IsPlaying p a.number (xs ++ line ∷ []) numbers' b
  after_event o e v after numbers' b share is row left rest same adds stints agrees held_size size is_share linked each =
      let R : Operation → Type 0 = λ q. IsRow a.number q (e ∷ []) in
      let L : Operation → Type 0 = λ q. Leaves a.number q (e ∷ []) s.hand v after in
      let E : Operation → Type 0 = λ q. (m : ℕ) → m < 64 → HasNumber (holding_after h a.number q a.number m) b.held m (get_or numbers' m 0) share (sums m + added_by q m) in
      played p a.number xs line numbers' s.before (e ∷ []) s.visits v s.hand after b share own (stays b rest same held_size) size s.are (subst R (sym is) row) (subst L (sym is) left) (adds.mine ∙ ap (λ l. l ++ e ∷ []) (append-nil a.mine ∙ s.mine ∙ append-nil s.before))
      stints agrees is_share linked (subst E (sym is) each)

  -- the visits and the shares after a call that entered no stint
  no_visit : (b : Player) → b.stints ≡ a.stints → visits_of b.stints ≡ s.visits ++ []
  no_visit b stints = ap visits_of stints ∙ s.stints

  no_link : (b : Player) → b.stints ≡ a.stints → AreLinked [] b.stints s.share
  no_link b stints = subst (λ (l : List (Stint ℕ (List Added))). AreLinked [] l s.share) (sym stints) s.linked

  pub after_acquire : (m : MutexId) (x : ℕ) (b : Player) → line.operation ≡ Acquire m → m.0 < 64 → MayDo h line.thread.0 line.operation → AtRest p b → IsSame a b → Adds [] (event a.number (action.Acquire m)) a b → b.held ≡ set a.held m.0 (Some x) → b.share ≡ a.share → b.stints ≡ a.stints → IsAbove m.0 x s.share
      → IsPlaying p a.number (xs ++ line ∷ []) (set numbers m.0 x) b
  after_acquire m x b is low may rest same adds held share stints above =
      let free = may_own h line.thread.0 a.number line.operation (Acquire m) own is may in
      let P : List _ → Type 0 = λ l. (k : ℕ) → k < 64 → HasNumber (held_if true h a.number m.0 a.number k) l k (get_or (set numbers m.0 x) k 0) s.share (sums k + 0) in
      after_event (Acquire m) (event a.number (action.Acquire m)) [] (gets m x s.hand) (set numbers m.0 x) b s.share is refl (x, refl, refl) rest same adds (no_visit b stints)
      (subst (λ (l : List _). HasHand l (set numbers m.0 x) (gets m x s.hand)) (sym held) (hand_gets a.held numbers s.hand s.agrees m x (omega (arith, s.size)))) (subst IsWide (sym held) (wide_set a.held m.0 (Some x) low s.held_size)) (length-set numbers m.0 x ∙ s.size) (share ∙ s.is_share) (no_link b stints)
      (subst P (sym held) (acquired h a.number m.0 a.held numbers s.share sums low s.size s.held_size s.each x free above))

  pub after_release : (m : MutexId) (x : ℕ) (b : Player) → line.operation ≡ Release m → m.0 < 64 → MayDo h line.thread.0 line.operation → get_elem? a.held m.0 ≡ some (Some x) → AtRest p b → IsSame a b → Adds [] (event a.number (action.Release m)) a b → b.held ≡ set a.held m.0 None
      → b.share ≡ Some (record { mutex = m.0; amount = get_or numbers m.0 0 - x } ∷ s.share) → b.stints ≡ a.stints ++ left_as m.0 x a.number (get_or numbers m.0 0) s.share ∷ [] → IsPlaying p a.number (xs ++ line ∷ []) numbers b
  after_release m x b is low may has rest same adds held share stints =
      let mine = may_own h line.thread.0 a.number line.operation (Release m) own is may in
      let P : List _ → Type 0 = λ l. (k : ℕ) → k < 64 → HasNumber (held_if false h a.number m.0 a.number k) l k (get_or numbers k 0) (record { mutex = m.0; amount = get_or numbers m.0 0 - x } ∷ s.share) (sums k + 0) in
      after_event (Release m) (event a.number (action.Release m)) (leaves a.number m s.hand ∷ []) s.hand numbers b (record { mutex = m.0; amount = get_or numbers m.0 0 - x } ∷ s.share) is refl (refl, refl) rest same adds
      (ap visits_of stints ∙ (visits_more a.stints (left_as m.0 x a.number (get_or numbers m.0 0) s.share) s.visits (s.stints ∙ append-nil s.visits) ∙ ap (λ q. s.visits ++ record { thread = a.number; mutex = m.0; got = q.0; left = q.1 } ∷ []) (sym (s.agrees m.0 x has))))
      (subst (λ (l : List _). HasHand l numbers s.hand) (sym held) (hand_gives a.held numbers s.hand s.agrees m)) (subst IsWide (sym held) (wide_set a.held m.0 None low s.held_size)) s.size share
      (subst (λ (l : List (Stint ℕ (List Added))). AreLinked [] l (record { mutex = m.0; amount = get_or numbers m.0 0 - x } ∷ s.share)) (sym stints) (linked_more [] a.stints (left_as m.0 x a.number (get_or numbers m.0 0) s.share) s.share s.linked refl))
      (subst P (sym held) (released h a.number m.0 a.held numbers s.share sums low s.size s.held_size s.each x mine has))

  -- an event that uses no mutex
  pub after_quiet : (o : Operation) (e : Event) (b : Player) → line.operation ≡ o → IsRow a.number o (e ∷ []) → Leaves a.number o (e ∷ []) s.hand [] s.hand → use_of o ≡ Nothing → ((m : ℕ) → added_by o m ≡ 0)
      → AtRest p b → IsSame a b → Adds [] e a b → b.held ≡ a.held → b.share ≡ a.share → b.stints ≡ a.stints → IsPlaying p a.number (xs ++ line ∷ []) numbers b
  after_quiet o e b is row left none adds_none rest same adds held share stints =
      let Q : List _ → Type 0 = λ l. (m : ℕ) → m < 64 → HasNumber (h a.number m) l m (get_or numbers m 0) s.share (sums m + 0) in
      let each = subst Q (sym held) (untouched h a.number 0 a.held numbers s.share sums (omega arith) s.size s.held_size s.each) in
      after_event o e [] s.hand numbers b s.share is row left rest same adds (no_visit b stints) (subst (λ (l : List _). HasHand l numbers s.hand) (sym held) s.agrees) (subst IsWide (sym held) s.held_size) s.size (share ∙ s.is_share) (no_link b stints)
      (λ m low.
      let U : Use → Type 0 = λ u. HasNumber (holding_with h a.number u a.number m) b.held m (get_or numbers m 0) s.share (sums m + added_by o m) in
      let N : ℕ → Type 0 = λ n. HasNumber (h a.number m) b.held m (get_or numbers m 0) s.share (sums m + n) in
      subst U (sym none) (subst N (sym (adds_none m)) (each m low)))

  pub after_add : (m : MutexId) (n : ℕ) → line.operation ≡ Add m n → m.0 < 64 → MayDo h line.thread.0 line.operation → IsPlaying p a.number (xs ++ line ∷ []) (set numbers m.0 (get_or numbers m.0 0 + n)) a
  after_add m n is low may =
      let mine = may_own h line.thread.0 a.number line.operation (Add m n) own is may in
      let R : Operation → Type 0 = λ q. IsRow a.number q [] in
      let E : Operation → Type 0 = λ q. (k : ℕ) → k < 64 → HasNumber (holding_after h a.number q a.number k) a.held k (get_or (set numbers m.0 (get_or numbers m.0 0 + n)) k 0) s.share (sums k + added_by q k) in
      let L : Operation → Type 0 = λ q. Leaves a.number q [] s.hand [] (adds m n s.hand) in
      let st : Stays p a.number xs a = record { rest = s.rest; number = refl; world = s.world; held_size = s.held_size } in
      played p a.number xs line (set numbers m.0 (get_or numbers m.0 0 + n)) s.before [] s.visits [] s.hand (adds m n s.hand) a s.share own st (length-set numbers m.0 (get_or numbers m.0 0 + n) ∙ s.size) s.are (subst R (sym is) refl) (subst L (sym is) (refl, refl)) s.mine
      s.stints (hand_adds a.held numbers s.hand s.agrees m n (omega (arith, s.size))) s.is_share s.linked
      (subst E (sym is) (added_to h a.number m.0 a.held numbers s.share sums low s.size s.held_size s.each n mine))

  -- what a release needs
  pub release_needs : (m : MutexId) (l : Layout) → line.operation ≡ Release m → m.0 < 64 → MayDo h line.thread.0 line.operation → MayFollow l none_held none_forked xs → length xs < 99999
      → (x : ℕ) × (get_elem? a.held m.0 ≡ some (Some x)) × GrowsAlike m.0 x (get_or numbers m.0 0) s.share (record { mutex = m.0; amount = get_or numbers m.0 0 - x } ∷ s.share)
  release_needs m l is low may follow few =
      let mine = may_own h line.thread.0 a.number line.operation (Release m) own is may in
      let x = got a.held m.0 (get_or numbers m.0 0) s.share (sums m.0) (h a.number m.0) mine (s.each m.0 low) in
      (x.0, x.1, may_release h a.number m.0 a.held numbers s.share sums low s.size s.held_size s.each x.0 mine x.1 (sums_small l a.number m.0 xs follow few))

  pub add_fits : (m : MutexId) (n : ℕ) (l : Layout) → line.operation ≡ Add m n → n ≤ 1000000 → m.0 < 64 → MayDo h line.thread.0 line.operation → MayFollow l none_held none_forked xs → length xs < 99999 → get_or numbers m.0 0 + n < 2 ^ 64
  add_fits m n l is small low may follow few =
      let mine = may_own h line.thread.0 a.number line.operation (Add m n) own is may in
      let k = number_small h a.number m.0 a.held numbers s.share sums low s.size s.held_size s.each mine (sums_small l a.number m.0 xs follow few) in
      omega arith

pub elem_low : {A : Type 0} (l : List A) (i : ℕ) (x : A) → get_elem? l i ≡ some x → i < length l
elem_low [] i x e = absurd (some-ne-none x (sym e))
elem_low (y ∷ l) zero x e = omega arith
elem_low (y ∷ l) (suc i) x e = let ih = elem_low l i x e in omega arith

pub named_own : (l : Layout) (o q : Operation) → o ≡ q → IsNamed l o → IsNamed l q
named_own l o q e n = let P : Operation → Type 0 = λ r. IsNamed l r in subst P e n

-- in version one no line does anything with a thread
pub no_fate : (l : Layout) (h : Holding) (f : Forked) (x : Line) (o : Operation) → l.version ≡ One → MayCome l h f x → x.operation ≡ o → (fate_of o ≡ fate.Nothing → ⊥) → ⊥
no_fate l h f x o one may is other =
    let P : Version → Type 0 = λ v. MayLive v f x.thread.0 (fate_of x.operation) in
    other (ap fate_of (sym is) ∙ subst P one may.live)
