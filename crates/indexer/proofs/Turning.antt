-- The calls of a worker.
use Rattle.std.proofs.Common.{◌≡◌, ℕ, ◌+◌, ◌≤◌, List, [], ◌∷◌, ◌++◌, Option, Some, None, Result, Ok, Err, sym, ap, subst, ◌∙◌, refl, arith, slice_set, cond, append-nil, length}
use Rattle.std.specs.Prelude.{All}
use Rattle.std.proofs.lemmas.List.{set-set}
use Rattle.std.proofs.lemmas.List.Elements.{All-append, All-cons, All-head, All-nil, All-tail}
use Rattle.std.proofs.lemmas.List.Sums.{sum_by-append}
use Rattle.atomic_table.proofs.Lists.{set_again}
use Rattle.bounded_buffer.specs.declared.ends.PutEnd.{PutEnd}
use Rattle.bounded_buffer.specs.declared.ends.PutEnd.TheVariants.{Closed, Alerted as PutAlerted}
use Rattle.bounded_buffer.specs.declared.ends.TakeEnd.{TakeEnd}
use Rattle.bounded_buffer.specs.declared.ends.TakeEnd.TheVariants.{ClosedEmpty, Alerted as TakeAlerted}
use Rattle.bounded_buffer.specs.Calls.{did_last, put_did, take_did}
use Rattle.bounded_buffer.specs.declared.did.Did.TheVariants.{Shut}
use Rattle.bounded_buffer.specs.Parts.{Used, did, more_full, more_empty}
use Rattle.bounded_buffer.specs.Plain.{part_of}
use Rattle.firefly_outside.specs.Trees.{Path, Contents}
use Rattle.larch_actions.specs.declared.event.Event.{Event}
use Rattle.nub_rule.specs.Known.{Holds}
use Rattle.nub_rule.specs.Plays.{release_event}
use Rattle.nub.specs.Idle.{IsIdle}
use Rattle.nub.specs.Rest.{AtRest, Adds, IsSame}
use Rattle.nub.proofs.Users.{idle_again}
use Rattle.word_index.specs.Index.{Index}
use Rattle.index_findings.specs.Pieces.{IsFilesPiece}
use Rattle.index_rule.specs.declared.value.DirsInWork.{DirsInWork}
use Rattle.index_rule.specs.declared.value.IndexItem.{IndexItem}
use Rattle.index_rule.specs.declared.value.IndexItem.TheVariants.{File as FileItem, Piece as PieceItem}
use Rattle.index_rule.specs.declared.value.IndexValue.{IndexValue}
use Rattle.index_rule.specs.declared.value.IndexValue.TheVariants.{Dirs, Ring}
use Rattle.indexer.specs.Pieces.{IsPieceItem}
use Rattle.std.proofs.lemmas.Option.{same_Some}
use Rattle.index_rule.specs.Counting.{contains_nil, distinct_nil}
use Rattle.index_rule.specs.Shares.{Share, IsChildOfTook}
use Rattle.index_rule.specs.Work.{IsAfter, IsNewTo, MayChange, waiting_of}
use Rattle.indexer.specs.Turns.{Worker, Run, releases, release_count, Passes, ComesBack, HasCalled, HasList, IsAs, IsBetween}

-- the list may be given back as it was got
pub dirs_stay : (root : Path) (x : IndexValue) (e : DirsInWork) (s : Share) → IsAfter 0 x → IsAs x e → MayChange root 0 x (Dirs e) s s
dirs_stay root (Dirs d) e s h same = record {
  kind = refl;
  moves = (
    record {
      rest = waiting_of (Dirs d);
      gone = [];
      come = [];
      was = sym (append-nil (waiting_of (Dirs d)));
      is = same.waiting ∙ sym (append-nil (waiting_of (Dirs d)));
      share = refl;
      from = All-nil (IsChildOfTook s);
      once = distinct_nil;
      new = λ d k. absurd (contains_nil d k);
    },
    record { dirs = ap (λ n. n + length s.put) same.dirs; files = ap (λ n. n + s.files) same.files },
  );
}
dirs_stay root (Ring q) e s h same = absurd (h refl)

release_count-append : (m : ℕ) (xs ys : List Event) → release_count m (xs ++ ys) ≡ release_count m xs + release_count m ys
release_count-append m xs ys = sum_by-append (λ (e : Event). cond (releases m e.action) 1 0) xs ys

-- what a call adds takes no release away
pub adds_keep : (m : ℕ) (es : List Event) (e : Event) (a b : Worker) → Adds es e a b → release_count m a.mine ≤ release_count m b.mine
adds_keep m es e a b adds =
    let all = ap (release_count m) adds.mine in
    let one = release_count-append m (a.mine ++ es) (e ∷ []) in
    let two = release_count-append m a.mine es in
    omega arith

-- the same as a call's clause has it
pub adds_called : (m : ℕ) (es : List Event) (e : Event) (a b : Worker) → Adds es e a b → 0 + release_count m a.mine ≤ release_count m b.mine
adds_called m es e a b adds = let kept = adds_keep m es e a b adds in omega arith

one_release : (m : ℕ) (es : List Event) (e : Event) (a b : Worker) → release_count m (e ∷ []) ≡ 1 → Adds es e a b → 1 + release_count m a.mine ≤ release_count m b.mine
one_release m es e a b here adds =
    let all = ap (release_count m) adds.mine in
    let one = release_count-append m (a.mine ++ es) (e ∷ []) in
    let two = release_count-append m a.mine es in
    omega arith

-- and a release is one more
pub adds_release : (t : ℕ) (a b : Worker) → Adds [] (release_event t 0) a b → 1 + release_count 0 a.mine ≤ release_count 0 b.mine
adds_release t a b adds = one_release 0 [] (release_event t 0) a b refl adds

pub adds_release_file : (t : ℕ) (es : List Event) (a b : Worker) → Adds es (release_event t 1) a b → 1 + release_count 1 a.mine ≤ release_count 1 b.mine
adds_release_file t es a b adds = one_release 1 es (release_event t 1) a b refl adds

abbrev pub taken_pieces : Result (ℕ × IndexItem) TakeEnd → List Index
taken_pieces (Ok (n, FileItem f)) = []
taken_pieces (Ok (n, PieceItem x)) = x ∷ []
taken_pieces (Err e) = []

module _ (o : Option Contents) (root : Path) where
  -- a share that has the same at the buffer of pieces
  pub passes_same : (s r : Share) → part_of r.notes 2 ≡ part_of s.notes 2 → Passes o root [] s r
  passes_same s r e = record {
    puts = subst (λ (u : Used IndexItem). All (λ p. IsPieceItem o root p.1) u.puts) (sym e);
    takes = λ h. (subst (λ (u : Used IndexItem). All (λ p. IsPieceItem o root p.1) u.takes) e h, All-nil (IsFilesPiece o root));
  }

  pub passes_none : (s : Share) → Passes o root [] s s
  passes_none s = passes_same s s refl

  pub passes_on : (ps qs : List Index) (s r u : Share) → Passes o root ps s r → Passes o root qs r u → Passes o root (ps ++ qs) s u
  passes_on ps qs s r u first second = record {
    puts = λ h. second.puts (first.puts h);
    takes = λ h. let k = second.takes h in let j = first.takes k.0 in (j.0, All-append (IsFilesPiece o root) ps qs j.1 k.1);
  }

  pub passes_as : (ps qs : List Index) (s r : Share) → (All (IsFilesPiece o root) ps → All (IsFilesPiece o root) qs) → Passes o root ps s r → Passes o root qs s r
  passes_as ps qs s r f h = record { puts = h.puts; takes = λ k. let j = h.takes k in (j.0, f j.1) }

  -- the part of the share after a put at the buffer of pieces
  put_parts : (i : IndexItem) (x : Result ℕ (PutEnd × IndexItem)) (k : ℕ) (u : Used IndexItem) → IsPieceItem o root i
      → (All (λ p. IsPieceItem o root p.1) u.puts → All (λ p. IsPieceItem o root p.1) (did_last (put_did i x) (more_full k u)).puts)
      × (All (λ p. IsPieceItem o root p.1) (did_last (put_did i x) (more_full k u)).takes → All (λ p. IsPieceItem o root p.1) u.takes)
  put_parts i (Ok n) k u fits = ((λ h. All-cons (λ (p : ℕ × IndexItem). IsPieceItem o root p.1) (n, i) u.puts fits h), (λ h. h))
  put_parts i (Err (Closed, j)) k u fits = ((λ h. h), (λ h. h))
  put_parts i (Err (PutAlerted, j)) k u fits = ((λ h. h), (λ h. h))

  pub passes_put : (i : IndexItem) (x : Result ℕ (PutEnd × IndexItem)) (k : ℕ) (s r : Share) → part_of r.notes 2 ≡ did_last (put_did i x) (more_full k (part_of s.notes 2)) → IsPieceItem o root i → Passes o root [] s r
  passes_put i x k s r e fits =
      let parts = put_parts i x k (part_of s.notes 2) fits in
      record {
        puts = λ h. subst (λ (u : Used IndexItem). All (λ p. IsPieceItem o root p.1) u.puts) (sym e) (parts.0 h);
        takes = λ h. (parts.1 (subst (λ (u : Used IndexItem). All (λ p. IsPieceItem o root p.1) u.takes) e h), All-nil (IsFilesPiece o root));
      }

  take_parts : (x : Result (ℕ × IndexItem) TakeEnd) (k : ℕ) (u : Used IndexItem)
      → (All (λ p. IsPieceItem o root p.1) u.puts → All (λ p. IsPieceItem o root p.1) (did_last (take_did x) (more_empty k u)).puts)
      × (All (λ p. IsPieceItem o root p.1) (did_last (take_did x) (more_empty k u)).takes → All (λ p. IsPieceItem o root p.1) u.takes × All (IsFilesPiece o root) (taken_pieces x))
  take_parts (Ok (n, FileItem f)) k u = ((λ h. h), (λ h. (All-tail (λ (p : ℕ × IndexItem). IsPieceItem o root p.1) (n, FileItem f) u.takes h, All-nil (IsFilesPiece o root))))
  take_parts (Ok (n, PieceItem x)) k u = (
    (λ h. h),
    (λ h. (
      All-tail (λ (p : ℕ × IndexItem). IsPieceItem o root p.1) (n, PieceItem x) u.takes h,
      All-cons (IsFilesPiece o root) x [] (All-head (λ (p : ℕ × IndexItem). IsPieceItem o root p.1) (n, PieceItem x) u.takes h) (All-nil (IsFilesPiece o root)),
    )),
  )
  take_parts (Err ClosedEmpty) k u = ((λ h. h), (λ h. (h, All-nil (IsFilesPiece o root))))
  take_parts (Err TakeAlerted) k u = ((λ h. h), (λ h. (h, All-nil (IsFilesPiece o root))))

  pub passes_take : (x : Result (ℕ × IndexItem) TakeEnd) (k : ℕ) (s r : Share) → part_of r.notes 2 ≡ did_last (take_did x) (more_empty k (part_of s.notes 2)) → Passes o root (taken_pieces x) s r
  passes_take x k s r e =
      let parts = take_parts x k (part_of s.notes 2) in
      record {
        puts = λ h. subst (λ (u : Used IndexItem). All (λ p. IsPieceItem o root p.1) u.puts) (sym e) (parts.0 h);
        takes = λ h. parts.1 (subst (λ (u : Used IndexItem). All (λ p. IsPieceItem o root p.1) u.takes) e h);
      }

  pub passes_shut : (s r : Share) → part_of r.notes 2 ≡ did Shut (part_of s.notes 2) → Passes o root [] s r
  passes_shut s r e = record {
    puts = λ h. subst (λ (u : Used IndexItem). All (λ p. IsPieceItem o root p.1) u.puts) (sym e) h;
    takes = λ h. (subst (λ (u : Used IndexItem). All (λ p. IsPieceItem o root p.1) u.takes) e h, All-nil (IsFilesPiece o root));
  }

  pub back_on : (ps qs : List Index) (p : Run) (a b c : Worker) → ComesBack o root ps p a b → ComesBack o root qs p b c → ComesBack o root (ps ++ qs) p a c
  back_on ps qs p a b c first second = λ n s idle.
      let one = first n s idle in
      let two = second n one.0 one.1 in
      (two.0, two.1, passes_on ps qs s one.0 two.0 one.2 two.2)

  pub still_between : (ps : List Index) (p : Run) (a b : Worker) → IsBetween p a → ComesBack o root ps p a b → IsBetween p b
  still_between ps p a b between back = let r = back between.0 between.1 between.2 in (between.0, r.0, r.1)

  pub back_as : (ps qs : List Index) (p : Run) (a b : Worker) → (All (IsFilesPiece o root) ps → All (IsFilesPiece o root) qs) → ComesBack o root ps p a b → ComesBack o root qs p a b
  back_as ps qs p a b f back = λ n s idle. let r = back n s idle in (r.0, r.1, passes_as ps qs s r.0 f r.2)

  -- nothing was called
  pub called_none : (p : Run) (m : ℕ) (a : Worker) → HasCalled o root [] p m 0 a a
  called_none p m a = record { back = λ n s idle. (s, idle, passes_none s); times = omega arith }

  -- a call whose share stays
  pub called_idle : (p : Run) (m : ℕ) (es : List Event) (e : Event) (a b : Worker) → Adds es e a b → ((n : ℕ) (s : Share) → IsIdle p n s a → IsIdle p n s b) → HasCalled o root [] p m 0 a b
  called_idle p m es e a b adds idle = record { back = λ n s i. (s, idle n s i, passes_none s); times = adds_called m es e a b adds }

  -- one call after the other
  pub called_on : (ps qs : List Index) (p : Run) (m k j : ℕ) (a b c : Worker) → HasCalled o root ps p m k a b → HasCalled o root qs p m j b c → HasCalled o root (ps ++ qs) p m (k + j) a c
  called_on ps qs p m k j a b c first second = record {
    back = back_on ps qs p a b c first.back second.back;
    times = let one = first.times in let two = second.times in omega arith;
  }

  pub called_then : (p : Run) (m : ℕ) (a b c : Worker) → HasCalled o root [] p m 0 a b → HasCalled o root [] p m 0 b c → HasCalled o root [] p m 0 a c
  called_then p m a b c first second = called_on [] [] p m 0 0 a b c first second

  pub called_as : (ps qs : List Index) (p : Run) (m k : ℕ) (a b : Worker) → (All (IsFilesPiece o root) ps → All (IsFilesPiece o root) qs) → HasCalled o root ps p m k a b → HasCalled o root qs p m k a b
  called_as ps qs p m k a b f h = record { back = back_as ps qs p a b f h.back; times = h.times }

  pub called_any : (ps : List Index) (p : Run) (m k : ℕ) (a b : Worker) → HasCalled o root ps p m k a b → HasCalled o root ps p m 0 a b
  called_any ps p m k a b h = record { back = h.back; times = let more = h.times in omega arith }

  -- who gives the list back is between two calls again
  pub gave_back : (p : Run) (a b c : Worker) (x : IndexValue) (has : HasList p a x b) → AtRest p c → IsSame b c → c.held ≡ slice_set b.held 0 None → (r : Share) → c.share ≡ Some r → r.notes ≡ has.own.notes
      → Adds [] (release_event b.number 0) b c → HasCalled o root [] p 0 1 a c
  gave_back p a b c x has rest same held r share notes adds = record {
    back = λ n s idle. (
      r,
      idle_again p n s r a c idle rest
          (record { number = same.number ∙ has.same.number; world = same.world ∙ has.same.world })
          (held ∙ (ap (λ h. slice_set h 0 None) has.held ∙ (set-set a.held 0 (Some x) None ∙ set_again a.held 0 None (idle.lacks 0 (omega arith)))))
          share,
      passes_same s r (ap (λ l. part_of l 2) (notes ∙ ap (λ (u : Share). u.notes) (same_Some has.own s (sym has.was ∙ idle.share)))),
    );
    times = let more = adds_release b.number b c adds in let before = has.times 0 in omega arith;
  }

  -- and has released no mutex less often than before
  pub gave_any : (p : Run) (m : ℕ) (a b c : Worker) (x : IndexValue) → HasList p a x b → Adds [] (release_event b.number 0) b c → HasCalled o root [] p 0 1 a c → HasCalled o root [] p m 0 a c
  gave_any p m a b c x has adds called = record {
    back = called.back;
    times = let more = adds_keep m [] (release_event b.number 0) b c adds in let before = has.times m in omega arith;
  }

-- who waited with the list has it again
pub has_again : (p : Run) (a b c : Worker) (x y : IndexValue) (es : List Event) (e : Event) (has : HasList p a x b) → AtRest p c → IsSame b c → Holds c 0 y → c.held ≡ slice_set b.held 0 (Some y)
    → c.share ≡ b.share → Adds es e b c → IsAfter 0 y → IsNewTo p.world 0 has.own y → HasList p a y c
has_again p a b c x y es e has rest same holds held share adds kind new = record {
  rest = rest;
  same = record { number = same.number ∙ has.same.number; world = same.world ∙ has.same.world };
  has = holds;
  held = held ∙ (ap (λ h. slice_set h 0 (Some y)) has.held ∙ set-set a.held 0 (Some x) (Some y));
  world = same.world ∙ has.world;
  own = has.own;
  was = has.was;
  share = share ∙ has.share;
  kind = kind;
  new = new;
  times = λ m. let more = adds_keep m es e b c adds in let before = has.times m in omega arith;
}
