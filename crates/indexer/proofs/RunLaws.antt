-- A run of workers in a package of its own.
use Rattle.std.proofs.Common.{◌≡◌, ℕ, ◌+◌, ◌<◌, Bool, true, false, zero, suc, List, [], ◌∷◌, length, map, get_or, Option, Some, None, cond, nat_lt, refl, sym, ap, subst, ◌∙◌, arith}
use Rattle.std.specs.Prelude.{All, remove}
use Rattle.std.specs.List.{flat_map}
use Rattle.std.proofs.lemmas.List.Elements.{All-append, All-nil}
use Rattle.std.proofs.lemmas.Option.{same_Some}
use mathlib.Core.Option.{some, some-injective, some-ne-none}
use lib.ListN.{get_elem?}
use Rattle.firefly_outside.specs.Trees.{Path, Contents, Calls}
use Rattle.firefly_outside.specs.declared.tree.Kind.{Kind}
use Rattle.nub_rule.specs.Items.{Each}
use Rattle.nub.specs.Ended.{IsFirst, IsDone, KeepsLocks}
use Rattle.nub.specs.Idle.{IsIdle}
use Rattle.nub.proofs.Users.{from_at, idle_first, idle_done, share_of}
use Rattle.word_index.specs.Index.{Index}
use Rattle.index_findings.specs.declared.findings.Findings.{Findings}
use Rattle.index_findings.specs.Pieces.{IsFilesPiece}
use Rattle.index_rule.specs.declared.value.IndexItem.{IndexItem}
use Rattle.index_rule.specs.declared.value.IndexValue.{IndexValue}
use Rattle.indexer.specs.Jobs.{GivesTree, HasWorked, IsFresh, kind_at, tree_at}
use Rattle.indexer.specs.Pieces.{IsPieceItem, AllPut, AllTaken}
use Rattle.indexer.specs.Runs.{IsFoundBy}
use Rattle.indexer.specs.Says.{AllShow}
use Rattle.indexer.specs.Turns.{Worker, Run, ComesBack, HasCalled}
use Rattle.index_rule.specs.Closing.{taken_fit}
use Rattle.index_rule.specs.Shares.{Share, blank}
use Rattle.index_rule.specs.Work.{KeepsWork}

abbrev pub no_share : Path → ℕ → Share
no_share w t = blank

-- after the first
pub past_first : {A : Type 0} (xs : List A) (n : ℕ) (t : A) → get_elem? (remove xs 0) n ≡ some t → get_elem? xs (suc n) ≡ some t
past_first [] n t e = absurd (some-ne-none t (sym e))
past_first (x ∷ xs) n t e = e

pub at_first : {A : Type 0} (xs : List A) (x : A) → 0 < length xs → x ≡ get_or xs 0 x → get_elem? xs 0 ≡ some x
at_first [] x low e = absurd (omega arith)
at_first (y ∷ xs) x low e = ap (λ z. some z) (sym e)

-- something stands at each place
pub some_at : {A : Type 0} (xs : List A) (k : ℕ) → k < length xs → (x : A) × (get_elem? xs k ≡ some x)
some_at [] k low = absurd (omega arith)
some_at (x ∷ xs) zero low = (x, refl)
some_at (x ∷ xs) (suc k) low = some_at xs k (omega arith)

-- as many are left when all but the first have gone and come back
pub all_many : {A : Type 0} (threads back all : List A) (last : A) (n : ℕ) → all ≡ last ∷ back → length back ≡ length (remove threads 0) → length threads ≡ n → 0 < n → length all ≡ n
all_many [] back all last n is many long low = absurd (omega arith)
all_many (x ∷ threads) back all last n is many long low = ap length is ∙ (ap suc many ∙ long)

-- and one fewer are left without the first
pub one_fewer : {A B : Type 0} (threads : List A) (found : List B) (n : ℕ) → length found ≡ length (remove threads 0) → length threads ≡ n → 0 < n → length found + 1 ≡ n
one_fewer [] found n many long low = absurd (omega arith)
one_fewer (x ∷ threads) found n many long low = let more = ap suc many ∙ long in omega arith

-- a first thread is between two calls, and has done nothing
pub first_fresh : (p : Run) (n : ℕ) (t : Worker) → IsFirst p no_share n t → IsFresh p t
first_fresh p n t first = ((n, blank, idle_first p no_share n t first), first.share)

-- where all came back from threads that had done nothing, all that was put at the buffer of pieces are pieces of the tree
puts_first : (o : Option Contents) (root : Path) (ps : List Index) (p : Run) (n : ℕ) (a b : Worker) → IsFirst p no_share n a → ComesBack o root ps p a b → (s : Share) → b.share ≡ Some s → AllPut (IsPieceItem o root) 2 s
puts_first o root ps p n a b first back s at =
    let r = back n blank (idle_first p no_share n a first) in
    subst (λ (u : Share). AllPut (IsPieceItem o root) 2 u) (same_Some r.0 s (sym r.1.share ∙ at)) (r.2.puts (All-nil (λ (q : ℕ × IndexItem). IsPieceItem o root q.1)))

-- what was taken are pieces of the tree, and so are those that are left
pieces_first : (o : Option Contents) (root : Path) (ps : List Index) (p : Run) (n : ℕ) (a b : Worker) → IsFirst p no_share n a → ComesBack o root ps p a b → (s : Share) → b.share ≡ Some s → AllTaken (IsPieceItem o root) 2 s
    → All (IsFilesPiece o root) ps
pieces_first o root ps p n a b first back s at taken =
    let r = back n blank (idle_first p no_share n a first) in
    (r.2.takes (subst (λ (u : Share). AllTaken (IsPieceItem o root) 2 u) (sym (same_Some r.0 s (sym r.1.share ∙ at))) taken)).1

by_cond : {S : Type 0} (v : Bool) (x : Option S) (s : S) → cond v x None ≡ Some s → x ≡ Some s
by_cond true x s e = e
by_cond false x s e = absurd (cc)

-- the tree of a worker is one of the trees
pub tree_of : {S : Type 0} (n : ℕ) (trees : List (Option S)) (k : ℕ) (s : S) → tree_at n trees k ≡ Some s → get_or trees k None ≡ Some s
tree_of n trees k s e = by_cond (nat_lt k n) (get_or trees k None) s e

-- a share at a place is that of the thread there
pub thread_of : (threads : List Worker) (shares : List Share) → map (λ t. t.share) threads ≡ map (λ s. Some s) shares → (n : ℕ) (s : Share) → get_elem? shares n ≡ some s
    → (t : Worker) × (get_elem? threads n ≡ some t) × (t.share ≡ Some s)
thread_of threads [] each n s at = absurd (some-ne-none s (sym at))
thread_of [] (r ∷ shares) each n s at = absurd (cc)
thread_of (x ∷ threads) (r ∷ shares) each zero s at =
    let head : x.share ≡ Some r = cc in
    (x, refl, head ∙ ap (λ (u : Share). Some u) (some-injective r s at))
thread_of (x ∷ threads) (r ∷ shares) each (suc n) s at =
    let tail : map (λ t. t.share) threads ≡ map (λ s. Some s) shares = cc in
    thread_of threads shares tail n s at

module _ {S : Type 0} (tree : S → Option Contents) (weak : S → List Path) (faults : S → ℕ) (calls : S → Calls) (root : Path) (p : Run) where
  -- each worker came back
  gives_idle : (kind : Kind) (a b : Worker) (f : Findings) (given got : Option S) → GivesTree tree weak faults calls root p kind a b f given got → (n : ℕ) (s : Share) → IsIdle p n s a → (r : Share) × IsIdle p n r b
  gives_idle kind a b f None None h n s idle = let r = (h.0 None).back n s idle in (r.0, r.1)
  gives_idle kind a b f (Some u) (Some v) h n s idle = let r = h.2.back n s idle in (r.0, r.1)
  gives_idle kind a b f None (Some v) h n s idle = absurd h
  gives_idle kind a b f (Some u) None h n s idle = absurd h

  -- with pieces of the tree that all tell
  gives_back : (o : Option Contents) (kind : Kind) (a b : Worker) (f : Findings) (given got : Option S) → ((s : S) → given ≡ Some s → tree s ≡ o) → GivesTree tree weak faults calls root p kind a b f given got
      → ComesBack o root f.pieces.items p a b
  gives_back o kind a b f None None shows_it h = (h.0 o).back
  gives_back o kind a b f (Some u) (Some v) shows_it h = subst (λ (q : Option Contents). ComesBack q root f.pieces.items p a b) (shows_it u refl) h.2.back
  gives_back o kind a b f None (Some v) shows_it h = absurd h
  gives_back o kind a b f (Some u) None shows_it h = absurd h

  -- the caller and the workers that came back may close the package
  pub all_done : (walkers n : ℕ) (threads : List Worker) (caller last : Worker) (back : List Worker) (findings : List Findings) (old new : List (Option S)) → Each (IsFirst p no_share) threads
      → get_elem? threads 0 ≡ some caller → HasCalled None [] [] p 0 0 caller last
      → Each (HasWorked tree weak faults calls root p walkers n (remove threads 0) findings old new) back → Each (IsDone p) (last ∷ back)
  all_done walkers n threads caller last back findings old new firsts own called worked zero t e =
      let r = called.back 0 blank (idle_first p no_share 0 caller (firsts 0 caller own)) in
      subst (λ (u : Worker). IsDone p 0 u) (some-injective last t e) (idle_done p 0 r.0 last r.1)
  all_done walkers n threads caller last back findings old new firsts own called worked (suc k) t e =
      let w = worked k t e in
      let first = firsts (suc k) w.was (past_first threads k w.was w.is_was) in
      let idle = gives_idle (kind_at walkers k) w.was t w.found (tree_at n old k) (tree_at n new k) w.gives (suc k) blank (idle_first p no_share (suc k) w.was first) in
      idle_done p (suc k) idle.0 t idle.1

  -- what each worker came by
  pub all_found_by : (walkers n : ℕ) (threads : List Worker) (last : Worker) (back all : List Worker) (findings : List Findings) (old new : List (Option S)) → Each (IsFirst p no_share) threads
      → length findings ≡ length back → all ≡ last ∷ back → Each (HasWorked tree weak faults calls root p walkers n (remove threads 0) findings old new) back
      → Each (IsFoundBy tree weak faults calls root walkers n all old new) findings
  all_found_by walkers n threads last back all findings old new firsts many is worked k f e =
      let within = (from_at findings k f e).0 in
      let there = some_at back k (omega arith) in
      let w = worked k there.0 there.1 in
      let first = firsts (suc k) w.was (past_first threads k w.was w.is_was) in
      let same : w.found ≡ f = some-injective w.found f (sym w.is_found ∙ e) in
      record {
        run = p;
        first = w.was;
        nothing = first.mine;
        last = there.0;
        is_last = ap (λ (l : List Worker). get_elem? l (suc k)) is ∙ there.1;
        gives = subst (λ (g : Findings). GivesTree tree weak faults calls root p (kind_at walkers k) w.was there.0 g (tree_at n old k) (tree_at n new k)) same w.gives;
      }

  module _ (o : Option Contents) (walkers n : ℕ) (threads : List Worker) (caller last : Worker) (back : List Worker) (findings : List Findings) (old new : List (Option S))
      (shows : AllShow tree o old) (firsts : Each (IsFirst p no_share) threads) (own : get_elem? threads 0 ≡ some caller) (called : HasCalled o root [] p 0 0 caller last)
      (worked : Each (HasWorked tree weak faults calls root p walkers n (remove threads 0) findings old new) back) where
    back_at : (k : ℕ) (t : Worker) → (e : get_elem? back k ≡ some t) → let w = worked k t e in ComesBack o root w.found.pieces.items p w.was t
    back_at k t e = let w = worked k t e in gives_back o (kind_at walkers k) w.was t w.found (tree_at n old k) (tree_at n new k) (λ s is. shows k s (tree_of n old k s is)) w.gives

    -- whatever share put what at the buffer of pieces
    all_puts : (k : ℕ) (t : Worker) → get_elem? (last ∷ back) k ≡ some t → (s : Share) → t.share ≡ Some s → AllPut (IsPieceItem o root) 2 s
    all_puts zero t e s at = puts_first o root [] p 0 caller last (firsts 0 caller own) called.back s (ap (λ (u : Worker). u.share) (some-injective last t e) ∙ at)
    all_puts (suc k) t e s at =
        let w = worked k t e in
        puts_first o root w.found.pieces.items p (suc k) w.was t (firsts (suc k) w.was (past_first threads k w.was w.is_was)) (back_at k t e) s at

    -- the pieces that are left are of files of the tree
    pub all_pieces : (values : List IndexValue) → length values ≡ 3 → KeepsLocks (KeepsWork p.world) (last ∷ back) values → length findings ≡ length back → All (IsFilesPiece o root) (flat_map (λ f. f.pieces.items) findings)
    all_pieces values three keeps many = flat findings (λ k f e.
        let within = (from_at findings k f e).0 in
        let there = some_at back k (omega arith) in
        let w = worked k there.0 there.1 in
        let same : w.found ≡ f = some-injective w.found f (sym w.is_found ∙ e) in
        let s = share_of (last ∷ back) keeps.shares keeps.each_share (suc k) there.0 there.1 in
        subst (λ (g : Findings). All (IsFilesPiece o root) g.pieces.items) same
        (pieces_first o root w.found.pieces.items p (suc k) w.was there.0 (firsts (suc k) w.was (past_first threads k w.was w.is_was)) (back_at k there.0 there.1) s.0 s.2
        (taken_fit p.world values keeps.shares keeps.kept (IsPieceItem o root) 2 (let low = three in omega arith)
        (λ j u at. let t = thread_of (last ∷ back) keeps.shares keeps.each_share j u at in all_puts j t.0 t.1 u t.2)
        (suc k) s.0 s.1)))
      where
        flat : (fs : List Findings) → Each (λ k f. All (IsFilesPiece o root) f.pieces.items) fs → All (IsFilesPiece o root) (flat_map (λ f. f.pieces.items) fs)
        flat [] h = All-nil (IsFilesPiece o root)
        flat (f ∷ fs) h = All-append (IsFilesPiece o root) f.pieces.items (flat_map (λ g. g.pieces.items) fs) (h 0 f refl) (flat fs (λ k g e. h (suc k) g e))
