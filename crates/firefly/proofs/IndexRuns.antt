-- What an index run says of the trees that were handed in.
use Rattle.std.proofs.Common.{◌≡◌, ⊎_elim, ℕ, suc, ◌+◌, ◌-◌, ◌<◌, ◌≤◌, Bool, true, false, List, ◌++◌, length, Option, Some, None, refl, sym, ap, subst, ◌∙◌, arith}
use Rattle.std.specs.Prelude.{IfSome, slice_index_or}
use Rattle.std.proofs.lemmas.Bool.{cases_lt, cases_eq}
use Rattle.std.proofs.lemmas.Option.{same_Some}
use mathlib.Core.Option.{some}
use lib.ListN.{get_elem?}
use Rattle.firefly_outside.specs.Trees.{Path, Contents, Calls}
use Rattle.firefly_outside.specs.declared.tree.Kind.{Kind}
use Rattle.firefly_outside.specs.declared.tree.Kind.TheVariants.{File, Dir}
use Rattle.larch_actions.specs.declared.event.Event.{Event}
use Rattle.larch_actions.specs.Actions.{by_thread}
use Rattle.nub.specs.Ended.{Ended}
use Rattle.indexer.specs.declared.plan.Plan.{Plan}
use Rattle.index_rule.specs.declared.value.IndexValue.{IndexValue}
use Rattle.indexer.specs.Says as says
use Rattle.indexer.specs.Turns.{Worker, release_count}
use Rattle.index_rule.specs.Shares.{Share}
use Rattle.indexer.specs.Once.{AreSince, IsEachOnce}
use Rattle.command_line.specs.Grammar.{Options}
use Rattle.firefly.specs.IndexRun.{AreAskedOnce, AreSpared, NoneRose, OnlyLists, OnlyReads, CallsOf, kind_of_worker, IsAt, ShowsWork, FailedAt, plan_of}
use Rattle.firefly.specs.Looks.{Look, look_at, look_of, looks_of, reported_by, IsSameTree, KeepTrees}
use Rattle.firefly.proofs.Places.{Back, Owned, among_at, look_there, place_of, sees, seen}
use Rattle.firefly.proofs.Spared.{all_once}

-- the history, where there is one, is the plan's, and each thread's part of it is its own events
own_part : (plan : Plan) (c : Ended IndexValue Share Path) (h : List Event) → says.IsRunOf plan c → c.trace ≡ Some h → (n : ℕ) (t : Worker) → get_elem? c.threads n ≡ some t → by_thread n h ≡ t.mine
own_part plan c h run e n t at = by_traced plan.traced refl
  where
    by_traced : (b : Bool) → plan.traced ≡ b → by_thread n h ≡ t.mine
    by_traced false is = absurd (let none = run.untraced is in cc)
    by_traced true is = let w = run.traced is in subst (λ (l : List Event). by_thread n l ≡ t.mine) (same_Some w.0 h (sym w.1 ∙ e)) (w.2.own n t at)

if_some : {A : Type 0} (x : Option A) (P Q : A → Type 0) → ((a : A) → P a → Q a) → IfSome x P → IfSome x Q
if_some None P Q f h = tt
if_some (Some a) P Q f h = f a h

module _ {S : Type 0} (tree : S → Option Contents) (weak : S → List Path) (faults : S → ℕ) (calls : S → Calls) where
  abbrev look : S → Look
  look s = look_of tree weak calls faults s

  same_look : (s : S) → IsSameTree (look s) (look s)
  same_look s = record { reported = refl; weak = refl; count = omega arith }

  is_same : (s r : S) → says.IsBack tree weak faults calls s r → IsSameTree (look s) (look r)
  is_same s r h = record { reported = h.same_tree; weak = h.same_weak; count = h.count }

  -- each tree is back
  pub all_back : (n : ℕ) (old new : List (Option S)) → says.AreBack tree weak faults calls n old new → Back look old new
  all_back n old new h k s e = ⊎_elim
      (λ low. let w = h.workers k s low e in (w.0, w.1, is_same s w.0 w.2))
      (λ high. ⊎_elim
      (λ here. let w = h.closing s (ap (λ i. slice_index_or old i None) (sym here) ∙ e) in (w.0, ap (λ i. slice_index_or new i None) here ∙ w.1, is_same s w.0 w.2))
      (λ apart. (s, h.others k None (omega (arith, high, apart)) ∙ e, same_look s))
      (cases_eq k n))
      (cases_lt k n)

  -- what is left is in its place
  pub all_own : (n : ℕ) (old new : List (Option S)) → says.AreLeft tree weak faults calls n old new → Owned look old new
  all_own n old new h k r e = let w = h.own k r e in (w.0, w.1, is_same w.0 r w.2)

  -- no count rose
  abbrev pub AreStill : List (Option S) → List (Option S) → Type 0
  AreStill old new = (k : ℕ) (s r : S) → slice_index_or old k None ≡ Some s → slice_index_or new k None ≡ Some r → faults r ≡ faults s

  pub all_still : (walkers n : ℕ) (threads : List Worker) (old new : List (Option S)) → says.AreBack tree weak faults calls n old new → says.AreUsed tree weak faults calls walkers n threads old new → AreStill old new
  all_still walkers n threads old new back used k s r e f = ⊎_elim
      (λ low. (used.workers k s r low e f).none_rose)
      (λ high. ⊎_elim
      (λ here. used.closing s r (ap (λ i. slice_index_or old i None) (sym here) ∙ e) (ap (λ i. slice_index_or new i None) (sym here) ∙ f))
      (λ apart. ap faults (sym (same_Some s r (sym e ∙ (sym (back.others k None (omega (arith, high, apart))) ∙ f)))))
      (cases_eq k n))
      (cases_lt k n)

  pub no_rise : (old new : List (Option S)) → AreStill old new → NoneRose (looks_of look old) (looks_of look new)
  no_rise old new still a b among =
      let p = place_of (looks_of look old) (looks_of look new) a b among in
      let s = seen look old p.0 a p.1 in
      let r = seen look new p.0 b p.2 in
      ap (λ (l : Look). l.faults) (sym r.2) ∙ (still p.0 s.0 r.0 s.1 r.1 ∙ ap (λ (l : Look). l.faults) s.2)

  -- of a tree at its place, by its look
  by_looks : (P : Look → Look → Type 0) (old new : List (Option S)) (k : ℕ) (a b : Look) → IsAt (looks_of look old) (looks_of look new) k a b
      → ((s r : S) → slice_index_or old k None ≡ Some s → slice_index_or new k None ≡ Some r → P (look s) (look r)) → P a b
  by_looks P old new k a b at h =
      let s = seen look old k a at.before_there in
      let r = seen look new k b at.now_there in
      subst (λ (x : Look). P x b) s.2 (subst (λ (y : Look). P (look s.0) y) r.2 (h s.0 r.0 s.1 r.1))

  -- what a worker's tree tells of its calls, by the events of its thread
  seen_calls : (kind : Kind) (s r : S) (own : List Event) (thread : Worker) → own ≡ thread.mine → IfSome (tree s) (λ t. says.OnlyCalls kind (calls s) (calls r) thread) → IfSome (tree s) (λ t. CallsOf kind (calls s) (calls r) own)
  seen_calls Dir s r own thread is h = if_some (tree s) (λ t. says.OnlyLists (calls s) (calls r) thread) (λ t. OnlyLists (calls s) (calls r) own) (λ t l. record {
    dirs = l.dirs;
    listed = l.listed;
    read = l.read;
    times = subst (λ (es : List Event). length l.dirs ≤ release_count 0 es) (sym is) l.times;
  }) h
  seen_calls File s r own thread is h = if_some (tree s) (λ t. says.OnlyReads (calls s) (calls r) thread) (λ t. OnlyReads (calls s) (calls r) own) (λ t l. record {
    files = l.files;
    listed = l.listed;
    read = l.read;
    times = subst (λ (es : List Event). length l.files ≤ release_count 1 es) (sym is) l.times;
  }) h

  -- the work of the walkers and the parsers is in the history
  pub shows_work : (o : Options) (traced : Bool) (c : Ended IndexValue Share Path) (old new : List (Option S)) → says.IsRunOf (plan_of o traced) c
      → says.AreUsed tree weak faults calls o.walkers (o.walkers + o.parsers) c.threads old new → (h : List Event) → c.trace ≡ Some h → ShowsWork o (looks_of look old) (looks_of look new) h
  shows_work o traced c old new run used h e k a b low at = by_looks (λ x y. IfSome x.reported (λ t. CallsOf (kind_of_worker o k) x.calls y.calls (by_thread (suc k) h))) old new k a b at (λ s r es er.
      let w = used.workers k s r low es er in
      seen_calls (kind_of_worker o k) s r (by_thread (suc k) h) w.thread (own_part (plan_of o traced) c h run e (suc k) w.thread w.is_thread) w.calls_only)

  -- what was listed or read on the trees, by their looks
  since_seen : (of : Calls → List Path) (n : ℕ) (old new : List (Option S)) (lists : List (List Path)) → AreSince calls of n old new lists → AreSince (λ (l : Look). l.calls) of n (looks_of look old) (looks_of look new) lists
  since_seen of n old new lists h = record {
    many = h.many;
    since = λ k a b paths before now at.
        let s = seen look old k a before in
        let r = seen look new k b now in
        subst (λ (x : Look). of b.calls ≡ of x.calls ++ paths) s.2 (subst (λ (y : Look). of y.calls ≡ of (calls s.0) ++ paths) r.2 (h.since k s.0 r.0 paths s.1 r.1 at));
  }

  -- a tree that wasn't touched looks as before
  pub still_spared : (o : Options) (old new : List (Option S)) → ((i : ℕ) (d : Option S) → o.walkers + o.parsers < i → slice_index_or new i d ≡ slice_index_or old i d)
      → AreSpared o (looks_of look old) (looks_of look new)
  still_spared o old new others k low = look_there look new k ∙ (ap (look_at look) (others k None low) ∙ sym (look_there look old k))

  once_seen : (n : ℕ) (t : Contents) (root : Path) (old new : List (Option S)) → IsEachOnce calls t root n old new → IsEachOnce (λ (l : Look). l.calls) t root n (looks_of look old) (looks_of look new)
  once_seen n t root old new e = record {
    listed = e.listed;
    listed_since = since_seen (λ c. c.listed) n old new e.listed e.listed_since;
    listed_once = e.listed_once;
    listed_all = e.listed_all;
    read = e.read;
    read_since = since_seen (λ c. c.files_read) n old new e.read e.read_since;
    read_once = e.read_once;
    read_all = e.read_all;
  }

  -- each directory was listed once, and each file read once, over all trees
  pub asked_once : (o : Options) (reported : Option Contents) (old new : List (Option S)) → reported_by (looks_of look old) ≡ reported → o.walkers + o.parsers < length (looks_of look old)
      → AreSpared o (looks_of look old) (looks_of look new) → IfSome reported (λ t. IsEachOnce calls t o.directory (o.walkers + o.parsers) old new) → AreAskedOnce o (looks_of look old) (looks_of look new)
  asked_once o reported old new first wide spared h =
      let n = o.walkers + o.parsers in
      let m = length (looks_of look old) - 1 - n in
      let all : n + m ≡ length (looks_of look old) - 1 = omega arith in
      subst (λ (q : Option Contents). IfSome q (λ t. IsEachOnce (λ (l : Look). l.calls) t o.directory (length (looks_of look old) - 1) (looks_of look old) (looks_of look new))) (sym first)
      (if_some reported (λ t. IsEachOnce calls t o.directory n old new) (λ t. IsEachOnce (λ (l : Look). l.calls) t o.directory (length (looks_of look old) - 1) (looks_of look old) (looks_of look new))
      (λ t e. subst (λ (k : ℕ). IsEachOnce (λ (l : Look). l.calls) t o.directory k (looks_of look old) (looks_of look new)) all
      (all_once (λ (l : Look). l.calls) n m (looks_of look old) (looks_of look new) spared t o.directory (once_seen n t o.directory old new e))) h)

  -- the path that is answered is one at which a call on a tree failed
  pub failed_at : (o : Options) (old new : List (Option S)) (path : Path) → KeepTrees (looks_of look old) (looks_of look new) → says.IsCausedAt tree weak faults calls o.directory old new path
      → FailedAt o (looks_of look old) (looks_of look new) path
  failed_at o old new path keep h = record {
    before = look h.s;
    now = look h.r;
    among = among_at (looks_of look old) (looks_of look new) keep h.place (look h.s) (look h.r) (sees look old h.place h.s h.was) (sees look new h.place h.r h.is);
    rose = h.rose;
    reported = h.reported;
  }
