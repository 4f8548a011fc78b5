-- What calls add to the share of their thread.
use Rattle.std.proofs.Common.{◌≡◌, ◌≢◌, ◌⊎◌, ℕ, ◌+◌, ◌-◌, List, [], ◌∷◌, ◌++◌, Option, Some, None, Result, Ok, Err, inl, inr, sym, ap, subst, ◌∙◌, refl, arith, append_assoc, append-nil, drop, length, length-append, ⊎_elim, true}
use Rattle.std.specs.Prelude.{Contains, All, IfOk, IfSome}
use Rattle.std.specs.Option.{option_to_list}
use Rattle.std.proofs.Math.Seq.{drop-append_seam}
use Rattle.std.proofs.lemmas.List.{drop_all}
use Rattle.std.proofs.lemmas.List.Elements.{All-cons, All-contains_itself, All-head, All-nil, All-tail, All-weaker, Contains-append_cases, Contains-append_right}
use Rattle.std.proofs.lemmas.List.Concat.{flat_map-append}
use Rattle.std.proofs.lemmas.Option.{same_Some}
use Rattle.bounded_buffer.specs.declared.did.Did.{Did}
use Rattle.bounded_buffer.specs.declared.did.Did.TheVariants.{Shut}
use Rattle.bounded_buffer.specs.declared.ends.PutEnd.{PutEnd}
use Rattle.bounded_buffer.specs.declared.ends.PutEnd.TheVariants.{Closed, Alerted as PutAlerted}
use Rattle.bounded_buffer.specs.declared.ends.TakeEnd.{TakeEnd}
use Rattle.bounded_buffer.specs.declared.ends.TakeEnd.TheVariants.{ClosedEmpty, Alerted as TakeAlerted}
use Rattle.bounded_buffer.specs.Calls.{Looked, Ran, HasShut, did_last, put_did, take_did, wait_count}
use Rattle.bounded_buffer.specs.Parts.{Used, more_full, more_empty}
use Rattle.bounded_buffer.specs.Plain.{part_of, put_did as did_put, take_did as did_take}
use Rattle.firefly_outside.specs.Trees.{Path, Contents}
use Rattle.larch_actions.specs.declared.event.Event.{Event}
use Rattle.nub.specs.Idle.{IsIdle}
use Rattle.nub.specs.Rest.{Adds, IsSame}
use Rattle.nub_rule.specs.Plays.{broadcast_action, event}
use Rattle.index_rule.specs.Children.{IsBelow}
use Rattle.index_rule.specs.Counting.{contains_head, contains_nil, contains_one, contains_tail, distinct_across, distinct_cons, distinct_head, distinct_nil, distinct_tail}
use Rattle.index_rule.specs.Distinct.{AreDisjoint}
use Rattle.index_rule.specs.Notes.{child_more}
use Rattle.index_rule.specs.Shares.{Share, AreAlike, IsChildOfTook, IsItemAt, MayPut, covered, noted, paths_of, paths_in, paths_put, paths_taken}
use Rattle.index_rule.specs.Lists.{ArePut, IsPutSo}
use Rattle.index_rule.specs.Work.{IsAfter, IsNewTo, ItemFits, MayChange, MovesCounts, MovesDirs, dirs_of, files_of, moved, moved_by, ring_in, ring_of, waiting_of}
use Rattle.index_rule.specs.declared.dirs.PutDirs.{PutDirs}
use Rattle.index_rule.specs.declared.dirs.PutDirs.TheVariants.{Within, Passed, Memory}
use Rattle.index_rule.specs.declared.value.IndexItem.{IndexItem}
use Rattle.index_rule.specs.declared.value.IndexItem.TheVariants.{File, Piece}
use Rattle.index_rule.specs.declared.value.IndexValue.{IndexValue}
use Rattle.index_rule.specs.declared.value.IndexValue.TheVariants.{Dirs, Ring}
use Rattle.index_rule.specs.declared.value.DirsInWork.{DirsInWork}
use Rattle.index_rule.specs.declared.value.FoundCounts.{FoundCounts}
use Rattle.indexer.specs.Gets.{Counts, More, nothing, Grows, Gets, IsNewFile, Makes, MayPutAll, OfShare, moved_more}
use Rattle.indexer.specs.Taken.{path_of, piece_in, piece_of}
use Rattle.word_index.specs.Index.{Index}
use Rattle.std.specs.List.{flat_map}
use Rattle.indexer.specs.Turns.{Worker, Run, HasCalled, HasList, HasWoken, IsBetween}
use Rattle.indexer.proofs.Turning.{called_none, called_then, called_idle, still_between}

pub grows_none : (root : Path) (s : Share) → Grows root nothing s s
grows_none root s = record { took = refl; put = refl; files_put = refl; files_taken = refl; pieces_put = refl; pieces_taken = refl }

abbrev pub joined : More → More → More
joined first second = record {
  took = second.took ++ first.took;
  put = second.put ++ first.put;
  files_put = second.files_put ++ first.files_put;
  files_taken = second.files_taken ++ first.files_taken;
  pieces_put = second.pieces_put ++ first.pieces_put;
  pieces_taken = second.pieces_taken ++ first.pieces_taken;
}

on : (xs ys zs us vs : List Path) → us ≡ ys ++ vs → zs ≡ xs ++ us → zs ≡ (xs ++ ys) ++ vs
on xs ys zs us vs first second = second ∙ (ap (λ l. xs ++ l) first ∙ sym (append_assoc xs ys vs))

pub grows_on : (root : Path) (m n : More) (s r u : Share) → Grows root m s r → Grows root n r u → Grows root (joined m n) s u
grows_on root m n s r u a b = record {
  took = on n.took m.took u.took r.took s.took a.took b.took;
  put = on n.put m.put u.put r.put s.put a.put b.put;
  files_put = on n.files_put m.files_put _ _ _ a.files_put b.files_put;
  files_taken = on n.files_taken m.files_taken _ _ _ a.files_taken b.files_taken;
  pieces_put = on n.pieces_put m.pieces_put _ _ _ a.pieces_put b.pieces_put;
  pieces_taken = on n.pieces_taken m.pieces_taken _ _ _ a.pieces_taken b.pieces_taken;
}

-- and one that adds nothing
pub grows_after : (root : Path) (m : More) (s r u : Share) → Grows root nothing s r → Grows root m r u → Grows root m s u
grows_after root m s r u a b = record {
  took = b.took ∙ ap (λ l. m.took ++ l) a.took;
  put = b.put ∙ ap (λ l. m.put ++ l) a.put;
  files_put = b.files_put ∙ ap (λ l. m.files_put ++ l) a.files_put;
  files_taken = b.files_taken ∙ ap (λ l. m.files_taken ++ l) a.files_taken;
  pieces_put = b.pieces_put ∙ ap (λ l. m.pieces_put ++ l) a.pieces_put;
  pieces_taken = b.pieces_taken ∙ ap (λ l. m.pieces_taken ++ l) a.pieces_taken;
}

pub grows_before : (root : Path) (m : More) (s r u : Share) → Grows root m s r → Grows root nothing r u → Grows root m s u
grows_before root m s r u a b = record {
  took = b.took ∙ a.took;
  put = b.put ∙ a.put;
  files_put = b.files_put ∙ a.files_put;
  files_taken = b.files_taken ∙ a.files_taken;
  pieces_put = b.pieces_put ∙ a.pieces_put;
  pieces_taken = b.pieces_taken ∙ a.pieces_taken;
}

pub gets_none : (p : Run) (a : Worker) → Gets p nothing a a
gets_none p a s at = (s, at, grows_none p.world s)

pub gets_on : (p : Run) (m n : More) (a b c : Worker) → Gets p m a b → Gets p n b c → Gets p (joined m n) a c
gets_on p m n a b c first second s at = let r = first s at in let u = second r.0 r.1 in (u.0, u.1, grows_on p.world m n s r.0 u.0 r.2 u.2)

pub gets_after : (p : Run) (m : More) (a b c : Worker) → Gets p nothing a b → Gets p m b c → Gets p m a c
gets_after p m a b c first second s at = let r = first s at in let u = second r.0 r.1 in (u.0, u.1, grows_after p.world m s r.0 u.0 r.2 u.2)

pub gets_before : (p : Run) (m : More) (a b c : Worker) → Gets p m a b → Gets p nothing b c → Gets p m a c
gets_before p m a b c first second s at = let r = first s at in let u = second r.0 r.1 in (u.0, u.1, grows_before p.world m s r.0 u.0 r.2 u.2)

-- a call that leaves the share
pub gets_idle : (p : Run) (a b : Worker) → IsBetween p a → ((n : ℕ) (s : Share) → IsIdle p n s a → IsIdle p n s b) → Gets p nothing a b
gets_idle p a b between idle s at =
    let same : between.1 ≡ s = same_Some between.1 s (sym between.2.share ∙ at) in
    (s, subst (λ u. b.share ≡ Some u) same (idle between.0 between.1 between.2).share, grows_none p.world s)

-- a call, and one after the other
pub makes_none : (p : Run) (a : Worker) → Makes p nothing a a
makes_none p a = record { called = λ o root m. called_none o root p m a; gets = gets_none p a }

pub makes_after : (p : Run) (m : More) (a b c : Worker) → Makes p nothing a b → Makes p m b c → Makes p m a c
makes_after p m a b c first second = record {
  called = λ o root k. called_then o root p k a b c (first.called o root k) (second.called o root k);
  gets = gets_after p m a b c first.gets second.gets;
}

pub makes_before : (p : Run) (m : More) (a b c : Worker) → Makes p m a b → Makes p nothing b c → Makes p m a c
makes_before p m a b c first second = record {
  called = λ o root k. called_then o root p k a b c (first.called o root k) (second.called o root k);
  gets = gets_before p m a b c first.gets second.gets;
}

pub makes_on : (p : Run) (m n : More) (a b c : Worker) → Makes p m a b → Makes p n b c → Makes p (joined m n) a c
makes_on p m n a b c first second = record {
  called = λ o root k. called_then o root p k a b c (first.called o root k) (second.called o root k);
  gets = gets_on p m n a b c first.gets second.gets;
}

pub makes_idle : (p : Run) (es : List Event) (e : Event) (a b : Worker) → IsBetween p a → Adds es e a b → ((n : ℕ) (s : Share) → IsIdle p n s a → IsIdle p n s b) → Makes p nothing a b
makes_idle p es e a b between adds idle = record { called = λ o root m. called_idle o root p m es e a b adds idle; gets = gets_idle p a b between idle }

pub makes_between : (p : Run) (m : More) (a b : Worker) → IsBetween p a → Makes p m a b → IsBetween p b
makes_between p m a b between made = still_between None [] [] p a b between (made.called None [] 0).back

-- who gave the list back called so
pub gave_makes : (p : Run) (m : More) (a b : Worker) → ((o : Option Contents) (root : Path) → HasCalled o root [] p 0 1 a b × ((k : ℕ) → HasCalled o root [] p k 0 a b)) → Gets p m a b → Makes p m a b
gave_makes p m a b called gets = record { called = λ o root. (called o root).1; gets = gets }

-- a broadcast of the list's condition was the last
pub woke : (b c : Worker) → Adds [] (event b.number (broadcast_action 0 [])) b c → IsSame b c → HasWoken c
woke b c adds same = (b.mine ++ [], adds.mine ∙ ap (λ n. (b.mine ++ []) ++ event n (broadcast_action 0 []) ∷ []) (sym same.number))

-- a call at a buffer leaves the directories
looked_dirs : (after : Path → ℕ → ℕ → IndexValue → IndexValue → Share → Share) → ((w : Path) (m t : ℕ) (x y : IndexValue) (s : Share) → ((after w m t x y s).took ≡ s.took) × ((after w m t x y s).put ≡ s.put))
    → (w : Path) (m t : ℕ) (d : Option (Did IndexItem)) (s looking r : Share) → AreAlike s looking → Looked ring_in (λ (u : Share) k. part_of u.notes k) after w m t d looking r → (r.took ≡ s.took) × (r.put ≡ s.put)
looked_dirs after keeps w m t None s looking r alike look = (ap (λ (u : Share). u.took) look ∙ sym alike.took, ap (λ (u : Share). u.put) look ∙ sym alike.put)
looked_dirs after keeps w m t (Some d) s looking r alike look =
    let k = keeps w m t look.0 look.1 looking in
    (ap (λ (u : Share). u.took) look.7 ∙ (k.0 ∙ sym alike.took), ap (λ (u : Share). u.put) look.7 ∙ (k.1 ∙ sym alike.put))

more_pairs : (root : Path) (ps qs rs : List (ℕ × IndexItem)) → rs ≡ ps ++ qs → paths_in root rs ≡ paths_in root ps ++ paths_in root qs
more_pairs root ps qs rs e = ap (paths_in root) e ∙ flat_map-append (λ (p : ℕ × IndexItem). paths_of root p.1) ps qs

-- these pairs were put and taken at one buffer
at_files : (root : Path) (s r : Share) (ps ts : List (ℕ × IndexItem)) → r.took ≡ s.took → r.put ≡ s.put → (part_of r.notes 1).puts ≡ ps ++ (part_of s.notes 1).puts → (part_of r.notes 1).takes ≡ ts ++ (part_of s.notes 1).takes
    → ((k : ℕ) → k ≢ 1 → part_of r.notes k ≡ part_of s.notes k) → Grows root (record nothing { files_put = paths_in root ps; files_taken = paths_in root ts }) s r
at_files root s r ps ts took put puts takes else = record {
  took = took;
  put = put;
  files_put = more_pairs root ps _ _ puts;
  files_taken = more_pairs root ts _ _ takes;
  pieces_put = ap (λ (u : Used IndexItem). paths_in root u.puts) (else 2 (λ e. omega arith));
  pieces_taken = ap (λ (u : Used IndexItem). paths_in root u.takes) (else 2 (λ e. omega arith));
}

at_pieces : (root : Path) (s r : Share) (ps ts : List (ℕ × IndexItem)) → r.took ≡ s.took → r.put ≡ s.put → (part_of r.notes 2).puts ≡ ps ++ (part_of s.notes 2).puts → (part_of r.notes 2).takes ≡ ts ++ (part_of s.notes 2).takes
    → ((k : ℕ) → k ≢ 2 → part_of r.notes k ≡ part_of s.notes k) → Grows root (record nothing { pieces_put = paths_in root ps; pieces_taken = paths_in root ts }) s r
at_pieces root s r ps ts took put puts takes else = record {
  took = took;
  put = put;
  files_put = ap (λ (u : Used IndexItem). paths_in root u.puts) (else 1 (λ e. omega arith));
  files_taken = ap (λ (u : Used IndexItem). paths_in root u.takes) (else 1 (λ e. omega arith));
  pieces_put = more_pairs root ps _ _ puts;
  pieces_taken = more_pairs root ts _ _ takes;
}

-- what a put put, and a take took
abbrev pub put_pairs : IndexItem → Result ℕ (PutEnd × IndexItem) → List (ℕ × IndexItem)
put_pairs i (Ok n) = (n, i) ∷ []
put_pairs i (Err e) = []

abbrev pub took_pairs : Result (ℕ × IndexItem) TakeEnd → List (ℕ × IndexItem)
took_pairs (Ok r) = (r.0, r.1) ∷ []
took_pairs (Err e) = []

put_puts : (i : IndexItem) (x : Result ℕ (PutEnd × IndexItem)) (k : ℕ) (u : Used IndexItem) → ((did_last (put_did i x) (more_full k u)).puts ≡ put_pairs i x ++ u.puts) × ((did_last (put_did i x) (more_full k u)).takes ≡ u.takes)
put_puts i (Ok n) k u = (refl, refl)
put_puts i (Err (Closed, j)) k u = (refl, refl)
put_puts i (Err (PutAlerted, j)) k u = (refl, refl)

take_takes : (x : Result (ℕ × IndexItem) TakeEnd) (k : ℕ) (u : Used IndexItem) → ((did_last (take_did x) (more_empty k u)).puts ≡ u.puts) × ((did_last (take_did x) (more_empty k u)).takes ≡ took_pairs x ++ u.takes)
take_takes (Ok r) k u = (refl, refl)
take_takes (Err ClosedEmpty) k u = (refl, refl)
take_takes (Err TakeAlerted) k u = (refl, refl)

abbrev pub part : Share → ℕ → Used IndexItem
part s m = part_of s.notes m

abbrev pub after_put : Path → ℕ → ℕ → IndexValue → IndexValue → Share → Share
after_put w m t x y s = noted m (did_put (ring_of x) (ring_of y)) s

abbrev pub after_take : Path → ℕ → ℕ → IndexValue → IndexValue → Share → Share
after_take w m t x y s = noted m (did_take (ring_of x)) s

abbrev pub after_shut : Path → ℕ → ℕ → IndexValue → IndexValue → Share → Share
after_shut w m t x y s = noted m Shut s

module _ (w : Path) (c o t : ℕ) (s : Share) (a b : Worker) where
  pub put_files_more : (i : IndexItem) (x : Result ℕ (PutEnd × IndexItem)) (ran : Ran ring_in part after_put AreAlike w 1 c o t more_full (put_did i x) s a b) → Grows w (record nothing { files_put = paths_in w (put_pairs i x) }) s ran.share
  put_files_more i x ran =
      let dirs = looked_dirs after_put (λ v m n y z u. (refl, refl)) w 1 t (put_did i x) s ran.looking ran.share ran.is_alike ran.looked in
      let now = put_puts i x _ (part s 1) in
      at_files w s ran.share (put_pairs i x) [] dirs.0 dirs.1 (ap (λ (u : Used IndexItem). u.puts) ran.here ∙ now.0) (ap (λ (u : Used IndexItem). u.takes) ran.here ∙ now.1) ran.elsewhere

  pub put_pieces_more : (i : IndexItem) (x : Result ℕ (PutEnd × IndexItem)) (ran : Ran ring_in part after_put AreAlike w 2 c o t more_full (put_did i x) s a b) → Grows w (record nothing { pieces_put = paths_in w (put_pairs i x) }) s ran.share
  put_pieces_more i x ran =
      let dirs = looked_dirs after_put (λ v m n y z u. (refl, refl)) w 2 t (put_did i x) s ran.looking ran.share ran.is_alike ran.looked in
      let now = put_puts i x _ (part s 2) in
      at_pieces w s ran.share (put_pairs i x) [] dirs.0 dirs.1 (ap (λ (u : Used IndexItem). u.puts) ran.here ∙ now.0) (ap (λ (u : Used IndexItem). u.takes) ran.here ∙ now.1) ran.elsewhere

  pub take_files_more : (x : Result (ℕ × IndexItem) TakeEnd) (ran : Ran ring_in part after_take AreAlike w 1 c o t more_empty (take_did x) s a b) → Grows w (record nothing { files_taken = paths_in w (took_pairs x) }) s ran.share
  take_files_more x ran =
      let dirs = looked_dirs after_take (λ v m n y z u. (refl, refl)) w 1 t (take_did x) s ran.looking ran.share ran.is_alike ran.looked in
      let now = take_takes x _ (part s 1) in
      at_files w s ran.share [] (took_pairs x) dirs.0 dirs.1 (ap (λ (u : Used IndexItem). u.puts) ran.here ∙ now.0) (ap (λ (u : Used IndexItem). u.takes) ran.here ∙ now.1) ran.elsewhere

  pub take_pieces_more : (x : Result (ℕ × IndexItem) TakeEnd) (ran : Ran ring_in part after_take AreAlike w 2 c o t more_empty (take_did x) s a b) → Grows w (record nothing { pieces_taken = paths_in w (took_pairs x) }) s ran.share
  take_pieces_more x ran =
      let dirs = looked_dirs after_take (λ v m n y z u. (refl, refl)) w 2 t (take_did x) s ran.looking ran.share ran.is_alike ran.looked in
      let now = take_takes x _ (part s 2) in
      at_pieces w s ran.share [] (took_pairs x) dirs.0 dirs.1 (ap (λ (u : Used IndexItem). u.puts) ran.here ∙ now.0) (ap (λ (u : Used IndexItem). u.takes) ran.here ∙ now.1) ran.elsewhere

  shut_dirs : (m : ℕ) (shut : HasShut ring_in part after_shut w m c o t s a b) → (shut.share.took ≡ s.took) × (shut.share.put ≡ s.put)
  shut_dirs m shut = let look = shut.looked in (ap (λ (u : Share). u.took) look.7, ap (λ (u : Share). u.put) look.7)

  pub shut_files_more : (shut : HasShut ring_in part after_shut w 1 c o t s a b) → Grows w nothing s shut.share
  shut_files_more shut =
      let dirs = shut_dirs 1 shut in
      at_files w s shut.share [] [] dirs.0 dirs.1 (ap (λ (u : Used IndexItem). u.puts) shut.here) (ap (λ (u : Used IndexItem). u.takes) shut.here) shut.elsewhere

  pub shut_pieces_more : (shut : HasShut ring_in part after_shut w 2 c o t s a b) → Grows w nothing s shut.share
  shut_pieces_more shut =
      let dirs = shut_dirs 2 shut in
      at_pieces w s shut.share [] [] dirs.0 dirs.1 (ap (λ (u : Used IndexItem). u.puts) shut.here) (ap (λ (u : Used IndexItem). u.takes) shut.here) shut.elsewhere

-- what holds of the share after a call, where it follows from what held before and what was added
pub of_after : (p : Run) (more : More) (a b : Worker) (P Q : Share → Type 0) → IsBetween p a → Gets p more a b → OfShare a P → ((s r : Share) → Grows p.world more s r → P s → Q r) → OfShare b Q
of_after p more a b P Q between gets was step r at =
    let s = between.1 in
    let got = gets s between.2.share in
    subst Q (same_Some got.0 r (sym got.1 ∙ at)) (step s got.0 got.2 (was s between.2.share))

-- the list of directories changes: directories leave its end, or come there
pub list_moves : (root : Path) (x : IndexValue) (d : DirsInWork) (s : Share) → IsAfter 0 x → MovesDirs (waiting_of x) d.list.waiting.items s (moved_by x (Dirs d) s) → MovesCounts x (Dirs d) s (moved_by x (Dirs d) s)
    → MayChange root 0 x (Dirs d) s (moved_by x (Dirs d) s)
list_moves root (Dirs e) d s kind go counts = record { kind = refl; moves = (go, counts) }
list_moves root (Ring q) d s kind go counts = absurd (kind refl)

moved_grows : (root : Path) (xs ys : List Path) (n : ℕ) (s : Share) → Grows root (moved_more (drop (length ys) xs) (drop (length xs) ys)) s (moved xs ys n s)
moved_grows root xs ys n s = record { took = refl; put = refl; files_put = refl; files_taken = refl; pieces_put = refl; pieces_taken = refl }

pub list_gets : (p : Run) (a b c : Worker) (x : IndexValue) (ys : List Path) (n : ℕ) (has : HasList p a x b) → c.share ≡ Some (moved (waiting_of x) ys n has.own) → Gets p (moved_more (drop (length ys) (waiting_of x)) (drop (length (waiting_of x)) ys)) a c
list_gets p a b c x ys n has share s at =
    let same : has.own ≡ s = same_Some has.own s (sym has.was ∙ at) in
    (moved (waiting_of x) ys n s, subst (λ (u : Share). c.share ≡ Some (moved (waiting_of x) ys n u)) same share, moved_grows p.world (waiting_of x) ys n s)

gone_is : (xs ys gone : List Path) → xs ≡ ys ++ gone → drop (length ys) xs ≡ gone
gone_is xs ys gone e = ap (drop (length ys)) e ∙ drop-append_seam ys gone

none_comes : (xs ys gone : List Path) → xs ≡ ys ++ gone → drop (length xs) ys ≡ []
none_comes xs ys gone e = drop_all (length xs) ys (let l = ap length e in let m = length-append ys gone in omega arith)

pub take_moves : (xs ys gone : List Path) (n : ℕ) (s : Share) → xs ≡ ys ++ gone → MovesDirs xs ys s (moved xs ys n s)
take_moves xs ys gone n s e = record {
  rest = ys;
  gone = gone;
  come = [];
  was = e;
  is = sym (append-nil ys);
  share = ap (λ l. record s { took = l ++ s.took; put = drop (length xs) ys ++ s.put; files = s.files + n }) (gone_is xs ys gone e) ∙ ap (λ l. record s { took = gone ++ s.took; put = l ++ s.put; files = s.files + n }) (none_comes xs ys gone e);
  from = All-nil (IsChildOfTook s);
  once = distinct_nil;
  new = λ d k. absurd (contains_nil d k);
}

pub take_more : (xs ys gone : List Path) → xs ≡ ys ++ gone → moved_more (drop (length ys) xs) (drop (length xs) ys) ≡ moved_more gone []
take_more xs ys gone e = ap (λ l. moved_more l (drop (length xs) ys)) (gone_is xs ys gone e) ∙ ap (λ l. moved_more gone l) (none_comes xs ys gone e)

-- nothing was counted where none came
pub take_counts : (x : IndexValue) (d : DirsInWork) (gone : List Path) (s : Share) → waiting_of x ≡ d.list.waiting.items ++ gone → d.found.dirs ≡ dirs_of x → d.found.files ≡ files_of x → MovesCounts x (Dirs d) s (moved_by x (Dirs d) s)
take_counts x d gone s e dirs files = record {
  dirs = ap (λ n. n + length s.put) dirs ∙ ap (λ (l : List Path). dirs_of x + length (l ++ s.put)) (sym (none_comes (waiting_of x) d.list.waiting.items gone e));
  files = omega arith;
}

pub put_moves : (xs ys come : List Path) (n : ℕ) (s : Share) → ys ≡ xs ++ come → MayPutAll come s.put s → MovesDirs xs ys s (moved xs ys n s)
put_moves xs ys come n s e may = record {
  rest = xs;
  gone = [];
  come = come;
  was = sym (append-nil xs);
  is = e;
  share = ap (λ l. record s { took = l ++ s.took; put = drop (length xs) ys ++ s.put; files = s.files + n }) (none_comes ys xs come e) ∙ ap (λ l. record s { took = s.took; put = l ++ s.put; files = s.files + n }) (gone_is ys xs come e);
  from = may.from;
  once = may.once;
  new = may.new;
}

pub put_more : (xs ys come : List Path) → ys ≡ xs ++ come → moved_more (drop (length ys) xs) (drop (length xs) ys) ≡ moved_more [] come
put_more xs ys come e = ap (λ l. moved_more l (drop (length xs) ys)) (none_comes ys xs come e) ∙ ap (λ l. moved_more [] l) (gone_is ys xs come e)

-- those that came were counted, and so many files
put_counts : (d e : DirsInWork) (found : List Path) (n : ℕ) (s : Share) → ArePut found n d e → MovesCounts (Dirs d) (Dirs e) s (moved_by (Dirs d) (Dirs e) s)
put_counts d e found n s put =
    let come = ap (λ (l : List Path). length (l ++ s.put)) (gone_is e.list.waiting.items d.list.waiting.items found put.waiting) in
    let both = length-append found s.put in
    let dirs = put.dirs in
    let files = put.files in
    record { dirs = omega arith; files = omega arith }

-- the directories were put, or nothing changed
put_either : (found : List Path) (n : ℕ) (d e : DirsInWork) (end : PutDirs) → IsPutSo found n d e end → ArePut found n d e ⊎ ((e.list.waiting.items ≡ d.list.waiting.items) × (e.found ≡ d.found))
put_either found n d e Within h = inl h.0
put_either found n d e Passed h = inl h.0
put_either found n d e Memory h = inr h

pub put_goes : (found : List Path) (n : ℕ) (d e : DirsInWork) (end : PutDirs) (s : Share) → IsPutSo found n d e end → MayPutAll found s.put s
    → MovesDirs d.list.waiting.items e.list.waiting.items s (moved_by (Dirs d) (Dirs e) s) × MovesCounts (Dirs d) (Dirs e) s (moved_by (Dirs d) (Dirs e) s)
put_goes found n d e end s h may = ⊎_elim
    (λ (put : ArePut found n d e). (put_moves d.list.waiting.items e.list.waiting.items found (e.found.files - d.found.files) s put.waiting may, put_counts d e found n s put))
    (λ (same : (e.list.waiting.items ≡ d.list.waiting.items) × (e.found ≡ d.found)).
    let none = sym same.0 ∙ sym (append-nil e.list.waiting.items) in (
      take_moves d.list.waiting.items e.list.waiting.items [] (e.found.files - d.found.files) s none,
      take_counts (Dirs d) e [] s none (ap (λ (c : FoundCounts). c.dirs) same.1) (ap (λ (c : FoundCounts). c.files) same.1),
    ))
    (put_either found n d e end h)

makes_as : (p : Run) (m n : More) (a b : Worker) → m ≡ n → Makes p m a b → Makes p n a b
makes_as p m n a b e made = subst (λ k. Makes p k a b) e made

pub put_made : (p : Run) (a b : Worker) (found : List Path) (n : ℕ) (d e : DirsInWork) (end : PutDirs) → IsPutSo found n d e end
    → Makes p (moved_more (drop (length e.list.waiting.items) d.list.waiting.items) (drop (length d.list.waiting.items) e.list.waiting.items)) a b → (put : List Path) × Makes p (moved_more [] put) a b × All (Contains found) put
put_made p a b found n d e end h made = ⊎_elim
    (λ (put : ArePut found n d e). (found, makes_as p _ (moved_more [] found) a b (put_more d.list.waiting.items e.list.waiting.items found put.waiting) made, All-contains_itself found))
    (λ (same : (e.list.waiting.items ≡ d.list.waiting.items) × (e.found ≡ d.found)).
    ([], makes_as p _ nothing a b (take_more d.list.waiting.items e.list.waiting.items [] (sym same.0 ∙ sym (append-nil e.list.waiting.items))) made, All-nil (Contains found)))
    (put_either found n d e end h)

pub put_counted : (found : List Path) (n : ℕ) (d e : DirsInWork) (end : PutDirs) → IsPutSo found n d e end → end ≢ Memory → ArePut found n d e
put_counted found n d e Within h ne = h.0
put_counted found n d e Passed h ne = h.0
put_counted found n d e Memory h ne = absurd (ne refl)

pub list_counts : (p : Run) (a b c : Worker) (x y : IndexValue) (n : ℕ) (has : HasList p a x b) → c.share ≡ Some (moved_by x y has.own) → files_of y ≡ files_of x + n → Counts n a c
list_counts p a b c x y n has share more s at =
    let same : has.own ≡ s = same_Some has.own s (sym has.was ∙ at) in
    (moved_by x y s, subst (λ (u : Share). c.share ≡ Some (moved_by x y u)) same share, omega arith)

pub stay_moves : (xs : List Path) (n : ℕ) (s : Share) → MovesDirs xs xs s (moved xs xs n s)
stay_moves xs n s = take_moves xs xs [] n s (sym (append-nil xs))

pub stay_counts : (d e : DirsInWork) (s : Share) → e.list.waiting.items ≡ d.list.waiting.items → e.found ≡ d.found → MovesCounts (Dirs d) (Dirs e) s (moved_by (Dirs d) (Dirs e) s)
stay_counts d e s waiting found = take_counts (Dirs d) e [] s (sym waiting ∙ sym (append-nil e.list.waiting.items)) (ap (λ (c : FoundCounts). c.dirs) found) (ap (λ (c : FoundCounts). c.files) found)

pub makes_stay : (p : Run) (xs : List Path) (a b : Worker) → Makes p (moved_more (drop (length xs) xs) (drop (length xs) xs)) a b → Makes p nothing a b
makes_stay p xs a b made = makes_as p (moved_more (drop (length xs) xs) (drop (length xs) xs)) nothing a b (take_more xs xs [] (sym (append-nil xs))) made

pub gets_as : (p : Run) (m n : More) (a b : Worker) → m ≡ n → Gets p m a b → Gets p n a b
gets_as p m n a b e gets = subst (λ k. Gets p k a b) e gets

pub gets_stay : (p : Run) (xs : List Path) (a b : Worker) → Gets p (moved_more (drop (length xs) xs) (drop (length xs) xs)) a b → Gets p nothing a b
gets_stay p xs a b gets = gets_as p (moved_more (drop (length xs) xs) (drop (length xs) xs)) nothing a b (take_more xs xs [] (sym (append-nil xs))) gets

-- the directory that was got is new to the thread
pub new_dir : (root : Path) (x : IndexValue) (s : Share) (ys : List Path) (got : Option Path) → IsAfter 0 x → IsNewTo root 0 s x → waiting_of x ≡ ys ++ option_to_list got → IfSome got (λ dir. ¬ Contains s.took dir)
new_dir root (Ring q) s ys got kind new e = absurd (kind refl)
new_dir root (Dirs d) s ys None kind new e = tt
new_dir root (Dirs d) s ys (Some dir) kind new e =
    distinct_across (d.list.waiting.items) s.took dir new (subst (λ l. Contains l dir) (sym e) (Contains-append_right ys (dir ∷ []) dir (contains_head dir [])))

pub new_dir_of : (p : Run) (a b : Worker) (x : IndexValue) (has : HasList p a x b) (got : Option Path) → IfSome got (λ dir. ¬ Contains has.own.took dir) → IfSome got (λ dir. OfShare a (λ s. ¬ Contains s.took dir))
new_dir_of p a b x has None new = tt
new_dir_of p a b x has (Some dir) new = λ s at. subst (λ (u : Share). ¬ Contains u.took dir) (same_Some has.own s (sym has.was ∙ at)) new

pub all_one : (P : Path → Type 0) (x : Path) (put : List Path) → (put ≡ []) ⊎ (put ≡ x ∷ []) → P x → All P put
all_one P x put one holds = ⊎_elim
    (λ (e : put ≡ []). subst (All P) (sym e) (All-nil P))
    (λ (e : put ≡ x ∷ []). subst (All P) (sym e) (All-cons P x [] holds (All-nil P)))
    one

-- files are put one after the other
pub may_first : (root : Path) (x : Path) (rest : List Path) (s : Share) → MayPutAll (x ∷ rest) (paths_put root 1 s) s → MayPut root 1 (File x) s
may_first root x rest s may = record {
  kind = refl;
  from = All-head (IsChildOfTook s) x rest may.from;
  once = distinct_cons x [] (contains_nil x) distinct_nil;
  new = λ p h. subst (λ q. ¬ Contains (paths_put root 1 s) q) (contains_one x p h) (may.new x (contains_head x rest));
}

pub may_rest : (root : Path) (x : Path) (rest put : List Path) (s r : Share) → (put ≡ []) ⊎ (put ≡ x ∷ []) → Grows root (record nothing { files_put = put }) s r → MayPutAll (x ∷ rest) (paths_put root 1 s) s → MayPutAll rest (paths_put root 1 r) r
may_rest root x rest put s r one grows may = record {
  from = All-weaker (IsChildOfTook s) (IsChildOfTook r) (child_more s r (λ d k. subst (λ l. Contains l d) (sym grows.took) k)) rest (All-tail (IsChildOfTook s) x rest may.from);
  once = distinct_tail x rest may.once;
  new = λ p h k. ⊎_elim
      (λ (here : Contains put p). ⊎_elim
      (λ (e : put ≡ []). contains_nil p (subst (λ l. Contains l p) e here))
      (λ (e : put ≡ x ∷ []). distinct_head x rest may.once (subst (Contains rest) (sym (contains_one x p (subst (λ l. Contains l p) e here))) h))
      one)
      (λ (there : Contains (paths_put root 1 s) p). may.new p (contains_tail x rest p h) there)
      (Contains-append_cases put (paths_put root 1 s) p (subst (λ l. Contains l p) grows.files_put k));
}

-- directories were put: files may still be
pub files_later : (root : Path) (fs put : List Path) (s r : Share) → Grows root (moved_more [] put) s r → MayPutAll fs (paths_put root 1 s) s → MayPutAll fs (paths_put root 1 r) r
files_later root fs put s r grows may = record {
  from = All-weaker (IsChildOfTook s) (IsChildOfTook r) (child_more s r (λ d k. subst (λ l. Contains l d) (sym grows.took) k)) fs may.from;
  once = may.once;
  new = subst (AreDisjoint fs) (sym grows.files_put) may.new;
}

-- files after files, and files after directories
pub files_on : (root : Path) (ps qs : List Path) (s r u : Share) → Grows root (record nothing { files_put = ps }) s r → Grows root (record nothing { files_put = qs }) r u → Grows root (record nothing { files_put = qs ++ ps }) s u
files_on root ps qs s r u a b = record {
  took = b.took ∙ a.took;
  put = b.put ∙ a.put;
  files_put = on qs ps (paths_put root 1 u) (paths_put root 1 r) (paths_put root 1 s) a.files_put b.files_put;
  files_taken = b.files_taken ∙ a.files_taken;
  pieces_put = b.pieces_put ∙ a.pieces_put;
  pieces_taken = b.pieces_taken ∙ a.pieces_taken;
}

grows_found : (root : Path) (put fs : List Path) (s r u : Share) → Grows root (moved_more [] put) s r → Grows root (record nothing { files_put = fs }) r u → Grows root (record nothing { put = put; files_put = fs }) s u
grows_found root put fs s r u a b = record {
  took = b.took ∙ a.took;
  put = b.put ∙ a.put;
  files_put = b.files_put ∙ ap (λ l. fs ++ l) a.files_put;
  files_taken = b.files_taken ∙ a.files_taken;
  pieces_put = b.pieces_put ∙ a.pieces_put;
  pieces_taken = b.pieces_taken ∙ a.pieces_taken;
}

pub makes_files : (p : Run) (ps qs : List Path) (a b c : Worker) → Makes p (record nothing { files_put = ps }) a b → Makes p (record nothing { files_put = qs }) b c → Makes p (record nothing { files_put = qs ++ ps }) a c
makes_files p ps qs a b c first second = record {
  called = λ o root k. called_then o root p k a b c (first.called o root k) (second.called o root k);
  gets = λ s at. let r = first.gets s at in let u = second.gets r.0 r.1 in (u.0, u.1, files_on p.world ps qs s r.0 u.0 r.2 u.2);
}

pub makes_found : (p : Run) (put fs : List Path) (a b c : Worker) → Makes p (moved_more [] put) a b → Makes p (record nothing { files_put = fs }) b c → Makes p (record nothing { put = put; files_put = fs }) a c
makes_found p put fs a b c first second = record {
  called = λ o root k. called_then o root p k a b c (first.called o root k) (second.called o root k);
  gets = λ s at. let r = first.gets s at in let u = second.gets r.0 r.1 in (u.0, u.1, grows_found p.world put fs s r.0 u.0 r.2 u.2);
}

-- what a take of a file gives
pub taken_file : (root : Path) (x : Result (ℕ × IndexItem) TakeEnd) → IfOk x (λ t. IsItemAt 1 t.1) → IfSome (path_of x) (λ path. paths_in root (took_pairs x) ≡ path ∷ [])
taken_file root (Ok (n, File path)) kind = refl
taken_file root (Ok (n, Piece piece)) kind = tt
taken_file root (Err e) kind = tt

pub fits_file : (p : Run) (a : Worker) (x : Result (ℕ × IndexItem) TakeEnd) → IfOk x (λ t. OfShare a (ItemFits p.world 1 t.1)) → IfSome (path_of x) (λ path. OfShare a (IsNewFile p.world path))
fits_file p a (Ok (n, File path)) fits = λ s at. let f = fits s at in record {
  new = λ h. distinct_head path (paths_taken p.world 1 s) f.new h;
  below = All-head (IsBelow p.world) path [] f.below;
}
fits_file p a (Ok (n, Piece piece)) fits = tt
fits_file p a (Err e) fits = tt

pub fits_kind : (p : Run) (m : ℕ) (a : Worker) (s : Share) → a.share ≡ Some s → (x : Result (ℕ × IndexItem) TakeEnd) → IfOk x (λ t. OfShare a (ItemFits p.world m t.1)) → IfOk x (λ t. IsItemAt m t.1)
fits_kind p m a s at (Ok (n, i)) fits = (fits s at).kind
fits_kind p m a s at (Err e) fits = tt

pub both_some : {X : Type 0} (P Q : X → Type 0) (o : Option X) → IfSome o P → IfSome o Q → IfSome o (λ x. P x × Q x)
both_some P Q None a b = tt
both_some P Q (Some x) a b = (a, b)

pub put_one : (root : Path) (f : Path) (x : Result ℕ (PutEnd × IndexItem)) → (paths_in root (put_pairs (File f) x) ≡ []) ⊎ (paths_in root (put_pairs (File f) x) ≡ f ∷ [])
put_one root f (Ok n) = inr refl
put_one root f (Err e) = inl refl

no_file : (m : ℕ) → m ≡ 1 → m ≡ 2 → ⊥
no_file m one two = omega arith

-- what a take of a piece gives
pub taken_piece : (root : Path) (x : Result (ℕ × IndexItem) TakeEnd) → IfOk x (λ t. IsItemAt 2 t.1) → paths_in root (took_pairs x) ≡ flat_map (covered root) (piece_of x)
taken_piece root (Ok (n, Piece piece)) kind = refl
taken_piece root (Ok (n, File path)) kind = absurd (no_file 2 kind refl)
taken_piece root (Err e) kind = refl

pub fits_piece : (p : Run) (a : Worker) (x : Result (ℕ × IndexItem) TakeEnd) (y : Result Index TakeEnd) → piece_in y ≡ piece_of x → IfOk x (λ t. OfShare a (ItemFits p.world 2 t.1))
    → IfOk y (λ i. OfShare a (λ s. AreDisjoint (covered p.world i) (paths_taken p.world 2 s)))
fits_piece p a x (Err e) same fits = tt
fits_piece p a (Ok (n, Piece piece)) (Ok i) same fits = λ s at q h k.
    let e : i ≡ piece = cc in
    distinct_across (covered p.world piece) (paths_taken p.world 2 s) q (fits s at).new (subst (λ j. Contains (covered p.world j) q) e h) k
fits_piece p a (Ok (n, File path)) (Ok i) same fits = absurd (cc)
fits_piece p a (Err e) (Ok i) same fits = absurd (cc)

pub saw_end : (w : Path) (c o t : ℕ) (s : Share) (a b : Worker) (x : Result (ℕ × IndexItem) TakeEnd) (ran : Ran ring_in part after_take AreAlike w 2 c o t more_empty (take_did x) s a b) → x ≡ Err ClosedEmpty → (part ran.share 2).seen_end ≡ true
saw_end w c o t s a b x ran e = ap (λ (u : Used IndexItem). u.seen_end) (ran.here ∙ ap (λ (y : Result (ℕ × IndexItem) TakeEnd). did_last (take_did y) (more_empty (wait_count (take_did y) ran.waited) (part s 2))) e)
