-- What the closing walk answers, from what its two parts tell.
use Rattle.std.proofs.Common.{◌≡◌, ◌∙◌, ℕ, ◌+◌, List, [], ◌++◌, map, sym, ap, subst, inl, inr, Contains}
use Rattle.std.specs.Prelude.{Option, Some, None, IfSome, Ok, Err}
use Rattle.firefly_outside.specs.Trees.{Path, Contents, Calls, child}
use Rattle.firefly_outside.specs.Under.{IsUnder, AreMany}
use Rattle.firefly_outside.specs.declared.tree.Kind.TheVariants.{Dir, File as a_file}
use Rattle.word_index.specs.Index.{File, Index, IsIndexOf}
use Rattle.walker.specs.Walk.{Walk, files_of, IsSound, IsWalkOf}
use Rattle.walker.specs.TreeIndex.{IsTreeIndex, IsFileAt, IsPartOf}
use Rattle.walker.specs.Closing.{most_dirs, Answers, CallsOnce, IsFaultUnder, failed_by}
use Rattle.walker.specs.Progress.{IsWithinLimits, ListsMore, EndsPassed, ListsRest, IsListedWhole, Grows}
use Rattle.walker.specs.Pile.{ReadsRest, ReadsSome}
use Rattle.walker.specs.declared.answer.WalkAnswer.{WalkAnswer}
use Rattle.walker.specs.declared.answer.WalkAnswer.TheVariants.{Done, Stopped, ReadFault, TooMany, Memory}
use Rattle.walker.proofs.ListLemmas.{Contains-nil, Contains-map, Contains-unmap, Distinct-map}
use Rattle.walker.proofs.Children.{child_name}
use Rattle.walker.proofs.Reached.{file_reached, listed_if_found, found_if_reached, few_dirs, few_files}
use Rattle.walker.proofs.Steps.{listed_under}

-- a walk that stopped while it listed
pub stopped_answer : (o : Option Contents) (first w : Walk) (root : Path) (stop : Option ℕ) (weak : List Path) (before now : Calls) (answer : WalkAnswer) → first.root ≡ root
    → IfSome o (ListsRest {T = Unit {0}} first w stop weak before now (Err answer)) → IfSome o (Answers root stop weak answer)
stopped_answer None first w root stop weak before now answer e h = tt
stopped_answer (Some t) first w root stop weak before now answer e h = subst (λ (r : Path). Answers r stop weak answer t) e h.0

pub stopped_once : (o : Option Contents) (first w : Walk) (covered : List Path) (stop : Option ℕ) (weak : List Path) (before now : Calls) (answer : WalkAnswer)
    → IfSome o (ListsRest {T = Unit {0}} first w stop weak before now (Err answer)) → IfSome o (λ t. CallsOnce t first covered before now answer)
stopped_once None first w covered stop weak before now answer h = tt
stopped_once (Some t) first w covered stop weak before now answer h = h.1 covered

pub stopped_passed : (o : Option Contents) (first w : Walk) (stop : Option ℕ) (weak : List Path) (before now : Calls) (answer : WalkAnswer)
    → IfSome o (ListsRest {T = Unit {0}} first w stop weak before now (Err answer)) → IfSome o (EndsPassed first stop before now answer)
stopped_passed None first w stop weak before now answer h = tt
stopped_passed (Some t) first w stop weak before now answer h = h.2

-- the piece is still a part of the walk that found more
pub IsPartOf-grows : (o q : Option Contents) (w v : Walk) (piece : Index) → o ≡ q → Grows w v → IsPartOf o w piece → IsPartOf q v piece
IsPartOf-grows o q w v piece e grows part = record {
  files = part.files;
  index = part.index;
  found = λ f k. grows.files f.path (part.found f k);
  reported = subst (λ (p : Option Contents). IfSome p (λ t. (f : File) → Contains part.files f → IsFileAt t v.root f)) e
      (subst (λ (r : Path). IfSome o (λ t. (f : File) → Contains part.files f → IsFileAt t r f)) (sym grows.root) part.reported);
}

-- a walk that was listed whole
pub end_answer : (o : Option Contents) (first w : Walk) (root : Path) (covered : List Path) (stop : Option ℕ) (weak vague : List Path) (before mid now : Calls) (answer : WalkAnswer) → w.root ≡ root → IsWithinLimits w stop → IsListedWhole w
    → IfSome o (ListsRest {T = Unit {0}} first w stop vague before mid (Ok tt)) → IfSome o (ReadsRest w covered weak mid now answer) → IfSome o (Answers root stop weak answer)
end_answer None first w root covered stop weak vague before mid now answer e limits listed l r = tt
end_answer (Some t) first w root covered stop weak vague before mid now (Done piece) e limits listed l r = record {
  index = subst (λ (p : Path). IsTreeIndex t p piece) e r.0;
  dirs = subst (λ (p : Path). ¬ AreMany t p Dir (most_dirs + 1)) e (few_dirs t w most_dirs l.0 listed limits.dirs);
  files = λ n is. subst (λ (p : Path). ¬ AreMany t p a_file (n + 1)) e (few_files t w n l.0 listed (limits.files n is));
}
end_answer (Some t) first w root covered stop weak vague before mid now (Stopped many) e limits listed l r = absurd r
end_answer (Some t) first w root covered stop weak vague before mid now (ReadFault path) e limits listed l r = subst (λ (p : Path). IsFaultUnder t p weak path) e r.0
end_answer (Some t) first w root covered stop weak vague before mid now (TooMany many) e limits listed l r = absurd r
end_answer (Some t) first w root covered stop weak vague before mid now Memory e limits listed l r = tt

-- the calls of both parts
calls_once : (t : Contents) (first w : Walk) (covered : List Path) (before mid now : Calls) (answer : WalkAnswer) → w.root ≡ first.root → IsWalkOf w t → IsListedWhole w → ListsMore first w before mid → ReadsSome w covered mid now answer
    → CallsOnce t first covered before now answer
calls_once t first w covered before mid now answer e walk whole m r = record {
  dirs = m.dirs;
  listed = r.listed ∙ m.listed;
  dirs_once = m.once;
  dirs_new = m.fresh;
  dirs_under = listed_under t first w before mid walk (sym e) m;
  dirs_all = λ done p under. m.only p (listed_if_found w whole p (found_if_reached t w walk whole Dir p (subst (λ (r : Path). IsUnder t r Dir p) (sym e) under)));
  files = map (child w.root) r.names;
  read = r.read ∙ ap (λ l. l ++ map (child w.root) r.names) m.read;
  files_once = Distinct-map (child w.root) r.names (λ x y h k same. child_name w.root x y same) r.once;
  files_new = λ p is k.
      let o = Contains-unmap (child w.root) r.names (child first.root p) k in
      let same : o.origin ≡ p = child_name w.root o.origin p (o.is ∙ ap (λ q. child q p) (sym e)) in
      r.fresh o.origin o.among (subst (λ (q : Path). Contains covered q) (sym same) is);
  files_under = λ p k.
      let o = Contains-unmap (child w.root) r.names p k in
      subst (λ (q : Path). IsUnder t q a_file p) e
      (file_reached t w walk p (subst (λ (q : Path). Contains (files_of w) q) o.is (Contains-map (child w.root) w.files o.origin (r.found o.origin o.among))));
  files_all = λ done p under.
      let o = Contains-unmap (child w.root) w.files p (found_if_reached t w walk whole a_file p (subst (λ (q : Path). IsUnder t q a_file p) (sym e) under)) in
      elim (r.all done o.origin o.among) [
        | inl was ↦ inl (subst (λ (q : Path). Contains (map (child q) covered) p) e (subst (λ (q : Path). Contains (map (child w.root) covered) q) o.is (Contains-map (child w.root) covered o.origin was)))
        | inr new ↦ inr (subst (λ (q : Path). Contains (map (child w.root) r.names) q) o.is (Contains-map (child w.root) r.names o.origin new))
      ];
  failed = r.failed ∙ ap (λ l. l ++ failed_by answer) m.failed;
}

pub end_once : (o : Option Contents) (first w : Walk) (covered : List Path) (stop : Option ℕ) (weak vague : List Path) (before mid now : Calls) (answer : WalkAnswer) → w.root ≡ first.root → IsListedWhole w
    → IfSome o (ListsRest {T = Unit {0}} first w stop vague before mid (Ok tt)) → IfSome o (ReadsRest w covered weak mid now answer) → IfSome o (λ t. CallsOnce t first covered before now answer)
end_once None first w covered stop weak vague before mid now answer e whole l r = tt
end_once (Some t) first w covered stop weak vague before mid now (Done piece) e whole l r = calls_once t first w covered before mid now (Done piece) e l.0 whole l.1 r.1
end_once (Some t) first w covered stop weak vague before mid now (Stopped many) e whole l r = absurd r
end_once (Some t) first w covered stop weak vague before mid now (ReadFault path) e whole l r = calls_once t first w covered before mid now (ReadFault path) e l.0 whole l.1 r.1
end_once (Some t) first w covered stop weak vague before mid now (TooMany many) e whole l r = absurd r
end_once (Some t) first w covered stop weak vague before mid now Memory e whole l r = calls_once t first w covered before mid now Memory e l.0 whole l.1 r

-- a walk that was listed whole within its limits
pub end_passed : (o : Option Contents) (first w : Walk) (covered : List Path) (stop : Option ℕ) (weak vague : List Path) (before mid now : Calls) (answer : WalkAnswer) → IsSound w → IsWithinLimits w stop
    → IfSome o (ListsRest {T = Unit {0}} first w stop vague before mid (Ok tt)) → IfSome o (ReadsRest w covered weak mid now answer) → IfSome o (EndsPassed first stop before now answer)
end_passed None first w covered stop weak vague before mid now answer sound limits l r = tt
end_passed (Some t) first w covered stop weak vague before mid now (Done piece) sound limits l r = record { walk = w; calls = mid; reached = record { sound = sound; reported = l.0; more = l.1 }; limits = limits; listed = r.1.listed }
end_passed (Some t) first w covered stop weak vague before mid now (Stopped many) sound limits l r = absurd r
end_passed (Some t) first w covered stop weak vague before mid now (ReadFault path) sound limits l r = record { walk = w; calls = mid; reached = record { sound = sound; reported = l.0; more = l.1 }; limits = limits; listed = r.1.listed }
end_passed (Some t) first w covered stop weak vague before mid now (TooMany many) sound limits l r = absurd r
end_passed (Some t) first w covered stop weak vague before mid now Memory sound limits l r = tt

pub moved_rest : (o q : Option Contents) (w : Walk) (covered weak vague : List Path) (mid now : Calls) (answer : WalkAnswer) → o ≡ q → weak ≡ vague → IfSome o (ReadsRest w covered weak mid now answer) → IfSome q (ReadsRest w covered vague mid now answer)
moved_rest o q w covered weak vague mid now answer e f h = subst (λ (p : Option Contents). IfSome p (ReadsRest w covered vague mid now answer)) e (subst (λ (v : List Path). IfSome o (ReadsRest w covered v mid now answer)) f h)

-- a piece that covers nothing is a part of every walk
pub IsPartOf-none : (o : Option Contents) (w : Walk) (piece : Index) → IsIndexOf [] piece → IsPartOf o w piece
IsPartOf-none o w piece index = record { files = []; index = index; found = λ f h. absurd (Contains-nil f h); reported = at o }
  where
    at : (q : Option Contents) → IfSome q (λ t. (f : File) → Contains [] f → IsFileAt t w.root f)
    at None = tt
    at (Some t) = λ f h. absurd (Contains-nil f h)
