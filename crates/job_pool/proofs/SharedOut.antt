-- What comes of batches that were shared out.
use Rattle.std.proofs.Common.{◌≡◌, ℕ, ◌+◌, ◌<◌, zero, suc, true, List, [], ◌∷◌, ◌++◌, map, length, reverse, replicate, get_or, Option as Opt, None, sym, ◌∙◌, ap, subst, arith, append-nil, Vec, Global}
use Rattle.std.specs.Prelude.{remove}
use Rattle.std.specs.List.{AllZip}
use Rattle.std.proofs.lemmas.List.{length-map}
use Rattle.std.specs.List.Sorted.{IsPermutation}
use Rattle.thread_crew.proofs.Zips.{zip_length}
use mathlib.Core.Option.{some, some-injective, some-ne-none}
use lib.ListN.{get_elem?}
use Rattle.nub_rule.specs.Known.{Shape}
use Rattle.nub.specs.Ended.{IsFirst, IsDone, KeepsLocks}
use Rattle.nub.proofs.Users.{idle_done}
use Rattle.bounded_buffer.specs.Plain.{Keeps}
use Rattle.bounded_buffer.specs.Rings.{Held}
use Rattle.job_pool.specs.declared.item.Item.{Item}
use Rattle.job_pool.specs.Crews.{AreReady, filled_by}
use Rattle.job_pool.specs.Batches.{IsPlaced, numbered}
use Rattle.job_pool.specs.Working.{Worker, HasMoved, IsBetween, AreBetween, AreFirst, WasShared, puts_of, takes_of, has_seen_end, all_puts_of, all_takes_of}
use Rattle.job_pool.proofs.Crewing.{Came, Crew, crew_of}
use Rattle.job_pool.proofs.Moving.{first_between, first_puts, first_takes}
use Rattle.job_pool.proofs.Numbering.{CameTo, came_back}
use Rattle.job_pool.proofs.Placing.{long_filled_by, placed_by, placed_nothing}
use Rattle.job_pool.proofs.Settling.{all_taken}

module _ {T : Type 0} where
  first_of : (p : Shape (Unit {0})) (n : ℕ) (ts : List (Worker T)) (t : Worker T) → 0 < length ts → AreFirst p n ts → t ≡ get_or ts 0 t → IsFirst p (λ w t. []) n t
  first_of p n [] t low h is = absurd (omega arith)
  first_of p n (u ∷ ts) t low h is = subst (λ x. IsFirst p (λ w t. []) n x) (sym is) h.0

  pub first_thread : (p : Shape (Unit {0})) (ts : List (Worker T)) (t : Worker T) → 0 < length ts → AreFirst p 0 ts → t ≡ get_or ts 0 t → IsFirst p (λ w t. []) 0 t
  first_thread p ts t low h is = first_of p 0 ts t low h is

  pub other_threads : (p : Shape (Unit {0})) (n : ℕ) (ts : List (Worker T)) → 0 < length ts → AreFirst p n ts → AreFirst p (n + 1) (remove ts 0)
  other_threads p n [] low h = absurd (omega arith)
  other_threads p n (u ∷ ts) low h = h.1

  pub each_done : (p : Shape (Unit {0})) (n : ℕ) (ts : List (Worker T)) → AreBetween p n ts → (k : ℕ) (t : Worker T) → get_elem? ts k ≡ some t → IsDone p (n + k) t
  each_done p n [] h k t at = absurd (some-ne-none t (sym at))
  each_done p n (u ∷ ts) h zero t at =
      let b : IsBetween p n t = subst (IsBetween p n) (some-injective u t at) h.0 in
      subst (λ j. IsDone p j t) (omega arith) (idle_done p n b.share t b.idle)
  each_done p n (u ∷ ts) h (suc k) t at = subst (λ j. IsDone p j t) (omega arith) (each_done p (n + 1) ts h.1 k t at)

  pub all_done : (p : Shape (Unit {0})) (ts : List (Worker T)) → AreBetween p 0 ts → (k : ℕ) (t : Worker T) → get_elem? ts k ≡ some t → IsDone p k t
  all_done p ts h k t at = subst (λ j. IsDone p j t) (omega arith) (each_done p 0 ts h k t at)

module _ {T : Type 0} (goes : T → T → Type 0) (p : Shape (Unit {0})) where
  -- what the caller and the crew did
  pub was_shared : (room many : ℕ) (batches : List T) (first put last : Worker T) (ws rs : List (Worker T × Vec (Item T) Global)) (took : List (Item T)) (threads : List (Worker T)) (before places : List (Opt T))
      → IsFirst p (λ w t. []) 0 first → HasMoved p (reverse (numbered 0 batches)) [] first put → HasMoved p [] took put last → has_seen_end last ≡ true
      → AreReady p room 1 ws → AllZip (Came goes p room) ws rs → threads ≡ last ∷ map (λ r. r.0) rs → many ≡ length ws + 1
      → IsPlaced goes (takes_of last) before → places ≡ filled_by rs before → length before ≡ length batches → WasShared goes p many batches threads places
  was_shared room many batches first put last ws rs took threads before places is_first puts takes saw ready came are count placed is_row wide =
      let crew : Crew goes p room 1 rs = crew_of goes p room 1 ws rs ready came in
      let own = takes.between 0 (puts.between 0 (first_between p 0 first is_first)) in
      let none = first_puts p 0 first is_first in
      let as_many = zip_length (Came goes p room) ws rs came in
      let mapped = length-map rs (λ r. r.0) in
      let long = ap length are in
      record {
        count = omega arith;
        between = subst (AreBetween p 0) (sym are) (own, crew.between);
        puts_are = ap all_puts_of are ∙ (ap (λ l. puts_of last ++ l) crew.no_puts ∙ (append-nil (puts_of last) ∙ (takes.puts_are ∙ (puts.puts_are ∙ (ap (λ l. reverse (numbered 0 batches) ++ l) none ∙ append-nil (reverse (numbered 0 batches)))))));
        caller = last;
        is_caller = ap (λ l. get_elem? l 0) are;
        saw_end = saw;
        placed = subst (λ l. IsPlaced goes l places) (sym (ap all_takes_of are)) (subst (λ r. IsPlaced goes (takes_of last ++ all_takes_of (map (λ r. r.0) rs)) r) (sym is_row) (placed_by goes (takes_of last) rs before placed crew.came));
        wide = ap length is_row ∙ (long_filled_by rs before ∙ wide);
      }

  -- the places is empty, and the caller took nothing yet
  pub placed_first : (n : ℕ) (xs : List (Item T)) (first put : Worker T) (places : List (Opt T)) → IsFirst p (λ w t. []) 0 first → HasMoved p xs [] first put → places ≡ replicate n None → IsPlaced goes (takes_of put) places
  placed_first n xs first put places is_first puts none = subst (λ l. IsPlaced goes l places) (sym (puts.takes_are ∙ first_takes p 0 first is_first)) (placed_nothing goes n places none)

  -- once the package is closed, each place has what came of its batch
  pub came_to_all : (many : ℕ) (batches : List T) (threads : List (Worker T)) (places : List (Opt T)) (values : List (Held (Item T))) → WasShared goes p many batches threads places → KeepsLocks Keeps threads values
      → length values ≡ 1 → AllZip (CameTo goes) batches places
  came_to_all many batches threads places values s locks one =
      let perm = all_taken threads values s.caller locks one s.is_caller s.saw_end in
      came_back goes batches (all_takes_of threads) places (subst (λ l. IsPermutation l (all_takes_of threads)) s.puts_are perm) s.placed s.wide
