-- What shares say after one more note, and without the waits.
use Rattle.std.proofs.Common.{◌≡◌, ℕ, Bool, true, false, List, [], ◌∷◌, ◌++◌, cond, eqb, sym, ap, subst, ◌∙◌, refl}
use Rattle.std.specs.Prelude.{Contains, All}
use Rattle.std.proofs.lemmas.List.Elements.{All-append, All-weaker}
use Rattle.bounded_buffer.specs.declared.did.Did.{Did}
use Rattle.bounded_buffer.specs.declared.did.Did.TheVariants.{Put, Took, Shut, SawShut, SawEnd, WaitedFull, WaitedEmpty}
use Rattle.bounded_buffer.specs.declared.note.Note.{Note}
use Rattle.bounded_buffer.specs.Parts.{Used, did}
use Rattle.bounded_buffer.specs.Plain.{kept, is_wait, part_of}
use Rattle.firefly_outside.specs.Trees.{Path}
use Rattle.index_rule.specs.Distinct.{AreDisjoint, AreDistinct}
use Rattle.index_rule.specs.Shares.{Share, AreAlike, paths_of, paths_in, paths_put, paths_taken, IsChildOfTook, IsItemAt, KeepsOwn, IsFrom, MayPut}
use Rattle.index_rule.specs.Work.{ItemFits}
use Rattle.index_rule.specs.declared.value.IndexItem.{IndexItem}
use Rattle.index_rule.specs.declared.value.IndexItem.TheVariants.{File, Piece}

clash : {P : Type 0} → false ≡ true → P
clash e = absurd (cc)

module _ (f : Used IndexItem → List (ℕ × IndexItem)) (waits : (d : Did IndexItem) (u : Used IndexItem) → is_wait d ≡ true
    → f (did d u) ≡ f u)
    (steps : (d : Did IndexItem) (u v : Used IndexItem) → f u ≡ f v → f (did d u) ≡ f (did d v)) where
  one : (w b : Bool) (d : Did IndexItem) (u v : Used IndexItem) → is_wait d ≡ w → f v ≡ f u
      → f (cond w v (cond b (did d v) v)) ≡ f (cond b (did d u) u)
  one true true d u v w e = e ∙ sym (waits d u w)
  one true false d u v w e = e
  one false true d u v w e = steps d v u e
  one false false d u v w e = e

  apart : (w : Bool) (n : Note IndexItem) (s : List (Note IndexItem)) (m : ℕ)
      → part_of (cond w s (n ∷ s)) m ≡ cond w (part_of s m) (part_of (n ∷ s) m)
  apart true n s m = refl
  apart false n s m = refl

  without_waits : (s : List (Note IndexItem)) (m : ℕ) → f (part_of (kept s) m) ≡ f (part_of s m)
  without_waits [] m = refl
  without_waits (n ∷ s) m = ap f (apart (is_wait n.did) n (kept s) m)
      ∙ one (is_wait n.did) (eqb n.mutex m) n.did (part_of s m) (part_of (kept s) m) refl (without_waits s m)

  pub parts_alike : (s r : List (Note IndexItem)) (m : ℕ) → kept s ≡ kept r → f (part_of s m) ≡ f (part_of r m)
  parts_alike s r m e = sym (without_waits s m) ∙ (ap (λ l. f (part_of l m)) e ∙ without_waits r m)

puts_wait : (d : Did IndexItem) (u : Used IndexItem) → is_wait d ≡ true → (did d u).puts ≡ u.puts
puts_wait (Put n i) u e = clash e
puts_wait (Took n i) u e = refl
puts_wait Shut u e = refl
puts_wait SawShut u e = refl
puts_wait SawEnd u e = refl
puts_wait WaitedFull u e = refl
puts_wait WaitedEmpty u e = refl

puts_step : (d : Did IndexItem) (u v : Used IndexItem) → u.puts ≡ v.puts → (did d u).puts ≡ (did d v).puts
puts_step (Put n i) u v e = ap (λ l. (n, i) ∷ l) e
puts_step (Took n i) u v e = e
puts_step Shut u v e = e
puts_step SawShut u v e = e
puts_step SawEnd u v e = e
puts_step WaitedFull u v e = e
puts_step WaitedEmpty u v e = e

takes_wait : (d : Did IndexItem) (u : Used IndexItem) → is_wait d ≡ true → (did d u).takes ≡ u.takes
takes_wait (Put n i) u e = refl
takes_wait (Took n i) u e = clash e
takes_wait Shut u e = refl
takes_wait SawShut u e = refl
takes_wait SawEnd u e = refl
takes_wait WaitedFull u e = refl
takes_wait WaitedEmpty u e = refl

takes_step : (d : Did IndexItem) (u v : Used IndexItem) → u.takes ≡ v.takes → (did d u).takes ≡ (did d v).takes
takes_step (Put n i) u v e = e
takes_step (Took n i) u v e = ap (λ l. (n, i) ∷ l) e
takes_step Shut u v e = e
takes_step SawShut u v e = e
takes_step SawEnd u v e = e
takes_step WaitedFull u v e = e
takes_step WaitedEmpty u v e = e

-- shares that differ only in their waits say the same of what was put and taken
pub put_alike : (root : Path) (m : ℕ) (s r : Share) → AreAlike s r → paths_put root m s ≡ paths_put root m r
put_alike root m s r h = ap (paths_in root) (parts_alike (λ u. u.puts) puts_wait puts_step s.notes r.notes m h.notes)

pub taken_alike : (root : Path) (m : ℕ) (s r : Share) → AreAlike s r → paths_taken root m s ≡ paths_taken root m r
taken_alike root m s r h = ap (paths_in root) (parts_alike (λ u. u.takes) takes_wait takes_step s.notes r.notes m h.notes)

pub alike_back : (s r : Share) → AreAlike s r → AreAlike r s
alike_back s r h = record { took = sym h.took; put = sym h.put; files = sym h.files; notes = sym h.notes }

-- a thread that took more may have taken the parents of more
pub child_more : (s r : Share) → ((d : Path) → Contains s.took d → Contains r.took d) → (p : Path) → IsChildOfTook s p → IsChildOfTook r p
child_more s r more p h = record { dir = h.dir; took = more h.dir h.took; is = h.is }

from_alike : (root : Path) (i : IndexItem) (s r : Share) → AreAlike s r → IsFrom root s i → IsFrom root r i
from_alike root (File path) s r h from = child_more s r (λ d k. subst (λ l. Contains l d) h.took k) path from
from_alike root (Piece piece) s r h from = subst (λ l. All (Contains l) (paths_of root (Piece piece))) (taken_alike root 1 s r h) from

pub may_alike : (root : Path) (m : ℕ) (i : IndexItem) (s r : Share) → AreAlike s r → MayPut root m i s → MayPut root m i r
may_alike root m i s r h may = record {
  kind = may.kind;
  from = from_alike root i s r h may.from;
  once = may.once;
  new = subst (AreDisjoint (paths_of root i)) (put_alike root m s r h) may.new;
}

pub fits_alike : (root : Path) (m : ℕ) (i : IndexItem) (s r : Share) → AreAlike s r → ItemFits root m i s → ItemFits root m i r
fits_alike root m i s r h fits =
    record {
      kind = fits.kind;
      new = subst (λ l. AreDistinct (paths_of root i ++ l)) (taken_alike root m s r h) fits.new;
      below =
          fits.below;
    }

-- a share that says more still keeps the rule of shares, if what it says in addition may be there
pub own_more : (root : Path) (s r : Share) (dirs files pieces : List Path) → KeepsOwn root s
    → ((m : ℕ) → All (λ p. IsItemAt m p.1) (part_of r.notes m).puts)
    → ((d : Path) → Contains s.took d → Contains r.took d)
    → ((p : Path) → Contains (paths_taken root 1 s) p → Contains (paths_taken root 1 r) p)
    → r.put ≡ dirs ++ s.put → paths_put root 1 r ≡ files ++ paths_put root 1 s → paths_put root 2 r ≡ pieces ++ paths_put root 2 s
    → All (IsChildOfTook s) dirs → All (IsChildOfTook s) files → AreDistinct (files ++ paths_put root 1 s)
    → All (Contains (paths_taken root 1 s)) pieces → AreDistinct (pieces ++ paths_put root 2 s) → KeepsOwn root r
own_more root s r dirs files pieces own kinds took taken put put1 put2 of_dirs of_files new_files of_pieces new_pieces = record {
  kinds = kinds;
  dirs = subst (All (IsChildOfTook r)) (sym put)
      (All-weaker (IsChildOfTook s) (IsChildOfTook r) (child_more s r took) (dirs ++ s.put)
      (All-append (IsChildOfTook s) dirs s.put of_dirs own.dirs));
  files = subst (All (IsChildOfTook r)) (sym put1)
      (All-weaker (IsChildOfTook s) (IsChildOfTook r) (child_more s r took) (files ++ paths_put root 1 s)
      (All-append (IsChildOfTook s) files (paths_put root 1 s) of_files own.files));
  files_once = subst AreDistinct (sym put1) new_files;
  pieces = subst (All (Contains (paths_taken root 1 r))) (sym put2)
      (All-weaker (Contains (paths_taken root 1 s)) (Contains (paths_taken root 1 r)) taken (pieces ++ paths_put root 2 s)
      (All-append (Contains (paths_taken root 1 s)) pieces (paths_put root 2 s) of_pieces own.pieces));
  pieces_once = subst AreDistinct (sym put2) new_pieces;
}
