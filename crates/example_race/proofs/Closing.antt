-- What is so before the race, and after it.
use Rattle.std.proofs.Common.{◌≡◌, ℕ, Bool, true, false, List, [], ◌∷◌, length, arith, ap, ◌∙◌, refl}
use Rattle.firefly_threads.specs.Names.{Each, HaveWorked, Known, OneValue, firsts, get_elem?, some}
use Rattle.firefly_threads.specs.Laws.{the_value}
use Rattle.example_race.specs.declared.uses.Part.{Part}
use Rattle.example_race.specs.declared.uses.Track.{Track}
use Rattle.example_race.specs.Races.{IsKept, IsPart, IsRun, begins}

-- three are to run, and nobody has
pub begins_kept : IsKept (record { begun = false; left = 3 }) (firsts begins 4)
begins_kept = grind arith

so : (b : Bool) → (b ≡ false → ⊥) → b ≡ true
so true not = refl
so false not = absurd (not refl)

-- of four threads that have done their parts
came : (q : Track) (shares : List Part) → length shares ≡ 4 → IsKept q shares → Each IsPart shares → q ≡ record { begun = true; left = 0 }
came q (a ∷ b ∷ c ∷ d ∷ []) long kept parts =
    let first = (parts 0 a refl).starter refl in
    let second = (parts 1 b refl).runner (omega arith) in
    let third = (parts 2 c refl).runner (omega arith) in
    let fourth = (parts 3 d refl).runner (omega arith) in
    let none : q.left ≡ 0 = grind arith in
    let begun : q.begun ≡ true = so q.begun (λ not. let nobody = kept.start not in grind arith) in
    λ i. record { begun = begun i; left = none i }
came _ _ long _ _ = absurd (omega arith)

pub over : (threads : List (Known Track Part (Prim.Unit {0}))) (left : List (Prim.Unit {0})) (values : List Track)
    → HaveWorked tt (OneValue IsKept) (λ n es x s. IsPart n s × IsRun n es) threads values left → length left ≡ 4
    → values ≡ record { begun = true; left = 0 } ∷ []
over threads left values worked four =
    let one = the_value IsKept values worked.shares worked.kept in
    let did = came one.0 worked.shares (worked.count ∙ four) one.2 (λ n s at. (worked.each n s at).goes.0) in
    one.1 ∙ ap (λ q. q ∷ []) did
