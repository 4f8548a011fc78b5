-- A row that was filled at the end of a block and then ended, or taken back.
use Rattle.std.proofs.Common.{◌≡◌, ℕ, ◌+◌, ◌≤◌, List, [], ◌∷◌, ◌++◌, length, take, arith, refl, sym, ap, subst, ◌∙◌, length-append, Result, Ok, Err, OnOk, OnErr}
use Rattle.std.proofs.Math.Seq.{take-length}
use Rattle.std.proofs.lemmas.List.{take-append-le}
use Rattle.word_index.specs.Blocks.{parts, AreEnds}
use Rattle.word_index.proofs.Parts.{parts_push, ends_push}

module _ {X : Type 0} (old more block : List X) (ends : List ℕ) (fit : AreEnds old 0 ends) (filled : block ≡ old ++ more) where
  pub ends_after : {new : List X} {new_ends : List ℕ} → new ≡ block → new_ends ≡ ends ++ length block ∷ [] → AreEnds new 0 new_ends
  ends_after same ended = rw (same, ended, filled, length-append old more) (ends_push old more 0 ends fit)

  pub parts_after : {new : List X} {new_ends : List ℕ} → new ≡ block → new_ends ≡ ends ++ length block ∷ [] → parts new 0 new_ends ≡ parts old 0 ends ++ more ∷ []
  parts_after same ended = rw (same, ended, filled, length-append old more) (parts_push old more 0 ends fit)

  -- whichever way it went, the ends fit the block
  pub ends_fit : {E : Type 0} (r : Result (Unit {0}) E) (new : List X) (new_ends : List ℕ) (start : ℕ) → start ≡ length old
      → OnOk r (new ≡ block) → OnOk r (new_ends ≡ ends ++ length block ∷ []) → OnErr r (new ≡ take start block) → OnErr r (new_ends ≡ ends) → AreEnds new 0 new_ends
  ends_fit (Ok u) new new_ends start at same ended back none = ends_after same ended
  ends_fit (Err e) new new_ends start at same ended back none =
      let first : new ≡ old = back ∙ ap (λ n. take n block) at ∙ ap (take (length old)) filled ∙ take-append-le (length old) old more (omega arith) ∙ take-length old in
      rw (first, none) fit

  pub pushes : {E : Type 0} (r : Result (Unit {0}) E) (new : List X) (new_ends : List ℕ) → OnOk r (new ≡ block) → OnOk r (new_ends ≡ ends ++ length block ∷ [])
      → OnOk r (parts new 0 new_ends ≡ parts old 0 ends ++ more ∷ [])
  pushes (Ok u) new new_ends same ended = parts_after same ended
  pushes (Err e) new new_ends same ended = tt

pub on_ok_then : {E : Type 0} {P Q : Type 0} (r : Result (Unit {0}) E) → OnOk r P → (P → Q) → OnOk r Q
on_ok_then (Ok u) h f = f h
on_ok_then (Err e) h f = tt
