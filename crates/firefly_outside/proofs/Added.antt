-- What a sink holds after two puts in a row.
use Rattle.std.proofs.Common.{ℕ, ◌+◌, List, take, drop, sym, subst}
use Rattle.std.proofs.KnownBytes.{Appends-trans}
use Rattle.std.proofs.Math.Seq.{take-add}
use Rattle.std.specs.Io.KnownBytes.{Appends}
use Rattle.std.specs.declared.option.Option.{Option}

pub Appends-take_add : (a b c : Option (List ℕ)) (piece : List ℕ) (n m : ℕ) → Appends a b (take n piece) → Appends b c (take m (drop n piece)) → Appends a c (take (n + m) piece)
Appends-take_add a b c piece n m p q =
    subst (Appends a c) (sym (take-add n m piece)) (Appends-trans a b c _ _ p q)
