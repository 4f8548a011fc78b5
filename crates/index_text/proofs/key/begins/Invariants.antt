use Rattle.std.proofs.Common.{◌≡◌, drop}
use Rattle.index_text.specs.Lines.{is_prefix}
use Rattle.index_text.proofs.key.begins.Given as goal

abbrev pub invariant-loop-i : goal.invariant-loop-i
invariant-loop-i l = is_prefix (drop l.i l.one) (drop l.i l.other) ≡ is_prefix l.one l.other
