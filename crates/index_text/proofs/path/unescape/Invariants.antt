use Rattle.std.proofs.Common.{◌≡◌, List, ℕ, Option, drop, false}
use Rattle.index_text.specs.Lines.{unescaped}
use Rattle.index_text.proofs.Escaping.{before}
use Rattle.index_text.proofs.path.unescape.Given as goal

abbrev pub invariant-loop-b : goal.invariant-loop-b
invariant-loop-b l = (end : Option (List ℕ)) → unescaped end false l.bytes ≡ before l.out.items (unescaped end l.pending (drop l.b-index l.bytes))
