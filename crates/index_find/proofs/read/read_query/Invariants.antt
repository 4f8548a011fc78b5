use Rattle.std.proofs.Common.{◌≡◌, [], Some, map, reverse, take}
use Rattle.std.specs.String.{string_bytes}
use Rattle.index_find.specs.Taking.{Before, ran, state_of}
use Rattle.index_find.proofs.read.read_query.Given as goal

abbrev pub invariant-loop-word : goal.invariant-loop-word
invariant-loop-word l = ran (Before [] []) (take l.word-index (map string_bytes l.words)) ≡ Some (state_of l.following (reverse l.pending.items) l.steps.items)
