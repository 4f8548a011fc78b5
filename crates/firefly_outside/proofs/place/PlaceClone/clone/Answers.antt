use Rattle.std.proofs.Common.{ap, ◌∙◌, sym}
use Rattle.std.specs.List.{each_same}
use Rattle.firefly_outside.specs.Trees.{Directory, Bytes}
use Rattle.firefly_outside.specs.MemTrees.{node_of}
use Rattle.firefly_outside.proofs.place.PlaceClone.clone.Goals as goal

pub returns-in-Ok : goal.returns-in-Ok
returns-in-Ok c = record { cases = ap Directory (each_same c.in-Dir.entries.items c.in-Ok.entries.items c.in-Ok.ensures.cases.0) ∙ sym (ap node_of c.in-Dir.is) }

pub returns-in-Ok-clone : goal.returns-in-Ok-clone
returns-in-Ok-clone c = record { cases = ap Bytes (each_same c.in-File.bytes.items c.in-Ok-clone.bytes.items c.in-Ok-clone.ensures.cases.0) ∙ sym (ap node_of c.in-File.is) }
