-- How the command ends, by what was read.
use Rattle.std.proofs.Common.{◌≡◌, inl, inr, ℕ, List, refl, sym, subst}
use Rattle.word_index.specs.Index.{Row}
use Rattle.index_find.specs.Tree.{Tree}
use Rattle.index_find.specs.Grammar.{Token, IsReading}
use Rattle.command_endings.specs.declared.status.Status.{Status}
use Rattle.command_endings.specs.declared.status.Status.TheVariants.{Done, Usage, ReadFault, SinkFault, Stopped, Memory, Illegal, BadText, TooMany, TooLong}
use Rattle.command_endings.specs.Changes.{Change, IsStill}
use Rattle.command_endings.specs.Endings.{SaysFault}
use Rattle.exact_text.specs.declared.fault.TextFault.{TextFault}
use Rattle.exact_text.specs.declared.fault.TextFault.TheVariants as fault
use Rattle.command_endings.specs.Printing.{Prints}
use Rattle.index_find.specs.Meaning.{AreMeant}
use Rattle.index_find.specs.Sieved.{AreFound}
use Rattle.command_find.specs.Asking.{Asks}
use Rattle.command_find.specs.Lines.{lines_of}
use Rattle.command_find.specs.Find.{Fails, IsTextOf, IsFound, EndsBy, FindAnswers}

pub ended : (most : ℕ) (tree : Tree) (input out notes : Change) (status s : Status) → status ≡ s → EndsBy most tree input out notes s → EndsBy most tree input out notes status
ended most tree input out notes status s e h = subst (λ (x : Status). EndsBy most tree input out notes x) (sym e) h

there : (most : ℕ) (tree : Tree) (rows : List Row) (paths : List (List ℕ)) (input : Change) → IsTextOf most input rows → AreMeant rows tree paths → IsFound most tree input (lines_of paths)
there most tree rows paths input read meant = record { rows = rows; paths = paths; read = read; meant = meant; lines = refl }

printed : (most : ℕ) (tree : Tree) (rows : List Row) (paths : List (List ℕ)) (input out notes : Change) (status : Status) → IsTextOf most input rows → AreMeant rows tree paths
    → Prints (lines_of paths) Done out notes status → EndsBy most tree input out notes status
printed most tree rows paths input out notes status read meant (inl h) = ended most tree input out notes status Done h.0 (lines_of paths, there most tree rows paths input read meant, h.1, h.2)
printed most tree rows paths input out notes status read meant (inr h) = ended most tree input out notes status SinkFault h.0 (lines_of paths, there most tree rows paths input read meant, h.1, h.2)

-- the paths were found
pub found : (most : ℕ) (tree : Tree) (paths : List (List ℕ)) (input out notes : Change) (status : Status) → AreFound most input.old tree paths → Prints (lines_of paths) Done out notes status → EndsBy most tree input out notes status
found most tree paths input out notes status f h = printed most tree f.rows paths input out notes status (f.skipped, f.read) f.meant h

-- the index wasn't read
pub refused : (most : ℕ) (tree : Tree) (input out notes : Change) (status : Status) (f : TextFault) → Fails most input f → IsStill out → SaysFault f notes status → EndsBy most tree input out notes status
refused most tree input out notes status (fault.BadLine k) why still h = ended most tree input out notes status BadText h.0 (k, why, still, h.1)
refused most tree input out notes status fault.TooLong why still h = ended most tree input out notes status TooLong h.0 (why, still, h.1)
refused most tree input out notes status fault.Read why still h = ended most tree input out notes status ReadFault h.0 (why, still, h.1)
refused most tree input out notes status fault.Memory why still h = ended most tree input out notes status Memory h.0 (still, h.1)

-- the query was read
pub answered : (words tokens : List Token) (most : ℕ) (tree : Tree) (input out notes : Change) (status : Status) → Asks words most tokens
    → IsReading tokens tree → EndsBy most tree input out notes status → FindAnswers words input out notes status
answered words tokens most tree input out notes Memory asks reading h = h
answered words tokens most tree input out notes Usage asks reading h = absurd h
answered words tokens most tree input out notes Stopped asks reading h = absurd h
answered words tokens most tree input out notes Illegal asks reading h = absurd h
answered words tokens most tree input out notes TooMany asks reading h = absurd h
answered words tokens most tree input out notes _ asks reading h = (most, tokens, tree, asks, reading, h)

pub answers_so : (words : List Token) (input out notes : Change) (status s : Status) → status ≡ s → FindAnswers words input out notes s → FindAnswers words input out notes status
answers_so words input out notes status s e h = subst (λ (x : Status). FindAnswers words input out notes x) (sym e) h
