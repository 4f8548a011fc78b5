-- What the commands `index` and `trace` answer, by what their run gave.
use Rattle.std.proofs.Common.{◌≡◌, inl, inr, ℕ, List, Option, Result, Ok, Err, sym, subst}
use Rattle.word_index.specs.Index.{Index}
use Rattle.index_print.specs.Text.{index_text}
use Rattle.command_line.specs.Grammar.{Options}
use Rattle.command_endings.specs.Changes.{Change, IsStill}
use Rattle.command_endings.specs.Printing.{Prints}
use Rattle.firefly.specs.IndexCommand.{IndexAnswers}
use Rattle.firefly.specs.IndexRun.{AreAskedOnce, IsTheIndex, NoIndex, NoneRose}
use Rattle.firefly.specs.Looks.{Look}
use Rattle.firefly.specs.TraceCommand.{IsIndexTrace, TraceAnswers}
use Rattle.command_endings.specs.declared.status.Status.{Status}
use Rattle.command_endings.specs.declared.status.Status.TheVariants.{Done, Usage, ReadFault, SinkFault, Stopped, Memory, Illegal, BadText, TooMany, TooLong}

module _ {A : Type 0} where
  pub no_error : {x : A} {s : Status} → (let r : Result A Status = Ok x in r) ≡ Err s → ⊥
  no_error e = cc

  pub same_error : {r s : Status} → (let x : Result A Status = Err r in x) ≡ Err s → r ≡ s
  same_error e = cc

module _ (o : Options) (old new : List (Option Look)) (out notes : Change) where
  pub index_printed : (piece : Index) (answer : Status) → IsTheIndex o old piece → NoneRose old new → AreAskedOnce o old new → Prints (index_text piece) Done out notes answer → IndexAnswers o old new out notes answer
  index_printed piece answer is none once (inl p) = subst (λ (s : Status). IndexAnswers o old new out notes s) (sym p.0) (piece, is, none, once, p.1, p.2)
  index_printed piece answer is none once (inr p) = subst (λ (s : Status). IndexAnswers o old new out notes s) (sym p.0) (piece, is, none, once, p.1, p.2)

  pub trace_printed : (bytes : List ℕ) (answer : Status) → IsIndexTrace o old new bytes → Prints bytes Done out notes answer → TraceAnswers o old new out notes answer
  trace_printed bytes answer is (inl p) = subst (λ (s : Status). TraceAnswers o old new out notes s) (sym p.0) (bytes, is, p.1, p.2)
  trace_printed bytes answer is (inr p) = subst (λ (s : Status). TraceAnswers o old new out notes s) (sym p.0) (bytes, is, p.1, p.2)

  pub no_index : (status : Status) → NoIndex o old new notes status → IsStill out → IndexAnswers o old new out notes status
  no_index Done h still = absurd h
  no_index Usage h still = absurd h
  no_index ReadFault h still = (h, still)
  no_index SinkFault h still = absurd h
  no_index Stopped h still = (h, still)
  no_index Memory h still = (h, still)
  no_index Illegal h still = absurd h
  no_index BadText h still = absurd h
  no_index TooMany h still = (h, still)
  no_index TooLong h still = absurd h

  pub no_trace : (status : Status) → NoIndex o old new notes status → IsStill out → TraceAnswers o old new out notes status
  no_trace Done h still = absurd h
  no_trace Usage h still = absurd h
  no_trace ReadFault h still = (h, still)
  no_trace SinkFault h still = absurd h
  no_trace Stopped h still = (h, still)
  no_trace Memory h still = (h, still)
  no_trace Illegal h still = absurd h
  no_trace BadText h still = absurd h
  no_trace TooMany h still = (h, still)
  no_trace TooLong h still = absurd h
