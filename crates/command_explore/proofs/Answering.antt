-- The statuses and their causes.
use Rattle.std.proofs.Common.{◌≡◌, ◌≢◌, inl, inr, ℕ, List, refl, sym, ap, subst}
use Rattle.exact_text.specs.declared.fault.TextFault.{TextFault}
use Rattle.exact_text.specs.declared.fault.TextFault.TheVariants as fault
use Rattle.larch_actions.specs.declared.event.Layout.{Layout}
use Rattle.trace_core.specs.Text.{ReadsAs}
use Rattle.trace_core.specs.Whole.{numbered}
use Rattle.script_text.specs.declared.line.Line.{Line}
use Rattle.script_plays.specs.Plays.{Ends}
use Rattle.script_plays.proofs.Scened.{plays_are_legal}
use Rattle.script_search.specs.declared.explorer.Stuck.{Stuck as Found}
use Rattle.script_search.specs.Boards.{moment_of, scene_of}
use Rattle.script_search.specs.Explored.{IsStuckAt}
use Rattle.command_endings.specs.declared.status.Status.{Status}
use Rattle.command_endings.specs.declared.status.Status.TheVariants.{Done, Usage, ReadFault, SinkFault, Stopped, Memory, Illegal, BadText, TooMany, TooLong}
use Rattle.command_endings.specs.Changes.{Change, IsStill, GetsPrefix, Notes}
use Rattle.command_endings.specs.Messages.{memory_message, output_fault_message}
use Rattle.command_endings.specs.Endings.{SaysFault}
use Rattle.command_endings.specs.Printing.{Prints}
use Rattle.command_script.specs.Refusals.{IsRead, Refuses}
use Rattle.command_explore.specs.declared.stuck.ExploreStatus.{ExploreStatus}
use Rattle.command_explore.specs.declared.stuck.ExploreStatus.TheVariants.{Stuck, As}
use Rattle.command_explore.specs.Messages.{ends_line}
use Rattle.command_explore.specs.Waits.{stuck_text}
use Rattle.command_explore.specs.Explore.{Answers, Explores, GetsStuck, IsPrinted, Own, ReportsFault, trace_of}

module _ (limit : ℕ) (l : Layout) (xs : List Line) (out notes : Change) where
  pub no_memory : (status : Status) → status ≡ Memory → IsStill out → Notes notes memory_message → Explores limit l xs out notes (As status)
  no_memory status is still said = subst (λ (s : Status). Explores limit l xs out notes (As s)) (sym is) (still, said)

  pub no_output : (answer : List ℕ) (status : Status) → status ≡ SinkFault → IsPrinted l xs answer → GetsPrefix out answer → Notes notes output_fault_message → Explores limit l xs out notes (As status)
  no_output answer status is printed got said = subst (λ (s : Status). Explores limit l xs out notes (As s)) (sym is) (answer, printed, got, said)

  pub printed_ends : (status : Status) → Ends l xs → Prints ends_line Done out notes status → Explores limit l xs out notes (As status)
  printed_ends status ends (inl h) = subst (λ (s : Status). Explores limit l xs out notes (As s)) (sym h.0) (ends, h.1, h.2)
  printed_ends status ends (inr h) = no_output ends_line status h.0 (inl (ends, refl)) h.1 h.2

  -- the results of a search are those of the script that was read
  pub answered : (input : Change) (status : ExploreStatus) → IsRead input l xs → Explores limit l xs out notes status → Answers limit input out notes status
  answered input Stuck read h = (l, xs, read, h)
  answered input (As Done) read h = (l, xs, read, h)
  answered input (As SinkFault) read h = (l, xs, read, h)
  answered input (As Stopped) read h = (l, xs, read, h)
  answered input (As Memory) read h = h
  answered input (As Usage) read h = absurd h
  answered input (As ReadFault) read h = absurd h
  answered input (As Illegal) read h = absurd h
  answered input (As BadText) read h = absurd h
  answered input (As TooMany) read h = absurd h
  answered input (As TooLong) read h = absurd h

  pub is_own : (status : ExploreStatus) → Explores limit l xs out notes status → status ≢ As Memory → Own status
  is_own Stuck h some = inr (inl refl)
  is_own (As Done) h some = inl refl
  is_own (As SinkFault) h some = inr (inr (inr refl))
  is_own (As Stopped) h some = inr (inr (inl refl))
  is_own (As Memory) h some = absurd (some refl)
  is_own (As Usage) h some = absurd h
  is_own (As ReadFault) h some = absurd h
  is_own (As Illegal) h some = absurd h
  is_own (As BadText) h some = absurd h
  is_own (As TooMany) h some = absurd h
  is_own (As TooLong) h some = absurd h

-- a play that gets stuck, with its trace and what is said of it
pub gets_stuck : (l : Layout) (xs : List Line) (s : Found) (text : List ℕ) → IsStuckAt l xs s → ReadsAs (trace_of l s) l s.events.items (numbered 0 s.numbers.items)
    → text ≡ stuck_text l xs s.events.items s.numbers.items (scene_of (moment_of s.board)) → GetsStuck l xs (trace_of l s) text
gets_stuck l xs s text at reads said = record {
  events = s.events.items;
  scene = scene_of (moment_of s.board);
  numbers = s.numbers.items;
  stuck = at.stuck;
  play = at.play;
  are_numbers = at.numbers;
  reads = reads;
  legal = plays_are_legal l xs s.events.items (scene_of (moment_of s.board)) at.play;
  said = said;
}

-- what is answered where no script was read
pub refused_answers : (limit : ℕ) (input out notes : Change) (f : TextFault) (status : Status) → Refuses input f → IsStill out → SaysFault f notes status → Answers limit input out notes (As status)
refused_answers limit input out notes (fault.BadLine k) status why still said = subst (λ (s : Status). Answers limit input out notes (As s)) (sym said.0) (k, why, still, said.1)
refused_answers limit input out notes fault.TooLong status why still said = subst (λ (s : Status). Answers limit input out notes (As s)) (sym said.0) (why, still, said.1)
refused_answers limit input out notes fault.Read status why still said = subst (λ (s : Status). Answers limit input out notes (As s)) (sym said.0) (why, still, said.1)
refused_answers limit input out notes fault.Memory status why still said = subst (λ (s : Status). Answers limit input out notes (As s)) (sym said.0) (still, said.1)

pub refused_reports : (input notes : Change) (f : TextFault) (status : Status) → SaysFault f notes status → (f ≢ fault.Read → input.now ≡ input.before) → ReportsFault input (As status)
refused_reports input notes fault.Read status said otherwise unread = absurd (unread (ap As said.0))
refused_reports input notes _ status said otherwise unread = otherwise (λ e. cc)
