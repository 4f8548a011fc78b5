-- The status that the bytes of an input decide.
use Rattle.std.proofs.Common.{◌≡◌, ◌≢◌, ℕ, ◌-◌, List, refl, ap, subst, sym, Some, IfSome, Option, arith}
use Rattle.exact_text.specs.declared.fault.TextFault.{TextFault}
use Rattle.exact_text.specs.declared.fault.TextFault.TheVariants as fault
use Rattle.exact_text.specs.Exact.{OneAnswer, lines_room}
use Rattle.exact_text.proofs.Shown.{one_answer}
use Rattle.larch_actions.specs.declared.event.Layout.{Layout}
use Rattle.script_text.specs.declared.line.Line.{Line}
use Rattle.script_text.specs.Text.{IsScriptText, ReadsAs}
use Rattle.script_text.specs.Texts.{most_lines, IsShortText}
use Rattle.script_text.proofs.Scripts.{within_lines}
use Rattle.command_endings.specs.declared.status.Status.{Status}
use Rattle.command_endings.specs.declared.status.Status.TheVariants.{Memory, BadText, TooLong}
use Rattle.command_endings.specs.Changes.{Change}
use Rattle.command_endings.specs.Endings.{SaysFault}
use Rattle.command_script.specs.Refusals.{IsRead, Refuses}
use Rattle.command_script.specs.Decided.{IsBad, IsLong, Decides}

-- what the option has, where it is known
known : {A : Type 0} (P : A → Type 0) (o : Option A) (x : A) → o ≡ Some x → IfSome o P → P x
known P o x e h = subst (λ z. IfSome z P) e h

only : OneAnswer IsScriptText (lines_room most_lines)
only = one_answer IsScriptText (lines_room most_lines)

-- a script of at most so many lines is neither bad nor too long
short_or_bad : (bytes : List ℕ) (k : ℕ) → IsShortText bytes → IsBad bytes k → ⊥
short_or_bad bytes k (l, xs, r, few) bad = only.text_or_bad bytes k (l, xs, r) (within_lines bytes l xs r few) bad

short_or_long : (bytes : List ℕ) → IsShortText bytes → IsLong bytes → ⊥
short_or_long bytes (l, xs, r, few) long = only.text_or_long bytes (within_lines bytes l xs r few) long

-- a reason names the line itself
named : (input : Change) (k : ℕ) → Refuses input (fault.BadLine k) → IfSome input.old (λ b. IsBad b k)
named input k h =
    let same : k - 0 ≡ k = omega arith in
    let P : ℕ → Type 0 = λ j. IfSome input.old (λ b. IsBad b j) in
    subst P same h.1

module _ {S : Type 0} (shown : Status → S) (own : S → Type 0) (input : Change) where
  -- a script was read, and the status is one of its own
  pub read_decides : (l : Layout) (xs : List Line) (status : S) → IsRead input l xs → (status ≢ shown Memory → own status) → Decides shown own input status
  read_decides l xs status read ended bytes reported unread some =
      let text : IsShortText bytes = (l, xs, known (λ b. ReadsAs b l xs) input.old bytes reported read.whole, read.few) in
      record {
        done = λ short. ended some;
        bad_line = λ k bad. absurd (short_or_bad bytes k text bad);
        too_long = λ long. absurd (short_or_long bytes text long);
      }

  bad_line_decides : (k : ℕ) → Refuses input (fault.BadLine k) → Decides shown own input (shown BadText)
  bad_line_decides k h bytes reported unread some =
      let bad = known (λ b. IsBad b k) input.old bytes reported (named input k h) in
      record {
        done = λ short. absurd (short_or_bad bytes k short bad);
        bad_line = λ j other. refl;
        too_long = λ long. absurd (only.bad_or_long bytes k bad long);
      }

  too_long_decides : Refuses input fault.TooLong → Decides shown own input (shown TooLong)
  too_long_decides h bytes reported unread some =
      let long = known IsLong input.old bytes reported h in
      record {
        done = λ short. absurd (short_or_long bytes short long);
        bad_line = λ k bad. absurd (only.bad_or_long bytes k bad long);
        too_long = λ same. refl;
      }

  pub refused_decides : (notes : Change) (f : TextFault) (status : Status) → Refuses input f → SaysFault f notes status → Decides shown own input (shown status)
  refused_decides notes (fault.BadLine k) status why said = subst (λ (z : Status). Decides shown own input (shown z)) (sym said.0) (bad_line_decides k why)
  refused_decides notes fault.TooLong status why said = subst (λ (z : Status). Decides shown own input (shown z)) (sym said.0) (too_long_decides why)
  refused_decides notes fault.Read status why said = λ bytes reported unread some. absurd (unread (ap shown said.0))
  refused_decides notes fault.Memory status why said = λ bytes reported unread some. absurd (some (ap shown said.0))
