-- A text is that of one list of lines, and an input has one answer.
use Rattle.std.proofs.Common.{◌≡◌, ℕ, ◌≤◌, List, [], ◌∷◌, length, refl, ap, sym, subst, ◌∙◌, Some, None, IfSome, arith, length-append}
use Rattle.std.specs.List.{AllByRecursion, flat_map}
use Rattle.std.specs.declared.option.Option.{Option}
use Rattle.exact_text.specs.declared.fault.TextFault.{TextFault}
use Rattle.exact_text.specs.declared.fault.TextFault.TheVariants as fault
use Rattle.exact_text.specs.Exact.{OrMemory, IsShown, IsTooLong, lines_room}
use Rattle.exact_text.proofs.CodeLaws.{read_same}
use Rattle.exact_text.proofs.Grammar.{line_some}
use Rattle.exact_text.proofs.LinesOf.{within_lines}
use Rattle.exact_text.proofs.Shown.{one_answer}
use Rattle.command_jobs.specs.declared.job_line.JobLine.{JobLine}
use Rattle.command_jobs.specs.JobLines.{IsJobs, IsLawful, line_text, ReadsAs, most_lines, IsDecided}
use Rattle.command_jobs.specs.JobReading.{job_code, job_is_line}

same_lines : (xs ys : List JobLine) → AllByRecursion IsLawful xs → AllByRecursion IsLawful ys → flat_map line_text xs ≡ flat_map line_text ys → xs ≡ ys
same_lines [] [] p q e = refl
same_lines [] (y ∷ ys) p q e =
    let some = line_some (line_text y) (job_is_line y q.0).0 in
    absurd (omega (arith, ap length e, some, length-append (line_text y) (flat_map line_text ys)))
same_lines (x ∷ xs) [] p q e =
    let some = line_some (line_text x) (job_is_line x p.0).0 in
    absurd (omega (arith, ap length e, some, length-append (line_text x) (flat_map line_text xs)))
same_lines (x ∷ xs) (y ∷ ys) p q e =
    let first = read_same job_code x y (flat_map line_text xs) (flat_map line_text ys) p.0 q.0 e in
    let same = first.0 in
    let rest = same_lines xs ys p.1 q.1 first.1 in
    cc

pub is_decided : IsDecided
is_decided = record {
  one_answer = one_answer IsJobs (lines_room most_lines);
  one_list = λ input xs ys p q. same_lines xs ys p.lawful q.lawful (sym p.text ∙ q.text);
}

module _ (input : List ℕ) (lines : List JobLine) (text : ReadsAs input lines) (few : length lines ≤ most_lines) where
  -- a text of few enough lines may be read whole
  within : length input ≤ lines_room most_lines input
  within =
      let w = within_lines job_code (λ x h. (job_is_line x h).0) lines most_lines text.lawful few in
      let P : List ℕ → Type 0 = λ l. length l ≤ lines_room most_lines l in subst P (sym text.text) w

  pub text_or_bad : (k : ℕ) → IsShown IsJobs (lines_room most_lines input) input k → ⊥
  text_or_bad k b = is_decided.one_answer.text_or_bad input k (lines, text.lawful, text.text) within b

  pub text_or_long : IsTooLong IsJobs (lines_room most_lines input) input → ⊥
  text_or_long l = is_decided.one_answer.text_or_long input within l

pub read_as : (r : Option (List ℕ)) (xs : List JobLine) → AllByRecursion IsLawful xs → IfSome r (λ bytes. bytes ≡ flat_map line_text xs) → IfSome r (λ bytes. ReadsAs bytes xs)
read_as None xs all h = tt
read_as (Some bytes) xs all h = record { lawful = all; text = h }
