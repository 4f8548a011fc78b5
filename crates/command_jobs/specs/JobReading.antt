-- Reading the line of a job.
use Rattle.std.specs.Prelude.{◌≡◌, ◌⊎◌, ℕ, ◌<◌, ◌≤◌, [], ◌∷◌, ◌++◌, length, codes, decimal, Ok}
use Rattle.std.proofs.Common.{inl, inr, refl, length-append, append_assoc, sym, ◌∙◌, arith}
use Rattle.exact_text.specs.Codes.{IsCode}
use Rattle.exact_text.specs.Prefixes.{IsLine}
use Rattle.exact_text.specs.Reading.{Reader, after_word, as_value, either, number_at}
use Rattle.exact_text.proofs.Choices.{differ-apart}
use Rattle.exact_text.proofs.CodeLaws.{AreApart, as_code, lawful_code, nothing_code, or_code, same_code, word_code}
use Rattle.exact_text.proofs.Flat.{flat_from, flat_decimal, decimal_short}
use Rattle.exact_text.proofs.Grammar.{IsFlat-append}
use Rattle.exact_text.proofs.Numbers.{number_code}
use Rattle.command_jobs.specs.declared.job_line.JobLine.{JobLine}
use Rattle.command_jobs.specs.declared.job_line.JobLine.TheVariants.{Sum, Stop}
use Rattle.command_jobs.specs.JobLines.{IsLawful, line_text}

-- the line of a job
abbrev pub job_at : Reader JobLine
job_at =
    either (after_word (codes "stop" ++ 10 ∷ []) (λ rest. Ok (Stop, rest)))
    (as_value Sum (after_word (codes "sum ") (number_at 0 1000001 10)))

abbrev IsStop : JobLine → Type 0
IsStop Stop = Unit {0}
IsStop (Sum n) = ⊥

abbrev IsSum : JobLine → Type 0
IsSum Stop = ⊥
IsSum (Sum n) = n ≤ 1000000

only_stop : (x : JobLine) → IsStop x → x ≡ Stop
only_stop Stop h = refl
only_stop (Sum n) h = absurd h

stop_text : (x : JobLine) → IsStop x → line_text x ≡ (codes "stop" ++ 10 ∷ []) ++ []
stop_text Stop h = refl
stop_text (Sum n) h = absurd h

from_sum : (x : JobLine) → IsSum x → (n : ℕ) × ((0 ≤ n) × (n < 1000001)) × (x ≡ Sum n)
from_sum Stop h = absurd h
from_sum (Sum n) h = (n, (omega arith, omega (arith, h)), refl)

apart : AreApart IsStop IsSum line_text
apart Stop (Sum n) a b h k e =
    differ-apart (line_text Stop) (codes "sum ") a ((decimal n ++ 10 ∷ []) ++ b) refl (e ∙ append_assoc (codes "sum ") (decimal n ++ 10 ∷ []) b)
apart Stop Stop a b h k e = absurd k
apart (Sum n) y a b h k e = absurd h

to_lawful : (x : JobLine) → IsStop x ⊎ IsSum x → IsLawful x
to_lawful Stop h = tt
to_lawful (Sum n) (inl h) = absurd h
to_lawful (Sum n) (inr h) = h

from_lawful : (x : JobLine) → IsLawful x → IsStop x ⊎ IsSum x
from_lawful Stop h = inl tt
from_lawful (Sum n) h = inr h

pub job_code : IsCode IsLawful line_text job_at
job_code =
    let nothing : IsCode IsStop (λ _. []) _ = nothing_code Stop IsStop (λ _. []) tt only_stop refl in
    let stop = lawful_code (word_code nothing (codes "stop" ++ 10 ∷ []) (Stop, tt)) line_text stop_text in
    let number = number_code 0 1000001 10 (omega arith) (omega arith) (omega arith) (omega arith) in
    let sum = as_code (word_code number (codes "sum ") (0, (omega arith, omega arith))) Sum IsSum line_text (λ n h. (omega (arith, h.1), refl)) from_sum in
    same_code (or_code stop sum apart) IsLawful line_text (λ x. refl) to_lawful from_lawful

pub some_job : (x : JobLine) × IsLawful x
some_job = (Stop, tt)

pub job_is_line : (x : JobLine) → IsLawful x → IsLine (line_text x) × (length (line_text x) < 65536)
job_is_line Stop h = ((codes "stop", flat_from (codes "stop") refl, refl), omega arith)
job_is_line (Sum n) h =
    let body = codes "sum " ++ decimal n in (
      (body, IsFlat-append (codes "sum ") (decimal n) (flat_from (codes "sum ") refl) (flat_decimal n (omega (arith, h))), sym (append_assoc (codes "sum ") (decimal n) (10 ∷ []))),
      omega (arith, length-append (codes "sum ") (decimal n ++ 10 ∷ []), length-append (decimal n) (10 ∷ []), decimal_short n (omega (arith, h))),
    )
