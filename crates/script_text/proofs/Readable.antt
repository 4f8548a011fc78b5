-- Each line that may come is read exactly, and is a line of some length.
use Rattle.std.proofs.Common.{◌≡◌, ◌⊎◌, ℕ, ◌<◌, inl, inr, List, [], ◌∷◌, ◌++◌, length, length-append, refl, arith}
use Rattle.std.specs.Prelude.{codes, decimal}
use Rattle.exact_text.specs.Codes.{IsCode}
use Rattle.exact_text.specs.Prefixes.{IsLine}
use Rattle.exact_text.proofs.Choices.{differ-apart}
use Rattle.exact_text.proofs.CodeLaws.{AreApart, as_code, lawful_code, nothing_code, or_code, same_code, word_code}
use Rattle.exact_text.proofs.Flat.{flat_from, flat_decimal, decimal_short}
use Rattle.exact_text.proofs.Grammar.{IsFlat-append}
use Rattle.larch_actions.specs.declared.event.Layout.{Layout}
use Rattle.larch_actions.specs.declared.event.Version.{Version}
use Rattle.larch_actions.specs.declared.event.Version.TheVariants.{One}
use Rattle.larch_actions.specs.Layout.{IsLawful}
use Rattle.trace_core.specs.Lines.{counts_at}
use Rattle.trace_core.proofs.LineLaws.{counts_code}
use Rattle.trace_core.proofs.Texts.{counts_is_line}
use Rattle.script_text.specs.declared.heads.Start.{Start}
use Rattle.script_text.specs.declared.heads.Start.TheVariants.{Second}
use Rattle.script_text.specs.declared.heads.Start.TheVariants as start
use Rattle.script_text.specs.declared.line.Line.{Line}
use Rattle.script_text.specs.Heads.{IsReadable, whole_layout, IsStart, start_text, start_at}
use Rattle.script_text.specs.Layouts.{IsLayoutIn}
use Rattle.script_text.specs.NextLine.{line_at, whole_line}
use Rattle.script_text.specs.Operations.{Holding, Forked, MayCome}
use Rattle.script_text.specs.Table.{word_text, kinds_of, word_of, numbers_of, operands_text}
use Rattle.script_text.specs.Text.{second_version, line_text, operation_text}
use Rattle.script_text.proofs.Layouts.{few_threads, some_layout}
use Rattle.script_text.proofs.LineCode.{line_code, some_line}
use Rattle.script_text.proofs.Operands.{operands_flat, operands_short}
use Rattle.script_text.proofs.Rows.{fits}

pub layout_code : (v : Version) → IsCode (IsLayoutIn v) whole_layout (counts_at v)
layout_code v = same_code (counts_code v) (IsLayoutIn v) whole_layout (λ l. refl) (λ l h. record { lawful = h.0; version = h.1 }) (λ l h. (h.lawful, h.version))

layout_short : (l : Layout) → IsLawful l → length (whole_layout l) < 65536
layout_short l ok =
    simp length-append (omega (arith, decimal_short l.threads (omega (arith, few_threads l ok)), decimal_short l.mutexes (omega (arith, ok.mutexes)), decimal_short l.conditions (omega (arith, ok.conditions)), decimal_short l.semaphores (omega (arith, ok.semaphores))))

layout_is_line : (l : Layout) → IsLawful l → IsLine (whole_layout l) × (length (whole_layout l) < 65536)
layout_is_line l ok = (counts_is_line l ok, layout_short l ok)

pub layout_readable : (v : Version) → IsReadable (IsLayoutIn v) whole_layout (counts_at v)
layout_readable v = record { exact = layout_code v; lines = λ l h. layout_is_line l h.lawful; some = some_layout v }

abbrev second_line : List ℕ
second_line = second_version ++ 10 ∷ []

abbrev IsSecond : Start → Type 0
IsSecond Second = Unit {0}
IsSecond (start.Layout l) = ⊥

abbrev IsFirst : Start → Type 0
IsFirst Second = ⊥
IsFirst (start.Layout l) = IsLayoutIn One l

only_second : (x : Start) → IsSecond x → x ≡ Second
only_second Second h = refl
only_second (start.Layout l) h = absurd h

second_text : (x : Start) → IsSecond x → start_text x ≡ second_line ++ []
second_text Second h = refl
second_text (start.Layout l) h = absurd h

from_first : (x : Start) → IsFirst x → (l : Layout) × IsLayoutIn One l × (x ≡ start.Layout l)
from_first Second h = absurd h
from_first (start.Layout l) h = (l, h, refl)

starts_apart : AreApart IsSecond IsFirst start_text
starts_apart Second (start.Layout l) a b h k e = differ-apart second_line (codes "t") a _ refl e
starts_apart Second Second a b h k e = absurd k
starts_apart (start.Layout l) y a b h k e = absurd h

to_start : (x : Start) → IsSecond x ⊎ IsFirst x → IsStart x
to_start Second h = tt
to_start (start.Layout l) (inl h) = absurd h
to_start (start.Layout l) (inr h) = h

from_start : (x : Start) → IsStart x → IsSecond x ⊎ IsFirst x
from_start Second h = inl tt
from_start (start.Layout l) h = inr h

pub start_code : IsCode IsStart start_text start_at
start_code =
    let nothing : IsCode IsSecond (λ _. []) _ = nothing_code Second IsSecond (λ _. []) tt only_second refl in
    let second = lawful_code (word_code nothing second_line (Second, tt)) start_text second_text in
    let first = as_code (layout_code One) start.Layout IsFirst start_text (λ l h. (h, refl)) from_first in
    same_code (or_code second first starts_apart) IsStart start_text (λ x. refl) to_start from_start

start_is_line : (x : Start) → IsStart x → IsLine (start_text x) × (length (start_text x) < 65536)
start_is_line Second h = ((second_version, flat_from second_version refl, refl), omega arith)
start_is_line (start.Layout l) h = layout_is_line l h.lawful

pub start_readable : IsReadable IsStart start_text start_at
start_readable = record { exact = start_code; lines = start_is_line; some = (Second, tt) }

line_is_line : (l : Layout) (h : Holding) (f : Forked) → IsLawful l → (x : Line) → MayCome l h f x → IsLine (whole_line x) × (length (whole_line x) < 65536)
line_is_line l h f ok x m =
    let o = x.operation in
    let t = x.thread.0 in
    let ks = kinds_of (word_of o) in
    let fit = fits (word_of o) in
    let t_fits : t < 256 = omega (arith, m.thread, few_threads l ok) in
    let operation = IsFlat-append (word_text (word_of o)) (operands_text ks (numbers_of o)) fit.flat (operands_flat l ok ks (numbers_of o) m.named) in
    let thread = IsFlat-append (decimal t) (codes " " ++ operation_text o) (flat_decimal t (omega arith)) (IsFlat-append (codes " ") (operation_text o) (flat_from (codes " ") refl) operation) in (
      (line_text x, IsFlat-append (codes "t") (decimal t ++ (codes " " ++ operation_text o)) (flat_from (codes "t") refl) thread, refl),
      simp length-append (omega (arith, decimal_short t (omega arith), fit.short, fit.few, operands_short l ok ks (numbers_of o) m.named)),
    )

pub line_readable : (l : Layout) (h : Holding) (f : Forked) → IsLawful l → IsReadable (MayCome l h f) whole_line (line_at l h f)
line_readable l h f ok = record { exact = line_code l ok h f; lines = line_is_line l h f ok; some = some_line l ok h f }
