-- A line is shorter than a window.
use Rattle.std.proofs.Common.{ℕ, ◌+◌, ◌-◌, ◌*◌, ◌<◌, ◌≤◌, List, [], ◌∷◌, length, length-append, arith}
use Rattle.larch_actions.specs.declared.event.Version.{Version}
use Rattle.larch_actions.specs.declared.event.Version.TheVariants as version
use Rattle.larch_actions.specs.declared.event.Layout.{Layout}
use Rattle.larch_actions.specs.declared.event.Action.{Action}
use Rattle.larch_actions.specs.declared.kind.Kind.{Kind}
use Rattle.larch_actions.specs.declared.kind.Kind.TheVariants.{Thread}
use Rattle.larch_actions.specs.declared.rows.Numbers.{Numbers}
use Rattle.larch_actions.specs.declared.rows.Kinds.{Kinds}
use Rattle.larch_actions.specs.declared.rows.Kinds.TheVariants as kinds
use Rattle.larch_actions.specs.declared.rows.Endings.{Endings}
use Rattle.larch_actions.specs.declared.rows.Endings.TheVariants as endings
use Rattle.larch_actions.specs.declared.rows.Ending.{Ending}
use Rattle.larch_actions.specs.declared.rows.Ending.TheVariants.{Nothing, Returns, Raises, Yes, No, Left}
use Rattle.larch_actions.specs.Layout.{IsLawful, IsNamed, AreBelow}
use Rattle.larch_actions.specs.Rows.{word_text, kinds_of, endings_of, row_of}
use Rattle.larch_actions.proofs.Names.{few_of}
use Rattle.larch_actions.proofs.Table.{each_plain}
use Rattle.trace_core.specs.declared.line.Line.{Line}
use Rattle.trace_core.specs.declared.line.Line.TheVariants as line
use Rattle.trace_core.specs.declared.line.Expect.{Expect}
use Rattle.trace_core.specs.declared.line.Expect.TheVariants as expect
use Rattle.trace_core.specs.Names.{IsRising}
use Rattle.trace_core.specs.Text.{first_line, action_text, names_text, with_name, with_names, with_ending, members}
use Rattle.trace_core.specs.Lines.{line_text, IsPossible, IsAllowed}
use Rattle.exact_text.specs.Prefixes.{IsLine}
use Rattle.exact_text.proofs.Flat.{decimal_short}
use Rattle.trace_core.proofs.Texts.{line_grammar}
use Rattle.trace_core.proofs.Members.{rising-members}
use Rattle.trace_core.proofs.RowTexts.{neither}
use Rattle.trace_core.proofs.RowLaws.{EndsIn, named_parts}

names_short : (least bound : ℕ) (ts : List ℕ) → bound ≤ 256 → IsRising least bound ts → length (names_text ts) ≤ 22 * (bound - least)
names_short least bound [] small h = omega arith
names_short least bound (t ∷ ts) small h =
    simp length-append (omega (arith, decimal_short t (omega (arith, h.1)), names_short (t + 1) bound ts small h.2, h.0, h.1))

name_short : (prefix : List ℕ) (k : Kind) (n : ℕ) → n < 256 → length (with_name prefix k n) ≤ length prefix + 22
name_short prefix k n low = simp length-append (omega (arith, decimal_short n (omega arith)))

with_short : (l : Layout) → IsLawful l → (prefix : List ℕ) (ks : Kinds) (x : Numbers) → AreBelow l ks x → length (with_names prefix ks x) ≤ length prefix + 44
with_short l ok prefix kinds.Nothing x h = omega arith
with_short l ok prefix (kinds.One k) x h = omega (arith, name_short prefix k x.first (omega (arith, h, few_of l ok k)))
with_short l ok prefix (kinds.Two k j) x h =
    omega (arith, name_short prefix k x.first (omega (arith, h.0, few_of l ok k)), name_short (with_name prefix k x.first) j x.second (omega (arith, h.1, few_of l ok j)))

left_short : (l : Layout) → IsLawful l → (prefix : List ℕ) (e : Ending) → EndsIn l endings.Threads e → length (with_ending prefix e) ≤ length prefix + 5650
left_short l ok prefix (Left left) h =
    simp length-append (omega (arith, names_short 0 l.threads (members left) (few_of l ok Thread) (rising-members left l.threads h.1), few_of l ok Thread))
left_short l ok prefix _ h = let k = h.0.1 in absurd (cc)

ending_short : (l : Layout) → IsLawful l → (es : Endings) (prefix : List ℕ) (e : Ending) → EndsIn l es e → length (with_ending prefix e) ≤ length prefix + 5650
ending_short l ok endings.Threads prefix e h = left_short l ok prefix e h
ending_short l ok _ prefix Nothing h = omega arith
ending_short l ok _ prefix Returns h = simp length-append (omega arith)
ending_short l ok _ prefix Raises h = simp length-append (omega arith)
ending_short l ok _ prefix Yes h = simp length-append (omega arith)
ending_short l ok _ prefix No h = simp length-append (omega arith)
ending_short l ok endings.Nothing prefix (Left left) h = absurd (cc)
ending_short l ok endings.Outcome prefix (Left left) h = neither _ Returns Raises (λ k. absurd (cc)) (λ k. absurd (cc)) h
ending_short l ok endings.Answer prefix (Left left) h = neither _ Yes No (λ k. absurd (cc)) (λ k. absurd (cc)) h

action_short : (l : Layout) (a : Action) → IsLawful l → IsNamed l a → length (action_text a) ≤ 5750
action_short l a ok h =
    let r = row_of a in
    let parts = named_parts l a h in
    let prefix = with_names (word_text r.word) (kinds_of r.word) r.numbers in
    omega (arith, ending_short l ok (endings_of r.word) prefix r.ending parts.1, with_short l ok (word_text r.word) (kinds_of r.word) r.numbers parts.0, (each_plain r.word).0)

first_short : (v : Version) → length (first_line v) ≤ 6250
first_short version.One = omega arith
first_short version.Two = omega arith

line_short : (x : Expect) → IsPossible x → (y : Line) → IsAllowed x y → length (line_text x y) ≤ 6250
line_short expect.Head ok (line.Head v) h = first_short v
line_short expect.Head ok _ h = absurd h
line_short (expect.Counts v) ok (line.Counts l) h =
    simp length-append (omega (arith, decimal_short l.threads (omega (arith, few_of l h.0 Thread)), decimal_short l.mutexes (omega (arith, h.0.mutexes)), decimal_short l.conditions (omega (arith, h.0.conditions)), decimal_short l.semaphores (omega (arith, h.0.semaphores))))
line_short (expect.Counts v) ok _ h = absurd h
line_short (expect.Events l n) ok (line.Event e) h =
    simp length-append (omega (arith, decimal_short n (omega (arith, ok.1)), decimal_short e.thread.0 (omega (arith, few_of l ok.0 Thread, h.0.0)), action_short l e.action ok.0 h.0.1))
line_short (expect.Events l n) ok line.End h = simp length-append (omega (arith, decimal_short n (omega (arith, ok.1))))
line_short (expect.Events l n) ok _ h = absurd h
line_short (expect.Values l least) ok (line.Value k v) h = simp length-append (omega (arith, decimal_short k (omega (arith, ok.0.mutexes, h.1)), decimal_short v h.2))
line_short (expect.Values l least) ok _ h = absurd h

-- a line, and shorter than a window
pub line_is_line : (x : Expect) → IsPossible x → (y : Line) → IsAllowed x y → IsLine (line_text x y) × (length (line_text x y) < 65536)
line_is_line x ok y h = ((line_grammar x ok).lines y h, omega (arith, line_short x ok y h))

pub some_line : (x : Expect) → IsPossible x → (y : Line) × IsAllowed x y
some_line x ok = (line_grammar x ok).some
