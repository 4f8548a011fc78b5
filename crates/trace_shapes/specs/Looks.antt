-- The marks of events: how each looks, and what it is the mark of.
use Rattle.std.specs.Prelude.{ℕ, Bool, true, false, if◌then◌else◌, List, codes, slice_index}
use Rattle.trace_board.specs.declared.marks.Mark.{Mark}
use Rattle.trace_board.specs.declared.marks.Mark.TheVariants.{Acquire, Release, Enqueue, Resume, Signal, Broadcast, P, V, Alert, TestAlert, AlertEnqueue, AlertReturn, AlertRaise, AlertPReturn, AlertPRaise, Fork, End, Join, Failed}
use Rattle.trace_shapes.specs.declared.legend.Look.{Look}
use Rattle.trace_shapes.specs.declared.geometry.TheConstants.{LETTER_LEFT, MIDDLE}

-- how a mark is called, its class, and how it is shown
abbrev pub look : ℕ → ℕ → ℕ → Look
look letter class shown = record { letter = letter; class = class; shown = shown }

-- the same, in a text of three
abbrev pub look_text : List ℕ → Look
look_text t = look (slice_index t 0) (slice_index t 1) (slice_index t 2)

abbrev pub look_of : Mark → Look
look_of Acquire = look_text (codes "AoA")
look_of Release = look_text (codes "RoR")
look_of Enqueue = look_text (codes "WkW")
look_of Resume = look_text (codes "CkC")
look_of Signal = look_text (codes "SgS")
look_of Broadcast = look_text (codes "BgB")
look_of P = look_text (codes "PbP")
look_of V = look_text (codes "VbV")
look_of Alert = look_text (codes "Lv!")
look_of TestAlert = look_text (codes "Tv?")
look_of AlertEnqueue = look_text (codes "wkw")
look_of AlertReturn = look_text (codes "ckc")
look_of AlertRaise = look_text (codes "xvx")
look_of AlertPReturn = look_text (codes "pbp")
look_of AlertPRaise = look_text (codes "yvy")
look_of Fork = look_text (codes "fjF")
look_of End = look_text (codes "EjE")
look_of Join = look_text (codes "JjJ")
look_of Failed = look_text (codes "Ff#")

-- a number stands beside its letter: not where a bar has the name of the object, or the row
abbrev pub has_number : Mark → Bool
has_number Acquire = false
has_number Release = false
has_number TestAlert = false
has_number End = false
has_number Failed = false
has_number _ = true

-- where its letter stands
abbrev pub letter_x : Mark → ℕ
letter_x m = if has_number m then LETTER_LEFT else MIDDLE

-- what it is the mark of
abbrev pub words_of : Mark → List ℕ
words_of Acquire = codes "acquire"
words_of Release = codes "release"
words_of Enqueue = codes "enqueue: a wait begins"
words_of Resume = codes "resume: a wait ends"
words_of Signal = codes "signal"
words_of Broadcast = codes "broadcast"
words_of P = codes "p"
words_of V = codes "v"
words_of Alert = codes "alert"
words_of TestAlert = codes "test-alert"
words_of AlertEnqueue = codes "alert-enqueue"
words_of AlertReturn = codes "alert-resume returns"
words_of AlertRaise = codes "alert-resume raises"
words_of AlertPReturn = codes "alert-p returns"
words_of AlertPRaise = codes "alert-p raises"
words_of Fork = codes "fork"
words_of End = codes "end"
words_of Join = codes "join"
words_of Failed = codes "event that fails"
