-- What each thread waits for at a scene where a script is stuck, a line each.
use Rattle.std.specs.Prelude.{ℕ, zero, suc, ◌+◌, cond, eqb, nat_le, List, [], ◌∷◌, ◌++◌, length, codes, decimal}
use lib.ListN.{get_or}
use mathlib.Core.Option.{Option, none, some}
use Rattle.larch_actions.specs.declared.event.Layout.{Layout}
use Rattle.larch_actions.specs.declared.event.Event.{Event}
use Rattle.larch_actions.specs.declared.event.Life.{Life}
use Rattle.larch_actions.specs.declared.event.Life.TheVariants.{Unborn, Live, Ended}
use Rattle.larch_actions.specs.declared.event.Version.{Version}
use Rattle.larch_actions.specs.declared.event.Version.TheVariants.{One, Two}
use Rattle.larch_actions.specs.Actions.{Spec}
use Rattle.script_text.specs.declared.line.Line.{Line}
use Rattle.script_text.specs.declared.line.Operation.{Operation}
use Rattle.script_text.specs.declared.line.Operation.TheVariants.{Acquire, Wait, AlertWait, P, AlertP, Until, AlertUntil, Join}
use Rattle.script_text.specs.Layouts.{head_lines}
use Rattle.script_text.specs.Operations.{is_born, none_forked, forked_after}
use Rattle.script_plays.specs.Scenes.{Scene, rest_of}
use Rattle.command_explore.specs.Messages.{stuck_line}

-- how many lines come before the line of the thread t that comes after k others of it
abbrev pub lines_before : ℕ → ℕ → List Line → ℕ
lines_before t k [] = 0
lines_before t zero (x ∷ xs) = cond (eqb x.thread.0 t) 0 (lines_before t zero xs + 1)
lines_before t (suc k) (x ∷ xs) = cond (eqb x.thread.0 t) (lines_before t k xs) (lines_before t (suc k) xs) + 1

-- the number of that line in the text of the script, whose lines count from 1
abbrev pub line_number : Layout → List Line → ℕ → ℕ → ℕ
line_number l xs t k = head_lines l.version + lines_before t k xs + 1

abbrev pub thread_text : ℕ → List ℕ
thread_text t = codes "firefly: t" ++ decimal t

-- who holds a mutex
abbrev pub holder_text : Option ℕ → List ℕ
holder_text none = []
holder_text (some t) = codes ", held by t" ++ decimal t

-- a thread that waits for the mutex m
abbrev pub mutex_text : Spec → ℕ → List ℕ
mutex_text s m = codes " waits for m" ++ decimal m ++ holder_text (s.holder m)

-- a thread in a wait, which is in its condition, or out of it again; the text says more of one that is in it
abbrev pub wait_text : Spec → ℕ → ℕ → ℕ → List ℕ → List ℕ
wait_text s t m c more =
    cond (s.members c t) (codes " is in c" ++ decimal c ++ codes " of m" ++ decimal m ++ more)
    (codes " is out of c" ++ decimal c ++ codes " and" ++ mutex_text s m)

-- the number that a mutex has, and whether it is as large as the one that is waited for
abbrev pub number_text : ℕ → ℕ → List ℕ
number_text now least =
    codes ", whose number is " ++ decimal now ++ cond (nat_le least now) (codes ", which is enough") (codes ", not " ++ decimal least)

-- what the thread t waits for in such a call, where the mutexes have these numbers
abbrev pub waits_text : Spec → List ℕ → ℕ → Operation → List ℕ
waits_text s numbers t (Acquire m) = mutex_text s m.0
waits_text s numbers t (Wait m c) = wait_text s t m.0 c.0 []
waits_text s numbers t (AlertWait m c) = wait_text s t m.0 c.0 []
waits_text s numbers t (Until m c n) = wait_text s t m.0 c.0 (number_text (get_or numbers m.0 0) n)
waits_text s numbers t (AlertUntil m c n) = wait_text s t m.0 c.0 (number_text (get_or numbers m.0 0) n)
waits_text s numbers t (P sem) = codes " waits for s" ++ decimal sem.0
waits_text s numbers t (AlertP sem) = codes " waits for s" ++ decimal sem.0
waits_text s numbers t (Join u) = codes " waits for the end of t" ++ decimal u.0
waits_text s numbers t _ = codes " can't go on"

-- the line of a thread that stands at line k, which makes this call
abbrev pub at_text : Spec → List ℕ → ℕ → ℕ → Operation → List ℕ
at_text s numbers t k o = thread_text t ++ codes " at line " ++ decimal k ++ waits_text s numbers t o ++ codes "\n"

-- the line of a thread that is after its last line: in version one it is finished
abbrev pub after_text : Version → ℕ → List ℕ
after_text One t = []
after_text Two t = thread_text t ++ codes " can't end\n"

-- the line of a thread that lives and has these lines before it
abbrev pub stands_text : Layout → List Line → List ℕ → Scene → ℕ → List Line → List ℕ
stands_text l xs numbers s t [] = after_text l.version t
stands_text l xs numbers s t (x ∷ rest) = at_text s.spec numbers t (line_number l xs t (s.played t)) x.operation

-- the line of a thread that is not forked: none where no line forks it
abbrev pub unborn_text : List Line → ℕ → List ℕ
unborn_text xs t = cond (is_born (forked_after none_forked xs) t) (thread_text t ++ codes " is not forked yet\n") []

-- the line of the thread t, which has this life: none where it is finished
abbrev pub life_text : Layout → List Line → List ℕ → Scene → ℕ → Life → List ℕ
life_text l xs numbers s t Unborn = unborn_text xs t
life_text l xs numbers s t Live = stands_text l xs numbers s t (rest_of xs s.played t)
life_text l xs numbers s t Ended = []

-- the lines of the threads below n, in order
abbrev pub lines_text : Layout → List Line → List ℕ → Scene → ℕ → List ℕ
lines_text l xs numbers s zero = []
lines_text l xs numbers s (suc n) = lines_text l xs numbers s n ++ life_text l xs numbers s n (s.spec.life n)

-- how many events led to the scene, and the lines of all threads
abbrev pub stuck_text : Layout → List Line → List Event → List ℕ → Scene → List ℕ
stuck_text l xs events numbers s = stuck_line (length events) ++ lines_text l xs numbers s l.threads
