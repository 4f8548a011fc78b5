-- Scenes: how far the threads of a script have come.
use Rattle.std.specs.Prelude.{ℕ, zero, suc, ◌+◌, cond, List, [], ◌∷◌, take, drop}
use Rattle.larch_actions.specs.declared.event.Version.{Version}
use Rattle.larch_actions.specs.Actions.{Spec, at_first, put}
use Rattle.script_text.specs.declared.line.Line.{Line}
use Rattle.script_text.specs.Runs.{lines_of, total}
use Rattle.script_plays.specs.declared.choice.Turn.{Turn}
use Rattle.script_plays.specs.declared.choice.Turn.TheVariants.{Stays, Next}
use Rattle.script_plays.specs.Choices.{is_silent}

pub record Scene : Type 0 where
  pub spec : Spec
  -- of each thread how many of its lines are played
  pub played : ℕ → ℕ

abbrev pub first_scene : Version → Scene
first_scene version = record { spec = at_first version; played = λ _. 0 }

-- the lines that the thread t has before it
abbrev pub rest_of : List Line → (ℕ → ℕ) → ℕ → List Line
rest_of xs played t = drop (played t) (lines_of t xs)

abbrev pub sum_below : (ℕ → ℕ) → ℕ → ℕ
sum_below f zero = 0
sum_below f (suc n) = sum_below f n + f n

-- the number of the mutex m: what the lines played by these many threads have added
abbrev pub number_of : ℕ → List Line → (ℕ → ℕ) → ℕ → ℕ
number_of threads xs played m = sum_below (λ t. total (take (played t) (lines_of t xs)) m) threads

-- the thread t plays the silent lines that come first of these
abbrev pub settled_over : ℕ → List Line → ℕ → List Line → (ℕ → ℕ) → ℕ → ℕ
settled_over threads xs t [] played = played
settled_over threads xs t (line ∷ rest) played =
    cond (is_silent line.operation (number_of threads xs played)) (settled_over threads xs t rest (put played t (suc (played t)))) played

-- it plays those before it
abbrev pub settled : ℕ → List Line → ℕ → (ℕ → ℕ) → ℕ → ℕ
settled threads xs t played = settled_over threads xs t (rest_of xs played t) played

-- the thread t stays at its line, or goes on to the next
abbrev pub turned : Turn → ℕ → (ℕ → ℕ) → ℕ → ℕ
turned Stays t played = played
turned Next t played = put played t (suc (played t))
