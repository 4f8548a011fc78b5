-- What the steps of a query ask for.
use Rattle.std.specs.Prelude.{ℕ, List, Bool, true, false}
use Rattle.std.specs.List.{list_any}
use Rattle.std.specs.Str.{bytes_eq}
use Rattle.index_find.specs.declared.query.Step.{Step}
use Rattle.index_find.specs.declared.query.Step.TheVariants as step

abbrev pub is_word_step : List ℕ → Step → Bool
is_word_step word (step.Word w) = bytes_eq w word
is_word_step word s = false

abbrev pub is_not_step : Step → Bool
is_not_step step.Not = true
is_not_step s = false

-- whether the files of this word are asked for
abbrev pub asks_for : List ℕ → List Step → Bool
asks_for word steps = list_any (is_word_step word) steps

-- whether the files are asked for that something else isn't true of
abbrev pub negates : List Step → Bool
negates steps = list_any is_not_step steps
