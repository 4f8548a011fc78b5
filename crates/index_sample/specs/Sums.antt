-- The sums of an index, and how a run that can't fail ends.
use Rattle.std.specs.Prelude.{◌≡◌, ℕ, ◌+◌, length}
use Rattle.firefly_outside.specs.Samples.{dir_count}
use Rattle.word_index.specs.Index.{Index, entries, occurrences}
use Rattle.indexer.specs.declared.answer.IndexAnswer.{IndexAnswer}
use Rattle.indexer.specs.declared.answer.IndexAnswer.TheVariants.{Done, Stopped, ReadFault, TooMany, Memory}
use Rattle.index_sample.specs.declared.summary.SampleSums.{SampleSums}

-- the files, words, entries and occurrences of the index, and the directories of `files` sample
-- files, with the root
pub record Sums (files : ℕ) (index : Index) (sums : SampleSums) : Type 0 where
  pub count_files : sums.files ≡ length index.paths
  pub count_dirs : sums.dirs ≡ 1 + dir_count files
  pub count_words : sums.words ≡ length index.rows
  pub count_entries : sums.entries ≡ length (entries index)
  pub count_all : sums.occurrences ≡ occurrences index

-- the end of a run that neither stopped nor failed
abbrev pub IsDoneOrMemory : IndexAnswer → Type 0
IsDoneOrMemory (Done piece closed) = Unit {0}
IsDoneOrMemory (Stopped many) = ⊥
IsDoneOrMemory (ReadFault path) = ⊥
IsDoneOrMemory (TooMany many) = ⊥
IsDoneOrMemory Memory = Unit {0}

-- the sums are those of the index that this is
abbrev pub SumsAnswer : ℕ → IndexAnswer → SampleSums → Type 0
SumsAnswer files (Done piece closed) sums = Sums files piece sums
SumsAnswer files (Stopped many) sums = ⊥
SumsAnswer files (ReadFault path) sums = ⊥
SumsAnswer files (TooMany many) sums = ⊥
SumsAnswer files Memory sums = ⊥
