-- The lines of the sums.
use Rattle.std.specs.Prelude.{ℕ, List, ◌++◌, decimal, codes}
use Rattle.index_sample.specs.declared.summary.SampleSums.{SampleSums}

-- a line each for the files, the directories, the words, the entries and the occurrences
abbrev pub summary_text : SampleSums → List ℕ
summary_text s =
    codes "files " ++ decimal s.files ++ codes "\ndirs " ++ decimal s.dirs ++ codes "\nwords " ++ decimal s.words ++ codes "\nentries "
    ++ decimal s.entries ++ codes "\noccurrences " ++ decimal s.occurrences ++ codes "\n"
