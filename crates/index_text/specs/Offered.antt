-- What the reader of an index text offers of it.
use Rattle.std.specs.Prelude.{ℕ, ◌-◌, List, [], ◌∷◌, ◌++◌, length, slice_get, OnOk, Result}
use Rattle.std.specs.declared.option.Option.{Option}
use Rattle.exact_text.specs.declared.fault.TextFault.{TextFault}
use Rattle.word_index.specs.Index.{Hit, Row}
use Rattle.index_table.specs.Rows.{paths_of, words_of}

-- what was offered: whole rows, the word and the hits of the row under way, and skipped paths
pub record Offered : Type 0 where
  pub rows : List Row
  pub word : List ℕ
  pub hits : List Hit
  pub skipped : List (List ℕ)

abbrev pub nothing : Offered
nothing = record { rows = []; word = []; hits = []; skipped = [] }

-- and then the word of the next row, a hit of it, its end, or a skipped path
abbrev pub with_word : List ℕ → Offered → Offered
with_word w t = record t { word = w }

abbrev pub with_hit : Hit → Offered → Offered
with_hit hit t = record t { hits = t.hits ++ hit ∷ [] }

abbrev pub with_end : Offered → Offered
with_end t = record { rows = t.rows ++ record { word = t.word; hits = t.hits } ∷ []; word = t.word; hits = []; skipped = t.skipped }

abbrev pub with_skipped : List ℕ → Offered → Offered
with_skipped path t = record t { skipped = t.skipped ++ path ∷ [] }

abbrev pub last_path : Offered → Option (List ℕ)
last_path t = slice_get (paths_of t.hits) (length t.hits - 1)

abbrev pub last_word : Offered → Option (List ℕ)
last_word t = slice_get (words_of t.rows) (length t.rows - 1)

abbrev pub last_skipped : Offered → Option (List ℕ)
last_skipped t = slice_get t.skipped (length t.skipped - 1)

-- A taker that was offered something of which this holds was offered more, unless the call failed, and so much was taken.
abbrev pub Offers : {S : Type 0} → (S → Offered → S → Type 0) → S → S → Result (Unit {0}) TextFault → (Offered → Type 0) → (Offered → Offered → Type 0) → Type 0
Offers {S} keeps old new result Before Takes =
    (first : S) (t : Offered) → keeps first t old → Before t → (u : Offered) × OnOk result (keeps first u new) × Takes t u

-- a taker was offered something of which this holds
abbrev pub IsOffered : {S : Type 0} → (S → Offered → S → Type 0) → S → (Offered → Type 0) → Type 0
IsOffered {S} keeps now Before = (first : S) × (t : Offered) × keeps first t now × Before t
