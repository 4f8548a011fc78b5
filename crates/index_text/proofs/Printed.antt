-- Rows of few files are printed as they are read.
use Rattle.std.proofs.Common.{◌≡◌, ℕ, suc, ◌^◌, ◌<◌, List, [], ◌∷◌, ◌++◌, length, arith, refl, ap}
use Rattle.std.specs.Prelude.{codes}
use Rattle.std.specs.List.{Contains, flat_map, All}
use Rattle.std.proofs.lemmas.List.Elements.{All-contains}
use Rattle.text_output.specs.Paths.{newline}
use Rattle.word_index.specs.Index.{Row, Index}
use Rattle.index_print.specs.Text as print
use Rattle.index_print.specs.Text.{hit_line, skipped_line, index_text}
use Rattle.index_text.specs.Texts.{row_text, text_of}
use Rattle.index_text.proofs.Numerals.{numeral_printed}

row_printed : (r : Row) → length r.hits < 2 ^ 64 → row_text r ≡ print.row_text r
row_printed r few = ap (λ ds. r.word ++ codes " " ++ ds ++ newline ++ flat_map hit_line r.hits) (numeral_printed (length r.hits) few)

rows_printed : (rows : List Row) → ((r : Row) → Contains rows r → length r.hits < 2 ^ 64) → flat_map row_text rows ≡ flat_map print.row_text rows
rows_printed [] few = refl
rows_printed (r ∷ rows) few =
    let rest = rows_printed rows (λ q h. few q (suc h.0, omega (arith, h.1), h.2)) in
    let first = row_printed r (few r (0, omega arith, refl)) in
    λ i. first i ++ rest i

pub printed_from : (skipped : List (List ℕ)) (rows : List Row) → ((r : Row) → Contains rows r → length r.hits < 2 ^ 64) → text_of rows skipped ≡ flat_map print.row_text rows ++ flat_map skipped_line skipped
printed_from skipped rows few = ap (λ l. l ++ flat_map skipped_line skipped) (rows_printed rows few)

pub printed : (index : Index) → All (λ r. length r.hits < 2 ^ 64) index.rows → text_of index.rows index.skipped ≡ index_text index
printed index few = printed_from index.skipped index.rows (λ r h. All-contains (λ r. length r.hits < 2 ^ 64) index.rows r few h)
