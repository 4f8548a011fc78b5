use Rattle.std.proofs.Common.{◌≡◌, ◌∙◌, ℕ, List, map, sym, subst, Result, Ok, Err, IfOk}
use Rattle.word_index.specs.declared.rows.Place.{Place}
use Rattle.word_index.specs.declared.links.Link.{Link}
use Rattle.word_index.specs.declared.table.Table.{Table}
use Rattle.word_index.specs.Links.{HoldPlaces, places_from}
use Rattle.word_index.specs.Batch.{IsTableOf}
use Rattle.word_index.proofs.WordLists.{texts_of, texts_keys, holds_reordered, table_of_map}
use Rattle.word_index.proofs.table.count_into.Goals as goal

-- what both clauses say of the table
if_table : {E : Type 0} (lows : List (List ℕ)) (r : Result Table E) (ws : List (List ℕ)) (P : (List ℕ → List Place) → Type 0)
    → ((t : Table) → t.words ≡ ws → ((f : List ℕ → List Place) → P f → t.places ≡ map f t.words) → IsTableOf lows t.words t.places)
    → IfOk r (λ t. t.words ≡ ws) → IfOk r (λ t. (f : List ℕ → List Place) → P f → t.places ≡ map f t.words) → IfOk r (λ t. IsTableOf lows t.words t.places)
if_table lows (Ok t) ws P both words places = both t words places
if_table lows (Err e) ws P both words places = tt

pub list_words-requires : goal.list_words-requires
list_words-requires c =
    let lows = c.args.lows.now in
    let e = c.in_ok-sort_unstable_keys.ensures in (
      (λ w. places_from w 0 lows),
      subst (λ (l : List Link). HoldPlaces c.sort_unstable_keys.new.self l (λ w. places_from w 0 lows)) (sym c.as_slice.ensures.value)
          (holds_reordered c.count_files.new.words c.sort_unstable_keys.new.self c.count_files.new.links.items (λ w. places_from w 0 lows) e.reordered.0 e.unique c.in_ok-count_files.ensures),
    )

pub returns : goal.returns
returns c =
    let lows = c.args.lows.now in
    let e = c.in_ok-sort_unstable_keys.ensures in
    let n = c.sort_unstable_keys.new.self in
    if_table lows c.list_words.result (texts_of n.entries) (λ f. HoldPlaces n c.count_files.new.links.items f)
    (λ t words places. table_of_map lows c.count_files.new.words n c.count_files.new.links.items t.words t.places c.in_ok-count_files.ensures e.reordered.0 e.sorted e.unique words places)
    (rw (texts_keys n.entries) at c.list_words.ensures.words) (rw c.as_slice.ensures.value at c.list_words.ensures.places)
