-- The words that the walk takes are spelt parts, and it takes all such.
use Rattle.std.proofs.Common.{◌≡◌, ◌∙◌, ◌≤◌, Bool, true, false, ℕ, List, [], ◌∷◌, ◌++◌, Some, None, ap, sym, refl, zero, suc, arith, length, map, subst, append-nil, append_assoc}
use Rattle.std.specs.List.{AllByRecursion, flat_map, fold}
use Rattle.std.specs.Str.{IsUtf8}
use Rattle.clap.specs.Kinds.{Kinds, or_else}
use Rattle.clap.specs.Walk.{Held, Row, Walk, has_row, idle, option, settled, walked}
use Rattle.clap.specs.Faults.{settle_fault, turn_fault, use_fault, walk_fault}
use Rattle.command_line.specs.Grammar.{Form, IsDirectory, Setting, Text, apart, joined, name_of}
use Rattle.command_line.specs.Reading.{IsOffered}
use Rattle.command_line.proofs.Shape.{Key, bare_name, dir, id_of, rule_at, rules, set, shape}
use Rattle.command_line.proofs.Uses.{IsFresh, Pending, fresh-settle_fault, fresh-use_fault, held_at, pending_at, row_at, rows_with, settle_fault-fresh, settle_fault-hungry, settled-fresh, use_fault-fresh}
use Rattle.command_line.proofs.Turns.{hungry, standing, turn_fault-dir, turn_fault-hungry_name, turn_fault-hungry_with_value, turn_fault-long, turn_fault-name, turn_fault-second, turn_fault-short, turn_fault-value, turn_fault-with_value, walked-dir, walked-name, walked-value, walked-with_value, with_value}
use Rattle.command_line.proofs.Views.{long, named, plain, short, valued, view}

-- a part, with the text of a number
pub data Raw : Type 0 where
  path : Text → Raw
  option_with : Form → Setting → Text → Raw

abbrev pub raw_words : Raw → List Text
raw_words (path text) = text ∷ []
raw_words (option_with apart s text) = name_of s ∷ text ∷ []
raw_words (option_with joined s text) = with_value s text ∷ []

abbrev pub key_in : Raw → Key
key_in (path text) = dir
key_in (option_with form s text) = set s

abbrev pub text_in : Raw → Text
text_in (path text) = text
text_in (option_with form s text) = text

abbrev pub IsRaw : Raw → Type 0
IsRaw (path text) = IsDirectory text
IsRaw (option_with apart s text) = IsDirectory text
IsRaw (option_with joined s text) = Unit {0}

abbrev pub raw_row : Raw → Row
raw_row r = row_at (key_in r) (text_in r)

-- each part is the first of its argument
abbrev pub Chain : List Row → List Raw → Type 0
Chain rows [] = Unit {0}
Chain rows (r ∷ rs) = (has_row (id_of (key_in r)) rows ≡ false) × Chain (rows ++ raw_row r ∷ []) rs

-- at most one directory, or none where there was one
abbrev pub IsPlaced : Bool → List Raw → Type 0
IsPlaced first [] = Unit {0}
IsPlaced true (path text ∷ rs) = IsPlaced false rs
IsPlaced false (path text ∷ rs) = ⊥
IsPlaced first (option_with form s text ∷ rs) = IsPlaced first rs

-- ---- the end of a walk

abbrev pub end_of : Walk → List Text → Walk
end_of w words = fold (walked rules []) w words

abbrev pub rows_at_end : Walk → List Text → List Row
rows_at_end w words = (settled rules (end_of w words).held).rows

abbrev pub Passes : Walk → List Text → Type 0
Passes w words = (walk_fault shape [] w words ≡ []) × (settle_fault rules false (end_of w words).held ≡ [])

pub neither : (a b : Kinds) → or_else a b ≡ [] → (a ≡ []) × (b ≡ [])
neither [] b e = (refl, e)
neither (k ∷ ks) b e = cc

first_only : (a : Kinds) → or_else a [] ≡ [] → a ≡ []
first_only a e = (neither a [] e).0

turn_of : (w : Walk) (word : Text) (rest : List Text) → Passes w (word ∷ rest) → turn_fault shape [] w word ≡ []
unfolding walk_fault
turn_of w word rest h = (neither _ _ h.0).0

later : (w next : Walk) (word : Text) (rest : List Text) → walked rules [] w word ≡ next → Passes w (word ∷ rest) → Passes next rest
unfolding walk_fault
later w next word rest e h = subst (λ (v : Walk). Passes v rest) e ((neither _ _ h.0).1, h.1)

earlier : (w next : Walk) (word : Text) (rest : List Text) → walked rules [] w word ≡ next → turn_fault shape [] w word ≡ [] → Passes next rest → Passes w (word ∷ rest)
unfolding walk_fault
earlier w next word rest e turn h =
    let g = subst (λ (v : Walk). Passes v rest) (sym e) h in
    (rw turn g.0, g.1)

-- ---- what passes is spelt parts

abbrev pub IsGiven : Text → Type 0
IsGiven w = IsOffered w × IsUtf8 w

pub record Found (rows : List Row) (words : List Text) (last : List Row) : Type 0 where
  pub raws : List Raw
  pub spelt : words ≡ flat_map raw_words raws
  pub each : AllByRecursion IsRaw raws
  pub chain : Chain rows raws
  pub last_is : last ≡ rows ++ map raw_row raws

found_more : (rows : List Row) (r : Raw) (rest : List Text) (last : List Row) → IsRaw r → has_row (id_of (key_in r)) rows ≡ false
    → Found (rows ++ raw_row r ∷ []) rest last → Found rows (raw_words r ++ rest) last
found_more rows r rest last is fresh more = record {
  raws = r ∷ more.raws;
  spelt = ap (λ ws. raw_words r ++ ws) more.spelt;
  each = (is, more.each);
  chain = (fresh, more.chain);
  last_is = more.last_is ∙ append_assoc rows (raw_row r ∷ []) (map raw_row more.raws);
}

abbrev ReadsFrom : List Row → Pending → Bool → List Text → Type 0
ReadsFrom rows p first words = Passes (standing rows p first) words
    → IsFresh rows p × Found (rows_with rows p) words (rows_at_end (standing rows p first) words)

abbrev Reads : ℕ → Type 0
Reads n = (words : List Text) → length words ≤ n → (rows : List Row) (p : Pending) (first : Bool) → AllByRecursion IsGiven words
    → ReadsFrom rows p first words

read_path : (n : ℕ) → Reads n → (w : Text) (rest : List Text) → length rest ≤ n → (rows : List Row) (p : Pending) (first : Bool) → AllByRecursion IsGiven rest → IsDirectory w
    → ReadsFrom rows p first (w ∷ rest)
read_path n reads w rest small rows p false given d h =
    let bad = sym (turn_fault-second rows p w d) ∙ turn_of _ w rest h in cc
read_path n reads w rest small rows p true given d h =
    let f = fresh-settle_fault rows p (sym (turn_fault-dir rows p w d) ∙ turn_of _ w rest h) in
    let e = walked-dir rows p w d f in
    let more = reads rest small (rows_with rows p) (Some (dir, w)) false given (later _ _ w rest e h) in
    (f, subst (Found (rows_with rows p) (w ∷ rest)) (ap (λ (v : Walk). rows_at_end v rest) (sym e)) (found_more (rows_with rows p) (path w) rest _ d more.0 more.1))

read_value : (n : ℕ) → Reads n → (s : Setting) (text : Text) (rest : List Text) → length rest ≤ n → (rows : List Row) (p : Pending) (first : Bool) → AllByRecursion IsGiven rest
    → ReadsFrom rows p first (with_value s text ∷ rest)
read_value n reads s text rest small rows p first given h =
    let both = neither _ _ (first_only _ (sym (turn_fault-with_value rows p first s text) ∙ turn_of _ _ rest h)) in
    let f = fresh-settle_fault rows p both.0 in
    let used_up : (settled rules (held_at rows p)).rows ≡ rows_with rows p = ap (λ (x : Held). x.rows) (settled-fresh rows p f) in
    let g = fresh-use_fault (set s) text (rows_with rows p) (subst (λ (rs : List Row). use_fault false (rule_at (set s)) (text ∷ []) rs ≡ []) used_up both.1) in
    let e = walked-with_value rows p first s text f g in
    let more = reads rest small (rows_with rows p ++ row_at (set s) text ∷ []) None first given (later _ _ _ rest e h) in
    (f, subst (Found (rows_with rows p) (with_value s text ∷ rest)) (ap (λ (v : Walk). rows_at_end v rest) (sym e)) (found_more (rows_with rows p) (option_with joined s text) rest _ tt g more.1))

read_apart : (n : ℕ) → Reads n → (s : Setting) (rest : List Text) → length rest ≤ n → (rows : List Row) (p : Pending) (first : Bool) → AllByRecursion IsGiven rest
    → ReadsFrom rows p first (name_of s ∷ rest)
read_apart n reads s rest small rows p first given h =
    let f = fresh-settle_fault rows p (first_only _ (sym (turn_fault-name rows p first s) ∙ turn_of _ _ rest h)) in
    let e = walked-name rows p first s f in
    (f, subst (Found (rows_with rows p) (name_of s ∷ rest)) (ap (λ (v : Walk). rows_at_end v rest) (sym e)) (number rest small given (later _ _ _ rest e h)))
  where
    rows' : List Row
    rows' = rows_with rows p

    number : (rest : List Text) → length rest ≤ n → AllByRecursion IsGiven rest → Passes (hungry rows' s first) rest → Found rows' (name_of s ∷ rest) (rows_at_end (hungry rows' s first) rest)
    number [] small given h = let bad = sym (settle_fault-hungry rows' s) ∙ h.1 in cc
    number (v ∷ more) small given h = elim (view v given.0.0 given.0.1) [
      | plain d ↦
          let e = walked-value rows' s first v d in
          let rest = reads more (omega arith) rows' (Some (set s, v)) first given.1 (later _ _ v more e h) in
          subst (Found rows' (name_of s ∷ v ∷ more)) (ap (λ (w : Walk). rows_at_end w more) (sym e)) (found_more rows' (option_with apart s v) more _ d rest.0 rest.1)
      | named t is ↦ let bad = sym (turn_fault-hungry_name rows' s first t) ∙ subst (λ (w : Text). turn_fault shape [] (hungry rows' s first) w ≡ []) is (turn_of _ v more h) in cc
      | valued t text is ↦ let bad = sym (turn_fault-hungry_with_value rows' s first t text) ∙ subst (λ (w : Text). turn_fault shape [] (hungry rows' s first) w ≡ []) is (turn_of _ v more h) in cc
      | long u ↦ let bad = sym (turn_fault-long rows' (Some (bare_name s, [])) (option (bare_name s)) first v u) ∙ turn_of _ v more h in cc
      | short u ↦ let bad = sym (turn_fault-short rows' (Some (bare_name s, [])) (option (bare_name s)) first v u) ∙ turn_of _ v more h in cc
    ]

pub reads : (n : ℕ) → Reads n
reads n [] small rows p first given h =
    let f = fresh-settle_fault rows p h.1 in
    (f, record { raws = []; spelt = refl; each = tt; chain = tt; last_is = ap (λ (x : Held). x.rows) (settled-fresh rows p f) ∙ sym (append-nil (rows_with rows p)) })
reads zero (w ∷ rest) small rows p first given h = absurd (omega arith)
reads (suc n) (w ∷ rest) small rows p first given h = elim (view w given.0.0 given.0.1) [
  | plain d ↦ read_path n (reads n) w rest (omega arith) rows p first given.1 d h
  | named s is ↦ subst (λ (v : Text). ReadsFrom rows p first (v ∷ rest)) (sym is) (read_apart n (reads n) s rest (omega arith) rows p first given.1) h
  | valued s text is ↦ subst (λ (v : Text). ReadsFrom rows p first (v ∷ rest)) (sym is) (read_value n (reads n) s text rest (omega arith) rows p first given.1) h
  | long u ↦ let bad = sym (turn_fault-long rows (pending_at p) idle first w u) ∙ turn_of _ w rest h in cc
  | short u ↦ let bad = sym (turn_fault-short rows (pending_at p) idle first w u) ∙ turn_of _ w rest h in cc
]

-- ---- spelt parts pass

pub accepts : (raws : List Raw) (rows : List Row) (p : Pending) (first : Bool) → IsFresh rows p → AllByRecursion IsRaw raws → Chain (rows_with rows p) raws → IsPlaced first raws
    → Passes (standing rows p first) (flat_map raw_words raws) × (rows_at_end (standing rows p first) (flat_map raw_words raws) ≡ rows_with rows p ++ map raw_row raws)
unfolding walk_fault
accepts [] rows p first f each chain placed =
    ((refl, settle_fault-fresh rows p f), ap (λ (x : Held). x.rows) (settled-fresh rows p f) ∙ sym (append-nil (rows_with rows p)))
accepts (path text ∷ rs) rows p false f each chain placed = absurd placed
accepts (path text ∷ rs) rows p true f each chain placed =
    let e = walked-dir rows p text each.0 f in
    let more = accepts rs (rows_with rows p) (Some (dir, text)) false chain.0 each.1 chain.1 placed in (
      earlier _ _ text (flat_map raw_words rs) e (turn_fault-dir rows p text each.0 ∙ settle_fault-fresh rows p f) more.0,
      ap (λ (v : Walk). rows_at_end v (flat_map raw_words rs)) e ∙ more.1 ∙ append_assoc (rows_with rows p) (row_at dir text ∷ []) (map raw_row rs),
    )
accepts (option_with joined s text ∷ rs) rows p first f each chain placed =
    let e = walked-with_value rows p first s text f chain.0 in
    let more = accepts rs (rows_with rows p ++ row_at (set s) text ∷ []) None first tt each.1 chain.1 placed in
    let used_up : (settled rules (held_at rows p)).rows ≡ rows_with rows p = ap (λ (x : Held). x.rows) (settled-fresh rows p f) in
    let free : use_fault false (rule_at (set s)) (text ∷ []) (settled rules (held_at rows p)).rows ≡ [] =
    ap (use_fault false (rule_at (set s)) (text ∷ [])) used_up ∙ use_fault-fresh (set s) text (rows_with rows p) chain.0 in (
      earlier _ _ (with_value s text) (flat_map raw_words rs) e (turn_fault-with_value rows p first s text ∙ rw (settle_fault-fresh rows p f, free) refl) more.0,
      ap (λ (v : Walk). rows_at_end v (flat_map raw_words rs)) e ∙ more.1 ∙ append_assoc (rows_with rows p) (row_at (set s) text ∷ []) (map raw_row rs),
    )
accepts (option_with apart s text ∷ rs) rows p first f each chain placed =
    let words = flat_map raw_words rs in
    let e = walked-name rows p first s f in
    let v = walked-value (rows_with rows p) s first text each.0 in
    let more = accepts rs (rows_with rows p) (Some (set s, text)) first chain.0 each.1 chain.1 placed in
    let inner = earlier _ _ text words v (turn_fault-value (rows_with rows p) s first text each.0) more.0 in (
      earlier _ _ (name_of s) (text ∷ words) e (turn_fault-name rows p first s ∙ rw (settle_fault-fresh rows p f) refl) inner,
      ap (λ (w : Walk). rows_at_end w (text ∷ words)) e ∙ ap (λ (w : Walk). rows_at_end w words) v ∙ more.1
          ∙ append_assoc (rows_with rows p) (row_at (set s) text ∷ []) (map raw_row rs),
    )
