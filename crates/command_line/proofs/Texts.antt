-- The texts of an argument among the parts and in the rows.
use Rattle.std.proofs.Common.{◌≡◌, ◌∙◌, ◌||◌, ◌≤◌, Bool, true, false, cond, List, [], ◌∷◌, ◌++◌, Option, Some, None, ap, sym, refl, is_some, arith, length, map, subst, append_assoc, true≢false}
use Rattle.std.specs.Prelude.{find, option_and_then, slice_get}
use Rattle.std.specs.Option.{option_map_or}
use Rattle.std.specs.List.{AllByRecursion, cons_option, filter_map}
use Rattle.std.specs.Str.{bytes_eq}
use Rattle.clap.specs.Walk.{Row, first_of, has_row}
use Rattle.std.proofs.Math.Bool.{or-false, or-true}
use Rattle.std.proofs.lemmas.Slice.Eq.{bytes_eq-Decides}
use Rattle.clap.specs.Facts.{explicit_source}
use Rattle.clap.specs.Takes.{is_given}
use Rattle.command_line.specs.Grammar.{Setting, Text, is_same, mergers, parsers, stop_after, walkers}
use Rattle.command_line.proofs.Shape.{Key, dir, id_of, set}
use Rattle.command_line.proofs.Parts.{Chain, IsPlaced, Raw, key_in, option_with, path, raw_row, text_in}

abbrev pub same_key : Key → Key → Bool
same_key dir dir = true
same_key (set s) (set t) = is_same s t
same_key _ _ = false

same_id-set : (s t : Setting) → bytes_eq (id_of (set t)) (id_of (set s)) ≡ is_same s t
same_id-set walkers walkers = refl
same_id-set walkers parsers = refl
same_id-set walkers mergers = refl
same_id-set walkers stop_after = refl
same_id-set parsers walkers = refl
same_id-set parsers parsers = refl
same_id-set parsers mergers = refl
same_id-set parsers stop_after = refl
same_id-set mergers walkers = refl
same_id-set mergers parsers = refl
same_id-set mergers mergers = refl
same_id-set mergers stop_after = refl
same_id-set stop_after walkers = refl
same_id-set stop_after parsers = refl
same_id-set stop_after mergers = refl
same_id-set stop_after stop_after = refl

same_id : (k j : Key) → bytes_eq (id_of j) (id_of k) ≡ same_key k j
same_id dir dir = refl
same_id dir (set walkers) = refl
same_id dir (set parsers) = refl
same_id dir (set mergers) = refl
same_id dir (set stop_after) = refl
same_id (set walkers) dir = refl
same_id (set parsers) dir = refl
same_id (set mergers) dir = refl
same_id (set stop_after) dir = refl
same_id (set s) (set t) = same_id-set s t

pub same_key-itself : (k : Key) → same_key k k ≡ true
same_key-itself dir = refl
same_key-itself (set walkers) = refl
same_key-itself (set parsers) = refl
same_key-itself (set mergers) = refl
same_key-itself (set stop_after) = refl

abbrev pub text_if : Key → Raw → Option Text
text_if k r = cond (same_key k (key_in r)) (Some (text_in r)) None

-- the texts of an argument
abbrev pub texts_of : Key → List Raw → List Text
texts_of k = filter_map (text_if k)

abbrev pub first_text : List Text → Option Text
first_text [] = None
first_text (t ∷ ts) = Some t

-- ---- in the rows of the parts

pub first_of-raws : (k : Key) (raws : List Raw) → first_of (id_of k) (map raw_row raws) ≡ first_text (texts_of k raws)
first_of-raws k [] = refl
first_of-raws k (r ∷ rs) = rw (same_id k (key_in r)) (go (same_key k (key_in r)) (first_of-raws k rs))
  where
    go : (b : Bool) → first_of (id_of k) (map raw_row rs) ≡ first_text (texts_of k rs)
        → option_and_then (λ (x : Row). slice_get x.values 0) (cond b (Some (raw_row r)) (find (λ (x : Row). bytes_eq x.id (id_of k)) (map raw_row rs)))
        ≡ first_text (cons_option (cond b (Some (text_in r)) None) (texts_of k rs))
    go true ih = refl
    go false ih = ih

pub is_given-raws : (k : Key) (raws : List Raw) → is_given (id_of k) (map raw_row raws) ≡ is_some (first_text (texts_of k raws))
is_given-raws k [] = refl
is_given-raws k (r ∷ rs) = rw (same_id k (key_in r)) (go (same_key k (key_in r)) (is_given-raws k rs))
  where
    go : (b : Bool) → is_given (id_of k) (map raw_row rs) ≡ is_some (first_text (texts_of k rs))
        → option_map_or (λ (x : Row). explicit_source x.source) (cond b (Some (raw_row r)) (find (λ (x : Row). bytes_eq x.id (id_of k)) (map raw_row rs))) false
        ≡ is_some (first_text (cons_option (cond b (Some (text_in r)) None) (texts_of k rs)))
    go true ih = refl
    go false ih = ih

-- ---- each argument once

has_row-push : (id : Text) (rows : List Row) (r : Row) → has_row id (rows ++ r ∷ []) ≡ (has_row id rows || bytes_eq r.id id)
has_row-push id [] r = or-false (bytes_eq r.id id)
has_row-push id (x ∷ xs) r = go (bytes_eq x.id id) (has_row-push id xs r)
  where
    go : (b : Bool) → has_row id (xs ++ r ∷ []) ≡ (has_row id xs || bytes_eq r.id id) → (b || has_row id (xs ++ r ∷ [])) ≡ ((b || has_row id xs) || bytes_eq r.id id)
    go true ih = refl
    go false ih = ih

has_row-raw : (k : Key) (rows : List Row) (r : Raw) → has_row (id_of k) (rows ++ raw_row r ∷ []) ≡ (has_row (id_of k) rows || same_key k (key_in r))
has_row-raw k rows r = has_row-push (id_of k) rows (raw_row r) ∙ ap (λ b. has_row (id_of k) rows || b) (same_id k (key_in r))

same_id_from : (k j : Key) → same_key k j ≡ true → id_of j ≡ id_of k
same_id_from k j e = (bytes_eq-Decides (id_of j) (id_of k)).0 (same_id k j ∙ e)

no_more : {X : Type 0} (xs : List X) → length xs ≤ 0 → xs ≡ []
no_more [] h = refl
no_more (x ∷ xs) h = absurd (omega arith)

abbrev texts_then : Bool → Raw → List Text → List Text
texts_then b r ts = cons_option (cond b (Some (text_in r)) None) ts

abbrev IsOnce : List Row → List Raw → Key → Type 0
IsOnce rows raws k = (has_row (id_of k) rows ≡ true → texts_of k raws ≡ []) × (length (texts_of k raws) ≤ 1)

pub chain-once : (raws : List Raw) (rows : List Row) → Chain rows raws → (k : Key) → IsOnce rows raws k
chain-once [] rows c k = (λ h. refl, omega arith)
chain-once (r ∷ rs) rows c k = go (same_key k (key_in r)) refl (chain-once rs (rows ++ raw_row r ∷ []) c.1 k)
  where
    go : (b : Bool) → same_key k (key_in r) ≡ b → IsOnce (rows ++ raw_row r ∷ []) rs k
        → (has_row (id_of k) rows ≡ true → texts_then (same_key k (key_in r)) r (texts_of k rs) ≡ []) × (length (texts_then (same_key k (key_in r)) r (texts_of k rs)) ≤ 1)
    go true e ih =
        let none : texts_of k rs ≡ [] = ih.0 (has_row-raw k rows r ∙ ap (λ b. has_row (id_of k) rows || b) e ∙ or-true (has_row (id_of k) rows)) in
        (λ h. absurd (true≢false (sym h ∙ ap (λ id. has_row id rows) (sym (same_id_from k (key_in r) e)) ∙ c.0)), rw (e, none) (omega arith))
    go false e ih = rw e (λ h. ih.0 (has_row-raw k rows r ∙ ap (λ b. b || same_key k (key_in r)) h), ih.1)

pub once-chain : (raws : List Raw) (rows : List Row) → ((k : Key) → IsOnce rows raws k) → Chain rows raws
once-chain [] rows once = tt
once-chain (r ∷ rs) rows once = (fresh (has_row (id_of (key_in r)) rows) refl, once-chain rs (rows ++ raw_row r ∷ []) (λ k. go k (same_key k (key_in r)) refl (once k)))
  where
    fresh : (b : Bool) → has_row (id_of (key_in r)) rows ≡ b → has_row (id_of (key_in r)) rows ≡ false
    fresh true e = let none = rw (same_key-itself (key_in r)) at ((once (key_in r)).0 e) in cc
    fresh false e = e

    go : (k : Key) (b : Bool) → same_key k (key_in r) ≡ b → (has_row (id_of k) rows ≡ true → texts_then (same_key k (key_in r)) r (texts_of k rs) ≡ []) × (length (texts_then (same_key k (key_in r)) r (texts_of k rs)) ≤ 1)
        → IsOnce (rows ++ raw_row r ∷ []) rs k
    go k true e h =
        let one = rw e at h.1 in
        let none : texts_of k rs ≡ [] = no_more (texts_of k rs) (omega arith) in
        (λ x. none, rw none (omega arith))
    go k false e h =
        let g = rw e at h in
        (λ x. g.0 (sym (or-false (has_row (id_of k) rows)) ∙ ap (λ b. has_row (id_of k) rows || b) (sym e) ∙ sym (has_row-raw k rows r) ∙ x), g.1)

pub placed : (raws : List Raw) (first : Bool) → length (texts_of dir raws) ≤ cond first 1 0 → IsPlaced first raws
placed [] first h = tt
placed (path text ∷ rs) true h = placed rs false (omega arith)
placed (path text ∷ rs) false h = absurd (omega arith)
placed (option_with form s text ∷ rs) true h = placed rs true h
placed (option_with form s text ∷ rs) false h = placed rs false h

-- ---- each text of the parts is the first of its argument in the rows

abbrev pub IsIn : List Row → Raw → Type 0
IsIn rows r = first_of (id_of (key_in r)) rows ≡ Some (text_in r)

first_of-here : (r : Raw) (before after : List Row) → has_row (id_of (key_in r)) before ≡ false → IsIn (before ++ raw_row r ∷ after) r
first_of-here r [] after e =
    let yes : bytes_eq (id_of (key_in r)) (id_of (key_in r)) ≡ true = same_id (key_in r) (key_in r) ∙ same_key-itself (key_in r) in
    rw yes refl
first_of-here r (x ∷ xs) after e = go (bytes_eq x.id (id_of (key_in r))) e (first_of-here r xs after)
  where
    go : (b : Bool) → (b || has_row (id_of (key_in r)) xs) ≡ false → (has_row (id_of (key_in r)) xs ≡ false → IsIn (xs ++ raw_row r ∷ after) r)
        → option_and_then (λ (y : Row). slice_get y.values 0) (cond b (Some x) (find (λ (y : Row). bytes_eq y.id (id_of (key_in r))) (xs ++ raw_row r ∷ after))) ≡ Some (text_in r)
    go true e ih = cc
    go false e ih = ih e

pub chain-first_of : (raws : List Raw) (rows : List Row) → Chain rows raws → AllByRecursion (IsIn (rows ++ map raw_row raws)) raws
chain-first_of [] rows c = tt
chain-first_of (r ∷ rs) rows c = (
  first_of-here r rows (map raw_row rs) c.0,
  subst (λ (all : List Row). AllByRecursion (IsIn all) rs) (append_assoc rows (raw_row r ∷ []) (map raw_row rs)) (chain-first_of rs (rows ++ raw_row r ∷ []) c.1),
)
