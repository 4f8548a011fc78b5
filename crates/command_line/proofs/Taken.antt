-- Words that `clap` takes, and whose rows hold options, say these options.
use Rattle.std.proofs.Common.{◌≡◌, ◌∙◌, ◌≤◌, Bool, true, false, cond, ℕ, zero, suc, List, [], ◌∷◌, ◌++◌, Option, Some, None, ap, ap₂, sym, refl, arith, length, map, subst}
use Rattle.std.specs.Prelude.{All, codes, option_to_list, unwrap_or}
use Rattle.std.specs.List.{AllByRecursion, cons_option, filter_map, flat_map}
use Rattle.std.specs.Prelude.{String}
use Rattle.std.specs.String.{string_bytes}
use Rattle.std.proofs.Common.{Global}
use Rattle.std.proofs.lemmas.Str.{IsUtf8-string_bytes}
use Rattle.std.proofs.lemmas.Fmt.{decimal_injective}
use Rattle.clap.specs.Walk.{Row, first_of}
use Rattle.clap.specs.Simple.{matches_of}
use Rattle.clap.specs.Faults.{fault_of}
use Rattle.command_line.specs.Grammar.{IsDirectory, IsOnceOr, IsPart, Options, Part, SayOptions, Setting, Text, apart, directory, is_same, joined, least_of, mergers, most_of, name_of, numbers_of, parsers, path_of, setting, spelling, stop_after, walkers}
use Rattle.text_output.specs.Numbers.{IsNumber}
use Rattle.command_line.specs.Reading.{HoldOptions, IsNumberOr, IsOffered, IsStop, index_app}
use Rattle.command_line.proofs.Said.{by_index, same_setting}
use Rattle.command_line.proofs.Shape.{Key, dir, id_of, set}
use Rattle.command_line.proofs.Parts.{Found, IsGiven, IsRaw, Raw, option_with, path, raw_row, raw_words, reads, rows_at_end}
use Rattle.command_line.proofs.Levels.{matches-is, passes-fault_of, start}
use Rattle.command_line.proofs.Texts.{IsIn, chain-first_of, chain-once, first_of-raws, first_text, texts_of}

-- ---- the parts, with the numbers that the options hold

abbrev number_at : Options → Setting → ℕ
number_at o walkers = o.walkers
number_at o parsers = o.parsers
number_at o mergers = o.mergers
number_at o stop_after = unwrap_or o.stop_after 0

abbrev part_of : Options → Raw → Part
part_of o (path text) = directory text
part_of o (option_with form s text) = setting form s (number_at o s)

abbrev IsRead : Options → Raw → Type 0
IsRead o (path text) = IsDirectory text
IsRead o (option_with form s text) = IsNumber (least_of s) (most_of s) text (number_at o s)

stop_read : (stop : Option ℕ) (text : Text) → IsStop (Some text) stop → IsNumber 0 1000000000 text (unwrap_or stop 0)
stop_read None text h = absurd h
stop_read (Some n) text h = h

number_read : (rows : List Row) (o : Options) → HoldOptions rows o → (s : Setting) (text : Text) → first_of (id_of (set s)) rows ≡ Some text
    → IsNumber (least_of s) (most_of s) text (number_at o s)
number_read rows o h walkers text e = subst (λ (x : Option Text). IsNumberOr 2 x o.walkers) e h.walkers
number_read rows o h parsers text e = subst (λ (x : Option Text). IsNumberOr 4 x o.parsers) e h.parsers
number_read rows o h mergers text e = subst (λ (x : Option Text). IsNumberOr 2 x o.mergers) e h.mergers
number_read rows o h stop_after text e = stop_read o.stop_after text (subst (λ (x : Option Text). IsStop x o.stop_after) e h.stop_after)

each_read : (rows : List Row) (o : Options) → HoldOptions rows o → (raws : List Raw) → AllByRecursion IsRaw raws → AllByRecursion (IsIn rows) raws → AllByRecursion (IsRead o) raws
each_read rows o h [] each found = tt
each_read rows o h (path text ∷ rs) each found = (each.0, each_read rows o h rs each.1 found.1)
each_read rows o h (option_with form s text ∷ rs) each found = (number_read rows o h s text found.0, each_read rows o h rs each.1 found.1)

spelling-of : (o : Options) (r : Raw) → IsRead o r → raw_words r ≡ spelling (part_of o r)
spelling-of o (path text) h = refl
spelling-of o (option_with apart s text) h = ap (λ t. name_of s ∷ t ∷ []) h.0
spelling-of o (option_with joined s text) h = ap (λ t. (name_of s ++ codes "=" ++ t) ∷ []) h.0

spelt-of : (o : Options) (raws : List Raw) → AllByRecursion (IsRead o) raws → flat_map raw_words raws ≡ flat_map spelling (map (part_of o) raws)
spelt-of o [] h = refl
spelt-of o (r ∷ rs) h = ap₂ (λ (a b : List Text). a ++ b) (spelling-of o r h.0) (spelt-of o rs h.1)

part_is : (o : Options) (r : Raw) → IsRead o r → IsPart (part_of o r)
part_is o (path text) h = h
part_is o (option_with form s text) h = (h.1, h.2)

parts_are : (o : Options) (raws : List Raw) → AllByRecursion (IsRead o) raws → AllByRecursion IsPart (map (part_of o) raws)
parts_are o [] h = tt
parts_are o (r ∷ rs) h = (part_is o r h.0, parts_are o rs h.1)

paths_of-raws : (o : Options) (raws : List Raw) → filter_map path_of (map (part_of o) raws) ≡ texts_of dir raws
paths_of-raws o [] = refl
paths_of-raws o (path text ∷ rs) = ap (λ ts. text ∷ ts) (paths_of-raws o rs)
paths_of-raws o (option_with form s text ∷ rs) = paths_of-raws o rs

numbers_of-raws : (o : Options) (s : Setting) (raws : List Raw) → numbers_of s (map (part_of o) raws) ≡ map (λ t. number_at o s) (texts_of (set s) raws)
numbers_of-raws o s [] = refl
numbers_of-raws o s (path text ∷ rs) = numbers_of-raws o s rs
numbers_of-raws o s (option_with form t text ∷ rs) = go (is_same s t) refl (numbers_of-raws o s rs)
  where
    go : (b : Bool) → is_same s t ≡ b → numbers_of s (map (part_of o) rs) ≡ map (λ t. number_at o s) (texts_of (set s) rs)
        → cons_option (cond b (Some (number_at o t)) None) (numbers_of s (map (part_of o) rs)) ≡ map (λ t. number_at o s) (cons_option (cond b (Some text) None) (texts_of (set s) rs))
    go true e ih = ap₂ (λ n ns. n ∷ ns) (ap (number_at o) (sym (same_setting s t e))) ih
    go false e ih = ih

only_text : (ts : List Text) (t : Text) → length ts ≤ 1 → first_text ts ≡ Some t → ts ≡ t ∷ []
only_text [] t l e = cc
only_text (u ∷ []) t l e = cc
only_text (u ∷ v ∷ more) t l e = absurd (omega arith)

once_or : (default : ℕ) (ts : List Text) (n : ℕ) → length ts ≤ 1 → IsNumberOr default (first_text ts) n → IsOnceOr default (map (λ t. n) ts) n
once_or default [] n l h = h
once_or default (t ∷ []) n l h = refl
once_or default (t ∷ u ∷ more) n l h = absurd (omega arith)

once_stop : (ts : List Text) (stop : Option ℕ) → length ts ≤ 1 → IsStop (first_text ts) stop → map (λ t. unwrap_or stop 0) ts ≡ option_to_list stop
once_stop [] stop l h = rw h refl
once_stop (t ∷ []) None l h = absurd h
once_stop (t ∷ []) (Some n) l h = refl
once_stop (t ∷ u ∷ more) stop l h = absurd (omega arith)

module _ (words : List Text) (o : Options) (given : AllByRecursion IsGiven words) (none : fault_of index_app words ≡ []) (h : HoldOptions (matches_of index_app words) o) where
  found : Found [] words (rows_at_end start words)
  found = (reads (length words) words (omega arith) [] None true given (passes-fault_of words none)).1

  held : HoldOptions (map raw_row found.raws) o
  held = subst (λ (rows : List Row). HoldOptions rows o) (matches-is words ∙ found.last_is) h

  all_read : AllByRecursion (IsRead o) found.raws
  all_read = each_read (map raw_row found.raws) o held found.raws found.each (chain-first_of found.raws [] found.chain)

  once : (k : Key) → length (texts_of k found.raws) ≤ 1
  once k = (chain-once found.raws [] found.chain k).1

  number_said : (s : Setting) (default : ℕ) → IsNumberOr default (first_of (id_of (set s)) (map raw_row found.raws)) (number_at o s)
      → IsOnceOr default (numbers_of s (map (part_of o) found.raws)) (number_at o s)
  number_said s default is =
      subst (λ (ns : List ℕ). IsOnceOr default ns (number_at o s)) (sym (numbers_of-raws o s found.raws))
      (once_or default (texts_of (set s) found.raws) (number_at o s) (once (set s))
      (subst (λ (x : Option Text). IsNumberOr default x (number_at o s)) (first_of-raws (set s) found.raws) is))

  pub taken-said : SayOptions words o
  taken-said = record {
    parts = map (part_of o) found.raws;
    spelt = found.spelt ∙ spelt-of o found.raws all_read;
    each = by_index IsPart (map (part_of o) found.raws) (parts_are o found.raws all_read);
    directory = paths_of-raws o found.raws ∙ only_text (texts_of dir found.raws) o.directory (once dir) (sym (first_of-raws dir found.raws) ∙ held.directory);
    walkers = number_said walkers 2 held.walkers;
    parsers = number_said parsers 4 held.parsers;
    mergers = number_said mergers 2 held.mergers;
    stop_after = numbers_of-raws o stop_after found.raws ∙ once_stop (texts_of (set stop_after) found.raws) o.stop_after (once (set stop_after))
        (subst (λ (x : Option Text). IsStop x o.stop_after) (first_of-raws (set stop_after) found.raws) held.stop_after);
  }

-- ---- rows hold the options of one task

same_number : (default : ℕ) (text : Option Text) (m n : ℕ) → IsNumberOr default text m → IsNumberOr default text n → m ≡ n
same_number default None m n g h = g ∙ sym h
same_number default (Some text) m n g h = decimal_injective m n (omega (arith, g.2)) (omega (arith, h.2)) (sym g.0 ∙ h.0)

same_stop : (text : Option Text) (a b : Option ℕ) → IsStop text a → IsStop text b → a ≡ b
same_stop None a b g h = g ∙ sym h
same_stop (Some text) None b g h = absurd g
same_stop (Some text) (Some m) None g h = absurd h
same_stop (Some text) (Some m) (Some n) g h = ap (λ k. Some k) (decimal_injective m n (omega (arith, g.2)) (omega (arith, h.2)) (sym g.0 ∙ h.0))

pub held-same : (rows : List Row) (o p : Options) → HoldOptions rows o → HoldOptions rows p → o ≡ p
held-same rows o p g h =
    let dirs : o.directory ≡ p.directory = let both : Some o.directory ≡ Some p.directory = sym g.directory ∙ h.directory in cc in
    let walks = same_number 2 _ o.walkers p.walkers g.walkers h.walkers in
    let parses = same_number 4 _ o.parsers p.parsers g.parsers h.parsers in
    let merges = same_number 2 _ o.mergers p.mergers g.mergers h.mergers in
    let stops = same_stop _ o.stop_after p.stop_after g.stop_after h.stop_after in
    λ i. record { directory = dirs i; walkers = walks i; parsers = parses i; mergers = merges i; stop_after = stops i }

-- ---- what the words are as texts

pub all_texts : {X : Type 0} (f : X → Text) (P : Text → Type 0) (xs : List X) → AllByRecursion P (map f xs) → All (λ x. P (f x)) xs
all_texts f P [] h k d lt = absurd (omega arith)
all_texts f P (x ∷ xs) h zero d lt = h.0
all_texts f P (x ∷ xs) h (suc k) d lt = all_texts f P xs h.1 k d (omega arith)

pub given_texts : (xs : List (String Global)) → All (λ x. IsOffered (string_bytes x)) xs → AllByRecursion IsGiven (map string_bytes xs)
given_texts [] h = tt
given_texts (x ∷ xs) h = ((h 0 x (omega arith), IsUtf8-string_bytes x), given_texts xs (λ k d lt. h (suc k) d (omega arith)))
