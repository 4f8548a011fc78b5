-- The words that say options are those that `clap` takes and whose rows hold the options.
use Rattle.std.proofs.Common.{◌≡◌, ◌≢◌, ◌∙◌, get_or, ◌<◌, ◌≤◌, ◌^◌, Bool, true, false, cond, ℕ, zero, suc, List, [], ◌∷◌, ◌++◌, Option, Some, None, ap, ap₂, sym, refl, is_some, arith, length, map, subst}
use Rattle.std.specs.Prelude.{All, codes, decimal, option_to_list}
use Rattle.std.specs.List.{AllByRecursion, cons_option, filter_map, flat_map}
use Rattle.std.proofs.lemmas.Bool.{false≢true}
use Rattle.std.proofs.lemmas.Fmt.{decimal_nonempty}
use Rattle.clap.specs.Walk.{Row, first_of}
use Rattle.clap.specs.Simple.{matches_of}
use Rattle.clap.specs.Takes.{is_given}
use Rattle.clap.specs.Faults.{fault_of}
use Rattle.command_line.specs.Grammar.{IsDirectory, IsOnceOr, IsPart, Options, Part, SayOptions, Setting, Text, apart, directory, is_same, joined, least_of, mergers, most_of, name_of, numbers_of, parsers, path_of, setting, spelling, stop_after, walkers}
use Rattle.command_line.specs.Reading.{HoldOptions, IsNumberOr, IsOffered, IsStop, index_app}
use Rattle.text_output.proofs.Numbers.{no-hyphen}
use Rattle.command_line.proofs.Shape.{Key, dir, id_of, set}
use Rattle.command_line.proofs.Parts.{IsRaw, Raw, accepts, option_with, path, raw_row, raw_words}
use Rattle.command_line.proofs.Levels.{fault_of-passes, matches-is}
use Rattle.command_line.proofs.Texts.{first_of-raws, first_text, is_given-raws, once-chain, placed, texts_of}

-- a number is no option
IsDirectory-decimal : (n : ℕ) → n < 2 ^ 64 → IsDirectory (decimal n)
IsDirectory-decimal n fits = go (decimal n) (decimal_nonempty n fits) (no-hyphen n fits)
  where
    go : (text : Text) → 0 < length text → get_or text 0 0 ≢ 45 → IsDirectory text
    go [] some ne = absurd (omega arith)
    go (c ∷ rest) some ne = ne

-- ---- the parts as the walk sees them

abbrev raw_of : Part → Raw
raw_of (directory text) = path text
raw_of (setting form s n) = option_with form s (decimal n)

raw_words-of : (part : Part) → raw_words (raw_of part) ≡ spelling part
raw_words-of (directory text) = refl
raw_words-of (setting apart s n) = refl
raw_words-of (setting joined s n) = refl

words_of-raws : (parts : List Part) → flat_map raw_words (map raw_of parts) ≡ flat_map spelling parts
words_of-raws [] = refl
words_of-raws (p ∷ ps) = ap₂ (λ (a b : List Text). a ++ b) (raw_words-of p) (words_of-raws ps)

most_small : (s : Setting) (n : ℕ) → n ≤ most_of s → n < 2 ^ 64
most_small walkers n h = omega arith
most_small parsers n h = omega arith
most_small mergers n h = omega arith
most_small stop_after n h = omega arith

IsRaw-of : (part : Part) → IsPart part → IsRaw (raw_of part)
IsRaw-of (directory text) h = h
IsRaw-of (setting apart s n) h = IsDirectory-decimal n (most_small s n h.1)
IsRaw-of (setting joined s n) h = tt

each_raw : (parts : List Part) → AllByRecursion IsPart parts → AllByRecursion IsRaw (map raw_of parts)
each_raw [] each = tt
each_raw (p ∷ ps) each = (IsRaw-of p each.0, each_raw ps each.1)

pub by_recursion : {X : Type 0} (P : X → Type 0) (xs : List X) → All P xs → AllByRecursion P xs
by_recursion P [] h = tt
by_recursion P (x ∷ xs) h = (h 0 x (omega arith), by_recursion P xs (λ k d lt. h (suc k) d (omega arith)))

pub by_index : {X : Type 0} (P : X → Type 0) (xs : List X) → AllByRecursion P xs → All P xs
by_index P [] h k d lt = absurd (omega arith)
by_index P (x ∷ xs) h zero d lt = h.0
by_index P (x ∷ xs) h (suc k) d lt = by_index P xs h.1 k d (omega arith)

paths_are : (parts : List Part) → texts_of dir (map raw_of parts) ≡ filter_map path_of parts
paths_are [] = refl
paths_are (directory text ∷ ps) = ap (λ ts. text ∷ ts) (paths_are ps)
paths_are (setting form s n ∷ ps) = paths_are ps

numbers_are : (s : Setting) (parts : List Part) → texts_of (set s) (map raw_of parts) ≡ map decimal (numbers_of s parts)
numbers_are s [] = refl
numbers_are s (directory text ∷ ps) = numbers_are s ps
numbers_are s (setting form t n ∷ ps) = go (is_same s t) (numbers_are s ps)
  where
    go : (b : Bool) → texts_of (set s) (map raw_of ps) ≡ map decimal (numbers_of s ps)
        → cons_option (cond b (Some (decimal n)) None) (texts_of (set s) (map raw_of ps)) ≡ map decimal (cons_option (cond b (Some n) None) (numbers_of s ps))
    go true ih = ap (λ ts. decimal n ∷ ts) ih
    go false ih = ih

pub same_setting : (s t : Setting) → is_same s t ≡ true → s ≡ t
same_setting walkers walkers e = refl
same_setting parsers parsers e = refl
same_setting mergers mergers e = refl
same_setting stop_after stop_after e = refl
same_setting walkers parsers e = cc
same_setting walkers mergers e = cc
same_setting walkers stop_after e = cc
same_setting parsers walkers e = cc
same_setting parsers mergers e = cc
same_setting parsers stop_after e = cc
same_setting mergers walkers e = cc
same_setting mergers parsers e = cc
same_setting mergers stop_after e = cc
same_setting stop_after walkers e = cc
same_setting stop_after parsers e = cc
same_setting stop_after mergers e = cc

-- an option's numbers lie in its range
abbrev IsInRange : Setting → ℕ → Type 0
IsInRange s n = (least_of s ≤ n) × (n ≤ most_of s)

in_range : (s : Setting) (parts : List Part) → AllByRecursion IsPart parts → AllByRecursion (IsInRange s) (numbers_of s parts)
in_range s [] each = tt
in_range s (directory text ∷ ps) each = in_range s ps each.1
in_range s (setting form t n ∷ ps) each = go (is_same s t) refl (in_range s ps each.1)
  where
    go : (b : Bool) → is_same s t ≡ b → AllByRecursion (IsInRange s) (numbers_of s ps) → AllByRecursion (IsInRange s) (cons_option (cond b (Some n) None) (numbers_of s ps))
    go true e ih = (subst (λ (u : Setting). IsInRange u n) (sym (same_setting s t e)) each.0, ih)
    go false e ih = ih

-- ---- words that say options are taken, and their rows hold the options

one_number : (default : ℕ) (ns : List ℕ) (n : ℕ) → IsOnceOr default ns n → length (map decimal ns) ≤ 1
one_number default [] n h = omega arith
one_number default (m ∷ []) n h = omega arith
one_number default (m ∷ k ∷ more) n h = absurd h

one_stop : (ns : List ℕ) (stop : Option ℕ) → ns ≡ option_to_list stop → length (map decimal ns) ≤ 1
one_stop ns None e = rw e (omega arith)
one_stop ns (Some n) e = rw e (omega arith)

number_or : (default : ℕ) (ns : List ℕ) (n : ℕ) → AllByRecursion (λ m. (1 ≤ m) × (m ≤ 8)) ns → IsOnceOr default ns n → IsNumberOr default (first_text (map decimal ns)) n
number_or default [] n each h = h
number_or default (m ∷ []) n each h =
    let range = subst (λ (k : ℕ). (1 ≤ k) × (k ≤ 8)) (sym h) each.0 in
    (ap decimal (sym h), range.0, range.1)
number_or default (m ∷ k ∷ more) n each h = absurd h

stop_or : (ns : List ℕ) (stop : Option ℕ) → AllByRecursion (λ m. (0 ≤ m) × (m ≤ 1000000000)) ns → ns ≡ option_to_list stop → IsStop (first_text (map decimal ns)) stop
stop_or ns None each e = rw e refl
stop_or ns (Some n) each e = let range = rw e at each in rw e (refl, range.0.0, range.0.1)

module _ (words : List Text) (o : Options) (s : SayOptions words o) where
  raws : List Raw
  raws = map raw_of s.parts

  each_part : AllByRecursion IsPart s.parts
  each_part = by_recursion IsPart s.parts s.each

  texts_once : (k : Key) → length (texts_of k raws) ≤ 1
  unfolding raws
  texts_once dir = rw (paths_are s.parts, s.directory) (omega arith)
  texts_once (set walkers) = rw (numbers_are walkers s.parts) (one_number 2 _ _ s.walkers)
  texts_once (set parsers) = rw (numbers_are parsers s.parts) (one_number 4 _ _ s.parsers)
  texts_once (set mergers) = rw (numbers_are mergers s.parts) (one_number 2 _ _ s.mergers)
  texts_once (set stop_after) = rw (numbers_are stop_after s.parts) (one_stop _ _ s.stop_after)

  in_rows : (k : Key) → first_of (id_of k) (map raw_row raws) ≡ first_text (texts_of k raws)
  in_rows k = first_of-raws k raws

  numbers_in_rows : (t : Setting) → first_text (map decimal (numbers_of t s.parts)) ≡ first_of (id_of (set t)) (map raw_row raws)
  unfolding raws
  numbers_in_rows t = sym (in_rows (set t) ∙ ap first_text (numbers_are t s.parts))

  number_held : (t : Setting) (default n : ℕ) → AllByRecursion (λ m. (1 ≤ m) × (m ≤ 8)) (numbers_of t s.parts) → IsOnceOr default (numbers_of t s.parts) n
      → IsNumberOr default (first_of (id_of (set t)) (map raw_row raws)) n
  number_held t default n each h = subst (λ (x : Option Text). IsNumberOr default x n) (numbers_in_rows t) (number_or default (numbers_of t s.parts) n each h)

  options_held : HoldOptions (map raw_row raws) o
  unfolding raws
  options_held = record {
    directory = in_rows dir ∙ ap first_text (paths_are s.parts ∙ s.directory);
    walkers = number_held walkers 2 o.walkers (in_range walkers s.parts each_part) s.walkers;
    parsers = number_held parsers 4 o.parsers (in_range parsers s.parts each_part) s.parsers;
    mergers = number_held mergers 2 o.mergers (in_range mergers s.parts each_part) s.mergers;
    stop_after = subst (λ (x : Option Text). IsStop x o.stop_after) (numbers_in_rows stop_after)
        (stop_or (numbers_of stop_after s.parts) o.stop_after (in_range stop_after s.parts each_part) s.stop_after);
  }

  are_taken : (fault_of index_app (flat_map raw_words raws) ≡ []) × HoldOptions (matches_of index_app (flat_map raw_words raws)) o
  unfolding raws
  are_taken =
      let chain = once-chain raws [] (λ k. (λ e. absurd (false≢true e), texts_once k)) in
      let walk = accepts raws [] None true tt (each_raw s.parts each_part) chain (placed raws true (texts_once dir)) in
      let given : is_given (codes "dir") (map raw_row raws) ≡ true = is_given-raws dir raws ∙ ap (λ ts. is_some (first_text ts)) (paths_are s.parts ∙ s.directory) in (
        fault_of-passes (flat_map raw_words raws) walk.0 (ap (is_given (codes "dir")) walk.1 ∙ given),
        subst (λ (rows : List Row). HoldOptions rows o) (sym (matches-is (flat_map raw_words raws) ∙ walk.1)) options_held,
      )

  pub said-taken : (fault_of index_app words ≡ []) × HoldOptions (matches_of index_app words) o
  unfolding raws
  said-taken = subst (λ (ws : List Text). (fault_of index_app ws ≡ []) × HoldOptions (matches_of index_app ws) o) (words_of-raws s.parts ∙ sym s.spelt) are_taken

-- ---- such words are offered

offered_word : (text : Text) → IsDirectory text → IsOffered text
offered_word [] d = absurd d
offered_word (c ∷ rest) d = (λ e. cc, λ e. d (cc), λ e. d (cc))

offered_name : (s : Setting) → IsOffered (name_of s)
offered_name walkers = (λ e. cc, λ e. cc, λ e. cc)
offered_name parsers = (λ e. cc, λ e. cc, λ e. cc)
offered_name mergers = (λ e. cc, λ e. cc, λ e. cc)
offered_name stop_after = (λ e. cc, λ e. cc, λ e. cc)

offered_value : (s : Setting) (text : Text) → IsOffered (name_of s ++ codes "=" ++ text)
offered_value walkers text = (λ e. cc, λ e. cc, λ e. cc)
offered_value parsers text = (λ e. cc, λ e. cc, λ e. cc)
offered_value mergers text = (λ e. cc, λ e. cc, λ e. cc)
offered_value stop_after text = (λ e. cc, λ e. cc, λ e. cc)

offered_parts : (parts : List Part) → AllByRecursion IsPart parts → AllByRecursion IsOffered (flat_map spelling parts)
offered_parts [] each = tt
offered_parts (directory text ∷ ps) each = (offered_word text each.0, offered_parts ps each.1)
offered_parts (setting apart s n ∷ ps) each = (offered_name s, (offered_word (decimal n) (IsDirectory-decimal n (most_small s n each.0.1)), offered_parts ps each.1))
offered_parts (setting joined s n ∷ ps) each = (offered_value s (decimal n), offered_parts ps each.1)

pub said-offered : (words : List Text) (o : Options) → SayOptions words o → AllByRecursion IsOffered words
said-offered words o s = subst (AllByRecursion IsOffered) (sym s.spelt) (offered_parts s.parts (by_recursion IsPart s.parts s.each))
