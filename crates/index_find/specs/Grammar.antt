-- The tokens of a query.
use Rattle.std.specs.Prelude.{◌≡◌, ℕ, ◌≤◌, Bool, true, List, [], ◌∷◌, ◌++◌, ◌&&◌, ◌||◌, ◌==◌, length, nat_le, codes}
use Rattle.std.specs.List.{list_all}
use Rattle.std.specs.Char.{is_ascii_alphanumeric}
use Rattle.std.specs.Str.{str_to_ascii_lowercase}
use Rattle.index_find.specs.Tree.{Tree, Word, Not, Both, Either}

abbrev pub Token : Type 0
Token = List ℕ

-- a letter, a digit or `_`
abbrev pub is_word_byte : ℕ → Bool
is_word_byte b = is_ascii_alphanumeric b || b == 95

-- 1 to 64 letters, digits and `_`
abbrev pub is_word : Token → Bool
is_word t = nat_le 1 (length t) && nat_le (length t) 64 && list_all is_word_byte t

-- what stands on a level: a term, terms with `&` between them, or such parts with `|` between them
pub data Level : Type 0 where
  Term : Level
  Part : Level
  Whole : Level

-- the tokens stand on the level for the tree
pub data Spells : Level → List Token → Tree → Type 0 where
  word : (w : Token) → is_word w ≡ true → Spells Term (w ∷ []) (Word (str_to_ascii_lowercase w))
  negated : (ts : List Token) (t : Tree) → Spells Term ts t → Spells Term (codes "!" ∷ ts) (Not t)
  grouped : (ts : List Token) (t : Tree) → Spells Whole ts t → Spells Term (codes "(" ∷ ts ++ codes ")" ∷ []) t
  one_term : (ts : List Token) (t : Tree) → Spells Term ts t → Spells Part ts t
  both : (xs ys : List Token) (x y : Tree) → Spells Part xs x → Spells Term ys y → Spells Part (xs ++ codes "&" ∷ ys) (Both x y)
  one_part : (ts : List Token) (t : Tree) → Spells Part ts t → Spells Whole ts t
  either : (xs ys : List Token) (x y : Tree) → Spells Whole xs x → Spells Part ys y → Spells Whole (xs ++ codes "|" ∷ ys) (Either x y)

-- at most 64 tokens, which are a query, and ask for this
pub record Reads (tokens : List Token) (tree : Tree) : Type 0 where
  pub few : length tokens ≤ 64
  pub whole : Spells Whole tokens tree

-- they ask for this and for nothing else
pub record IsReading (tokens : List Token) (tree : Tree) : Type 0 where
  pub reads : Reads tokens tree
  pub only : (other : Tree) → Reads tokens other → other ≡ tree
