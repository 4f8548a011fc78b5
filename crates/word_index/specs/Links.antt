-- The places of words, linked from the last to the first.
use Rattle.std.specs.Prelude.{◌≡◌, ℕ, ◌+◌, ◌<◌, ◌≤◌, List, [], ◌∷◌, ◌++◌, length, min, Option, Some, None, ◌==◌, if◌then◌else◌, slice_index_or}
use Rattle.std.specs.List.{All}
use Rattle.std.specs.Str.{bytes_eq}
use Rattle.std.specs.Borrow.{Bor}
use Rattle.indexmap.specs.IndexMap.{IndexMap, get_by}
use Rattle.word_index.specs.declared.rows.Place.{Place}
use Rattle.word_index.specs.declared.links.Link.{Link}
use Rattle.word_index.specs.Words.{short_runs}
use Rattle.word_index.specs.Counts.{Seen, seen_in}

-- the places of the first n links that hang together, from the last to the first
pub data IsChain (links : List Link) : ℕ → List Place → Type 0 where
  at_end : (n : ℕ) (ps : List Place) → n ≡ 0 → ps ≡ [] → IsChain links n ps
  at_link : (n : ℕ) (ps : List Place) (k : ℕ) (link : Link) (rest : List Place) → n ≡ k + 1 → k < length links
      → slice_index_or links k link ≡ link → link.earlier ≤ k → IsChain links link.earlier rest → ps ≡ link.place ∷ rest
      → IsChain links n ps

-- the place of a link and those before it
pub record IsLinked (links : List Link) (link : Link) (ps : List Place) : Type 0 where
  pub rest : List Place
  pub chain : IsChain links link.earlier rest
  pub is : ps ≡ link.place ∷ rest

-- these places were added to a block
pub record AddsLinked (links : List Link) (link : Link) (old new : List Place) : Type 0 where
  pub row : List Place
  pub is : new ≡ old ++ row
  pub linked : IsLinked links link row

-- these places were added to the rows
pub record PushesLinked (links : List Link) (link : Link) (old new : List (List Place)) : Type 0 where
  pub row : List Place
  pub is : new ≡ old ++ row ∷ []
  pub linked : IsLinked links link row

abbrev pub first_place : ℕ → ℕ → Place
first_place path line = record { path = path; count = 1; line = line }

-- one more occurrence in the file of this number
abbrev pub bumped : ℕ → ℕ → List Place → List Place
bumped path line [] = first_place path line ∷ []
bumped path line (p ∷ ps) = if p.path == path then record { path = path; count = p.count + 1; line = min p.line line } ∷ ps else first_place
    path line ∷ p ∷ ps

-- none, or the place of the link and those before it
abbrev pub HasPlaces : List Link → Option Link → List Place → Type 0
HasPlaces links None ps = ps ≡ []
HasPlaces links (Some link) ps = IsLinked links link ps

module _ {S : Type 0} where
  -- what the map has at the word
  abbrev pub link_at : IndexMap (Bor (List ℕ)) Link S → List ℕ → Option Link
  link_at m w = get_by (λ k. bytes_eq w k.now) m

  -- the map and the links hold these places of each word
  abbrev pub HoldPlaces : IndexMap (Bor (List ℕ)) Link S → List Link → (List ℕ → List Place) → Type 0
  HoldPlaces m links f = (w : List ℕ) → HasPlaces links (link_at m w) (f w)

-- the place of a word in the file of this number
abbrev pub seen_place : ℕ → Option Seen → List Place
seen_place n None = []
seen_place n (Some s) = record { path = n; count = s.count; line = s.line } ∷ []

-- the places of a word in files of these bytes in lower case, numbered from n on
abbrev pub places_from : List ℕ → ℕ → List (List ℕ) → List Place
places_from w n [] = []
places_from w n (low ∷ lows) = seen_place n (seen_in w (short_runs low)) ++ places_from w (n + 1) lows

-- each place is of a file with a higher number
abbrev pub AreAbove : ℕ → (List ℕ → List Place) → Type 0
AreAbove n f = (w : List ℕ) → All (λ p. n < p.path) (f w)
