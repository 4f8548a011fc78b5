-- Places that hang together by links.
use Rattle.std.proofs.Common.{◌≡◌, ◌≢◌, ◌∙◌, ℕ, ◌+◌, ◌-◌, ◌<◌, ◌≤◌, Bool, true, false, cond, List, [], ◌∷◌, ◌++◌, length, get_or, take, sym, ap, subst, refl, arith, min, ◌==◌, append_assoc, append-nil, length-append, Option, Some, None}
use Rattle.std.specs.Str.{bytes_eq}
use Rattle.std.specs.Map.{update}
use Rattle.std.specs.Borrow.{Bor}
use Rattle.std.proofs.Math.Seq.{take-length}
use Rattle.std.proofs.lemmas.Bool.Decides.{nat_tests}
use Rattle.std.proofs.lemmas.List.{get_or_append_left, get_or_push, get_or_default, take-append-le}
use Rattle.indexmap.specs.IndexMap.{IndexMap}
use Rattle.word_index.specs.declared.rows.Place.{Place}
use Rattle.word_index.specs.declared.links.Link.{Link}
use Rattle.word_index.specs.Merged.{nowhere}
use Rattle.word_index.specs.Links.{IsChain, at_end, at_link, IsLinked, AddsLinked, first_place, bumped, link_at, HasPlaces, HoldPlaces}

pub chain_within : (links : List Link) (n : ℕ) (ps : List Place) → IsChain links n ps → n ≤ length links
chain_within links n ps (at_end m qs none is) = omega (arith, none)
chain_within links n ps (at_link m qs k link rest at within here early chain is) = omega (arith, at, within)

-- a chain stays where more links follow
pub chain_more : (links more : List Link) (n : ℕ) (ps : List Place) → IsChain links n ps → IsChain (links ++ more) n ps
chain_more links more n ps (at_end m qs none is) = at_end n ps none is
chain_more links more n ps (at_link m qs k link rest at within here early chain is) =
    at_link n ps k link rest at (omega (arith, within, length-append links more)) (get_or_append_left links more link k within ∙ here) early (chain_more links more link.earlier rest chain) is

chain_zero : (links : List Link) (n : ℕ) (ps : List Place) → n ≡ 0 → IsChain links n ps → ps ≡ []
chain_zero links n ps zero (at_end m qs none is) = is
chain_zero links n ps zero (at_link m qs k link rest at within here early chain is) = absurd (omega (arith, zero, at))

pub chain_unique : (links : List Link) (n : ℕ) (ps qs : List Place) → IsChain links n ps → IsChain links n qs → ps ≡ qs
chain_unique links n ps qs (at_end m rs none is) other = is ∙ sym (chain_zero links n qs none other)
chain_unique links n ps qs (at_link m rs k link rest at within here early chain is) (at_end i us none same) = absurd (omega (arith, at, none))
chain_unique links n ps qs (at_link m rs k link rest at within here early chain is) (at_link i us j next more near inside there soon other same) =
    let place : k ≡ j = omega (arith, at, near) in
    let one : link ≡ next = sym here ∙ ap (λ i. get_or links i link) place ∙ get_or_default links j link next inside ∙ there in
    let tail = chain_unique links link.earlier rest more chain (subst (λ (l : Link). IsChain links l.earlier more) (sym one) other) in
    is ∙ (λ i. (one i).place ∷ tail i) ∙ sym same

pub linked_unique : (links : List Link) (link : Link) (ps qs : List Place) → IsLinked links link ps → IsLinked links link qs → ps ≡ qs
linked_unique links link ps qs a b = a.is ∙ ap (λ l. link.place ∷ l) (chain_unique links link.earlier a.rest b.rest a.chain b.chain) ∙ sym b.is

-- one more occurrence in the file counted last, and in another
module _ (links : List Link) (last : Link) (path line : ℕ) (ps : List Place) (h : IsLinked links last ps) where
  pub next_same : last.place.path ≡ path → IsLinked links (record { place = record { path = path; count = last.place.count + 1; line = min last.place.line line }; earlier = last.earlier }) (bumped path line ps)
  next_same same =
      let on : (last.place.path == path) ≡ true = grind (arith, nat_tests) in
      record {
        rest = h.rest;
        chain = h.chain;
        is = ap (bumped path line) h.is ∙ ap (λ t. cond t (record { path = path; count = last.place.count + 1; line = min last.place.line line } ∷ h.rest) (first_place path line ∷ last.place ∷ h.rest)) on;
      }

  pub next_other : last.place.path ≢ path → IsLinked (links ++ last ∷ []) (record { place = first_place path line; earlier = length links + 1 }) (bumped path line ps)
  next_other other =
      let off : (last.place.path == path) ≡ false = grind (arith, nat_tests) in
      record {
        rest = ps;
        chain = at_link (length links + 1) ps (length links) last h.rest refl (omega (arith, length-append links (last ∷ []))) (get_or_push links last last (length links) refl)
            (chain_within links last.earlier h.rest h.chain) (chain_more links (last ∷ []) last.earlier h.rest h.chain) h.is;
        is = ap (bumped path line) h.is ∙ ap (λ t. cond t (record { path = path; count = last.place.count + 1; line = min last.place.line line } ∷ h.rest) (first_place path line ∷ last.place ∷ h.rest)) off
            ∙ ap (λ l. first_place path line ∷ l) (sym h.is);
      }

abbrev pub unlinked : Link
unlinked = record { place = nowhere; earlier = 0 }

-- the next link of a chain
pub record IsNext (links : List Link) (n : ℕ) (ps : List Place) : Type 0 where
  pub within : n - 1 < length links
  pub rest : List Place
  pub early : (get_or links (n - 1) unlinked).earlier ≤ n - 1
  pub chain : IsChain links (get_or links (n - 1) unlinked).earlier rest
  pub is : ps ≡ (get_or links (n - 1) unlinked).place ∷ rest

pub next_of : (links : List Link) (n : ℕ) (ps : List Place) → 0 < n → IsChain links n ps → IsNext links n ps
next_of links n ps some (at_end m qs none is) = absurd (omega (arith, some, none))
next_of links n ps some (at_link m qs k link rest at within here early chain is) =
    let same : n - 1 ≡ k = omega (arith, at) in
    let e : get_or links (n - 1) unlinked ≡ link = ap (λ i. get_or links i unlinked) same ∙ get_or_default links k unlinked link within ∙ here in
    record {
      within = omega (arith, at, within);
      rest = rest;
      early = subst (λ (l : Link). l.earlier ≤ n - 1) (sym e) (omega (arith, at, early));
      chain = subst (λ (l : Link). IsChain links l.earlier rest) (sym e) chain;
      is = is ∙ ap (λ (l : Link). l.place ∷ rest) (sym e);
    }

-- some places of a link were added, and the rest hangs on n
pub record Following (links : List Link) (last : Link) (old : List Place) (n : ℕ) (out : List Place) : Type 0 where
  pub grown : List Place
  pub rest : List Place
  pub is : out ≡ old ++ grown
  pub chain : IsChain links n rest
  pub linked : IsLinked links last (grown ++ rest)

pub following_first : (links : List Link) (last : Link) (old : List Place) (ps : List Place) → IsLinked links last ps → Following links last old last.earlier (old ++ last.place ∷ [])
following_first links last old ps h = record {
  grown = last.place ∷ [];
  rest = h.rest;
  is = refl;
  chain = h.chain;
  linked = record { rest = h.rest; chain = h.chain; is = refl };
}

module _ {links : List Link} {last : Link} {old : List Place} {n : ℕ} {out : List Place} (f : Following links last old n out) where
  pub following_next : 0 < n → Following links last old (get_or links (n - 1) unlinked).earlier (out ++ (get_or links (n - 1) unlinked).place ∷ [])
  following_next some =
      let s = next_of links n f.rest some f.chain in
      let place = (get_or links (n - 1) unlinked).place in
      record {
        grown = f.grown ++ place ∷ [];
        rest = s.rest;
        is = ap (λ l. l ++ place ∷ []) f.is ∙ append_assoc old f.grown (place ∷ []);
        chain = s.chain;
        linked = subst (IsLinked links last) (ap (λ r. f.grown ++ r) s.is ∙ sym (append_assoc f.grown (place ∷ []) s.rest)) f.linked;
      }

  pub following_end : n ≡ 0 → AddsLinked links last old out
  following_end none = record {
    row = f.grown;
    is = f.is;
    linked = subst (IsLinked links last) (ap (λ r. f.grown ++ r) (chain_zero links n f.rest none f.chain) ∙ append-nil f.grown) f.linked;
  }

  pub following_keeps : take (length old) out ≡ old
  following_keeps = ap (take (length old)) f.is ∙ take-append-le (length old) old f.grown (omega arith) ∙ take-length old

-- one word's link was changed
module _ {S : Type 0} (m n : IndexMap (Bor (List ℕ)) Link S) (old new : List Link) (word : List ℕ) (link : Link) (path line : ℕ) where
  pub holds_next : ((w : List ℕ) → link_at n w ≡ update bytes_eq (link_at m) word (Some link) w) → ((k : ℕ) (ps : List Place) → IsChain old k ps → IsChain new k ps)
      → ((ps : List Place) → HasPlaces old (link_at m word) ps → IsLinked new link (bumped path line ps))
      → (f : List ℕ → List Place) → HoldPlaces m old f → HoldPlaces n new (λ w. cond (bytes_eq word w) (bumped path line (f word)) (f w))
  holds_next updates kept next f h w = subst (λ (o : Option Link). HasPlaces new o (cond (bytes_eq word w) (bumped path line (f word)) (f w))) (sym (updates w)) (by (bytes_eq word w))
    where
      stays : (o : Option Link) (ps : List Place) → HasPlaces old o ps → HasPlaces new o ps
      stays None ps k = k
      stays (Some l) ps k = record { rest = k.rest; chain = kept l.earlier k.rest k.chain; is = k.is }

      by : (t : Bool) → HasPlaces new (cond t (Some link) (link_at m w)) (cond t (bumped path line (f word)) (f w))
      by true = next (f word) (h word)
      by false = stays (link_at m w) (f w) (h w)
