use Rattle.std.proofs.Common.{rules, ◌≡◌, ◌+◌, [], ◌∷◌, Some, None, ap, ◌∙◌, sym, subst, refl, List, ℕ, Option}
use Rattle.std.specs.Str.{bytes_eq}
use Rattle.std.proofs.lemmas.Map.Text.{hash_map_updates_str}
use Rattle.word_index.specs.declared.rows.Place.{Place}
use Rattle.word_index.specs.declared.links.Link.{Link}
use Rattle.word_index.specs.Links.{IsChain, IsLinked, at_end, first_place, bumped, link_at, HasPlaces}
use Rattle.word_index.proofs.Chains.{holds_next}
use Rattle.word_index.proofs.count.add.Goals as goal

-- the first place of a word
first_linked : (links : List Link) (path line : ℕ) (o : Option Link) → None ≡ o → (ps : List Place) → HasPlaces links o ps → IsLinked links (record { place = first_place path line; earlier = 0 }) (bumped path line ps)
first_linked links path line None e ps h = record { rest = []; chain = at_end 0 [] refl refl; is = ap (bumped path line) h }
first_linked links path line (Some l) e ps h = cc

-- the places of the link that was found
found_linked : (old new : List Link) (last next : Link) (path line : ℕ) (o : Option Link) → Some last ≡ o → ((ps : List Place) → IsLinked old last ps → IsLinked new next (bumped path line ps)) → (ps : List Place) → HasPlaces old o ps → IsLinked new next (bumped path line ps)
found_linked old new last next path line None e f ps h = cc
found_linked old new last next path line (Some l) e f ps h = let same : l ≡ last = cc in f ps (subst (λ (x : Link). IsLinked old x ps) same h)

pub returns-in_ok-next-in-Some : goal.returns-in_ok-next-in-Some
returns-in_ok-next-in-Some c =
    let new = c.in_ok-next-in-Some.next in
    let updates = hash_map_updates_str c.args.word.now c.args.words.now (c.get_mut.follows.lender new) (Some new) ((c.get_mut.follows.holds new).3 (search rules)) in
    holds_next c.args.words.now (c.get_mut.follows.lender new) c.args.links.now.items c.next_link.new.links.items c.args.word.now new c.args.path c.args.line updates c.next_link.ensures.kept
    (found_linked c.args.links.now.items c.next_link.new.links.items c.in-Some.last.now new c.args.path c.args.line (link_at c.args.words.now c.args.word.now) c.in-Some.ensures.value c.in_ok-next-in-Some.ensures.next)

pub returns-in_ok-insert-in-None : goal.returns-in_ok-insert-in-None
returns-in_ok-insert-in-None c =
    let new : Link = record { place = first_place c.args.path c.args.line; earlier = 0 } in
    let updates = hash_map_updates_str c.args.word.now c.get_mut.follows.lender-at-none c.insert.new.self _ c.in_ok-insert-in-None.ensures.updates in
    holds_next c.args.words.now c.insert.new.self c.args.links.now.items c.args.links.now.items c.args.word.now new c.args.path c.args.line (rw c.get_mut.follows.holds-at-none at updates) (λ k ps h. h)
    (first_linked c.args.links.now.items c.args.path c.args.line (link_at c.args.words.now c.args.word.now) c.in-None.ensures.value)
