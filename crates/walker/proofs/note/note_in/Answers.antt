use Rattle.std.proofs.Common.{◌≡◌, ◌∙◌, ◌++◌, Bool, List, length, map, ap, sym, subst, refl, arith, Contains}
use Rattle.std.proofs.lemmas.List.{map-append}
use Rattle.firefly_outside.specs.Trees.{Path, child}
use Rattle.walker.specs.Walk.{Walk, walk_at, pairs_of, marked, IsSound, IsWalkOf}
use Rattle.walker.specs.Found.{AreBelow, AreNew, name_in, names_in}
use Rattle.walker.specs.Listings.{Notes}
use Rattle.walker.proofs.ListLemmas.{Contains-map}
use Rattle.walker.proofs.FoundLemmas.{below_both, whole_names}
use Rattle.walker.proofs.WalkLemmas.{noted, names-marked, AreBelow-listing, AreNew-dirs}
use Rattle.walker.proofs.NoteLemmas.{IsSound-noted, IsWalkOf-noted, Notes-noted, is_noted, kept_walk}
use Rattle.walker.proofs.note.note_in.Goals as goal

pub add_dirs-requires-clause-new : goal.add_dirs-requires-clause-new
add_dirs-requires-clause-new c =
    let same : map (λ d. d.0) (pairs_of c.mark.new.dirs.entries) ≡ map (λ d. d.0) (pairs_of c.args.dirs.now.entries) =
    ap (map (λ d. d.0)) (c.mark.ensures.marked ∙ ap (λ es. marked c.args.dir.now (pairs_of es)) c.room_for.ensures.dirs_stay) ∙ names-marked c.args.dir.now (pairs_of c.args.dirs.now.entries) in
    subst (λ (ps : List Path). AreNew ps c.args.listing.dirs.items) (sym same) (AreNew-dirs (walk_at c.args.root.now c.args.dirs.now c.args.files.now.items) c.args.dir.now c.args.listing c.requires.sound c.requires.unlisted c.requires.lawful)

listed_below : (c : goal.After-add_files) → AreBelow c.args.root.now c.args.listing.files.items
listed_below c = AreBelow-listing (walk_at c.args.root.now c.args.dirs.now c.args.files.now.items) c.args.dir.now c.args.listing c.requires.sound c.requires.unlisted c.requires.lawful

added : (c : goal.After-add_files) → c.add_files.new.files.items ≡ c.args.files.now.items ++ c.args.listing.files.items
added c = c.add_files.ensures ∙ ap (λ l. l ++ c.args.listing.files.items) c.room_for.ensures.files_stay

is : (c : goal.After-add_files) → noted (walk_at c.args.root.now c.args.dirs.now c.args.files.now.items) c.args.dir.now c.args.listing.dirs.items (names_in c.args.root.now c.args.listing.files.items) ≡ walk_at c.args.root.now c.add_dirs.new.dirs c.add_files.new.files.items
is c = is_noted c.args.root.now c.args.dir.now (pairs_of c.args.dirs.now.entries) (pairs_of c.mark.new.dirs.entries) (pairs_of c.add_dirs.new.dirs.entries)
    (names_in c.args.root.now c.args.files.now.items) (names_in c.args.root.now c.add_files.new.files.items) c.args.listing.dirs.items (names_in c.args.root.now c.args.listing.files.items)
    (c.mark.ensures.marked ∙ ap (λ es. marked c.args.dir.now (pairs_of es)) c.room_for.ensures.dirs_stay)
    c.add_dirs.ensures
    (ap (names_in c.args.root.now) (added c) ∙ map-append (name_in c.args.root.now) c.args.files.now.items c.args.listing.files.items)

whole : (c : goal.After-add_files) → map (child c.args.root.now) (names_in c.args.root.now c.args.listing.files.items) ≡ c.args.listing.files.items
whole c = whole_names c.args.root.now c.args.listing.files.items (listed_below c)

pub returns-clause-below : goal.returns-clause-below
returns-clause-below c = rw (added c) (below_both c.args.root.now c.args.files.now.items c.args.listing.files.items c.requires.below (listed_below c))

pub returns-clause-ok : goal.returns-clause-ok
returns-clause-ok c =
    let w = walk_at c.args.root.now c.args.dirs.now c.args.files.now.items in
    subst (λ (v : Walk). Notes w v c.args.dir.now c.args.listing) (is c) (Notes-noted w c.args.dir.now c.args.listing (names_in c.args.root.now c.args.listing.files.items) c.requires.sound c.requires.unlisted c.requires.lawful (whole c))

pub returns-clause-sound : goal.returns-clause-sound
returns-clause-sound c =
    subst IsSound (is c) (IsSound-noted (walk_at c.args.root.now c.args.dirs.now c.args.files.now.items) c.args.dir.now c.args.listing (names_in c.args.root.now c.args.listing.files.items) c.requires.sound c.requires.unlisted c.requires.lawful (whole c))

pub returns-clause-reported : goal.returns-clause-reported
returns-clause-reported c = λ t walk reported.
    subst (λ (v : Walk). IsWalkOf v t) (is c) (IsWalkOf-noted (walk_at c.args.root.now c.args.dirs.now c.args.files.now.items) c.args.dir.now c.args.listing (names_in c.args.root.now c.args.listing.files.items) c.requires.sound c.requires.unlisted c.requires.lawful (whole c) t walk reported)

pub returns-in_default-clause-err : goal.returns-in_default-clause-err
returns-in_default-clause-err c = (
  refl,
  kept_walk c.args.root.now (pairs_of c.args.dirs.now.entries) (pairs_of c.room_for.new.dirs.entries) (names_in c.args.root.now c.args.files.now.items) (names_in c.args.root.now c.room_for.new.files.items)
      (ap pairs_of c.room_for.ensures.dirs_stay) (ap (names_in c.args.root.now) c.room_for.ensures.files_stay),
)

pub returns-in_default-clause-sound : goal.returns-in_default-clause-sound
returns-in_default-clause-sound c = subst IsSound (sym (kept_walk c.args.root.now (pairs_of c.args.dirs.now.entries) (pairs_of c.room_for.new.dirs.entries) (names_in c.args.root.now c.args.files.now.items) (names_in c.args.root.now c.room_for.new.files.items)
    (ap pairs_of c.room_for.ensures.dirs_stay) (ap (names_in c.args.root.now) c.room_for.ensures.files_stay))) c.requires.sound

pub mark-requires : goal.mark-requires
mark-requires c = subst (λ (ps : List (Path × Bool)). Contains (map (λ d. d.0) ps) c.args.dir.now) (ap pairs_of (sym c.room_for.ensures.dirs_stay)) (Contains-map (λ (d : Path × Bool). d.0) _ _ c.requires.unlisted)

pub add_files-requires : goal.add_files-requires
add_files-requires c = c.in-Ok.ensures.files_room

pub returns-in_default-clause-below : goal.returns-in_default-clause-below
returns-in_default-clause-below c = rw c.room_for.ensures.files_stay c.requires.below
