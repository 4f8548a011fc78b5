use Rattle.std.proofs.Common.{◌≡◌, ◌<◌, length, sym, ap, ◌∙◌, arith, get_or, []}
use Rattle.std.proofs.lemmas.List.Elements.{Contains-get_or}
use Rattle.word_index.specs.Index.{Hit}
use Rattle.word_index.specs.Merged.{nowhere}
use Rattle.word_index.proofs.Rowed.{row_inside, place_inside, path_inside, hit_view}
use Rattle.word_index.proofs.piece.Piece.hit.Goals as goal

pub get-requires : goal.get-requires
get-requires c =
    let p = c.self.inside in
    let here = rw (← c.self.view_is) at c.requires.row in
    row_inside p.paths p.skipped p.words p.places c.self.invariant c.args.at here

pub offset_bounds-get-number : goal.offset_bounds-get-number
offset_bounds-get-number c =
    let p = c.self.inside in
    let here = rw (← c.self.view_is) at c.requires.row in
    let below = rw (← c.self.view_is) at c.requires.hit in
    let inside : c.args.number < length c.get.result.now = rw c.get.ensures (place_inside p.paths p.skipped p.words p.places c.self.invariant c.args.at here c.args.number below) in
    omega (arith, inside, c.get.type_inv)

pub bounds-get-number : goal.bounds-get-number
bounds-get-number c =
    let p = c.self.inside in
    let here = rw (← c.self.view_is) at c.requires.row in
    let below = rw (← c.self.view_is) at c.requires.hit in
    rw c.get.ensures (place_inside p.paths p.skipped p.words p.places c.self.invariant c.args.at here c.args.number below)

pub get-requires-2 : goal.get-requires-2
get-requires-2 c =
    let p = c.self.inside in
    let here = rw (← c.self.view_is) at c.requires.row in
    let below = rw (← c.self.view_is) at c.requires.hit in
    rw c.get.ensures (path_inside p.paths p.skipped p.words p.places c.self.invariant c.args.at here c.args.number below)

pub returns-clause-path : goal.returns-clause-path
returns-clause-path c =
    let p = c.self.inside in
    let here = rw (← c.self.view_is) at c.requires.row in
    let below = rw (← c.self.view_is) at c.requires.hit in
    let is = hit_view p.paths p.skipped p.words p.places c.self.invariant c.args.at here c.args.number below in
    rw (← c.self.view_is) (c.get-2.ensures ∙ ap (λ ps. get_or p.paths (get_or ps c.args.number nowhere).path []) c.get.ensures ∙ sym (ap (λ (h : Hit). h.path) is))

pub returns-clause-count : goal.returns-clause-count
returns-clause-count c =
    let p = c.self.inside in
    let here = rw (← c.self.view_is) at c.requires.row in
    let below = rw (← c.self.view_is) at c.requires.hit in
    let is = hit_view p.paths p.skipped p.words p.places c.self.invariant c.args.at here c.args.number below in
    rw (← c.self.view_is) (ap (λ ps. (get_or ps c.args.number nowhere).count) c.get.ensures ∙ sym (ap (λ (h : Hit). h.count) is))

pub returns-clause-line : goal.returns-clause-line
returns-clause-line c =
    let p = c.self.inside in
    let here = rw (← c.self.view_is) at c.requires.row in
    let below = rw (← c.self.view_is) at c.requires.hit in
    let is = hit_view p.paths p.skipped p.words p.places c.self.invariant c.args.at here c.args.number below in
    rw (← c.self.view_is) (ap (λ ps. (get_or ps c.args.number nowhere).line) c.get.ensures ∙ sym (ap (λ (h : Hit). h.line) is))

pub returns-clause-among : goal.returns-clause-among
returns-clause-among c =
    let p = c.self.inside in
    let here = rw (← c.self.view_is) at c.requires.row in
    let below = rw (← c.self.view_is) at c.requires.hit in
    let place = (get_or c.get.result.now c.args.number nowhere).path in
    let within : place < length p.paths = rw c.get.ensures (path_inside p.paths p.skipped p.words p.places c.self.invariant c.args.at here c.args.number below) in
    rw (← c.self.view_is, c.get-2.ensures) (Contains-get_or p.paths place [] within)
