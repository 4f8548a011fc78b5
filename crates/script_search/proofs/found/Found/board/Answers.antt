use Rattle.std.proofs.Common.{◌<◌, ◌∙◌, ℕ, List, ap, get_or, length, refl, arith}
use Rattle.std.proofs.lemmas.Option.{slice_get_read}
use Rattle.smallvec.specs.SmallVec.{SmallVec}
use Rattle.script_search.proofs.Keyed.{as_many}
use Rattle.script_search.proofs.Growing.{read_at}
use Rattle.script_search.proofs.found.Found.board.Goals as goal

pub returns : goal.returns
returns c =
    let f = c.args.self.now in
    let size = as_many f in
    let low : c.args.place < length f.keys.keys = omega (arith, size, c.requires) in
    let here = c.index-as_slice-place.is ∙ ap (λ (xs : List (SmallVec ℕ)). get_or xs c.args.place c.index-as_slice-place.result) c.as_slice.ensures.keys in
    let at = slice_get_read f.keys.keys (length f.keys.keys) c.args.place c.index-as_slice-place.result refl low here in
    read_at f c.args.place c.index-as_slice-place.result _ c.unpack.result at c.as_slice-2.ensures c.unpack.ensures
