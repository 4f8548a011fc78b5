use Rattle.std.proofs.Common.{◌∙◌, ap, ◌++◌, ◌∷◌, []}
use Rattle.word_index.proofs.Parts.{parts_push, ends_push}
use Rattle.word_index.proofs.strings.Strings.push.Goals as goal

pub invariant_of-self-2 : goal.invariant_of-self-2
invariant_of-self-2 c =
    let old = c.self.inside in
    let e = c.in_ok-extend_from_slice.ensures in
    rw (c.push_reserved.ensures.items, c.reserve.ensures.items, e.items, c.len-end.ensures, e.len, old.text.ok.0) (ends_push old.text.items c.args.s.now 0 old.ends.items c.self.invariant)

pub returns-clause-added : goal.returns-clause-added
returns-clause-added c =
    let old = c.self.inside in
    let e = c.in_ok-extend_from_slice.ensures in
    rw (c.push_reserved.ensures.items, c.reserve.ensures.items, e.items, c.len-end.ensures, e.len, old.text.ok.0) (parts_push old.text.items c.args.s.now 0 old.ends.items c.self.invariant ∙ ap (λ t. t ++ c.args.s.now ∷ []) c.self.view_is)
