use Rattle.std.proofs.Common.{◌≡◌, length, map, ◌∷◌, [], ◌++◌, ap, ◌∙◌, OnOk, subst, sym}
use Rattle.word_index.specs.Numbered.{moved}
use Rattle.word_index.proofs.Ended.{ends_fit, pushes, on_ok_then}
use Rattle.word_index.proofs.rows.Rows.push_merged.Goals as goal

pub invariant_of-self-2 : goal.invariant_of-self-2
invariant_of-self-2 c =
    let old = c.self.inside in
    let e = c.end_part.ensures in
    ends_fit old.places.items c.in-Ok.ensures.ok.row c.add_merged.new.out.items old.ends.items c.self.invariant c.in-Ok.ensures.ok.is c.end_part.result _ _ c.len-start.result (c.len-start.ensures ∙ old.places.ok.0) e.same e.ended e.back e.none

pub returns : goal.returns
returns c =
    let old = c.self.inside in
    let e = c.end_part.ensures in
    let p = pushes old.places.items c.in-Ok.ensures.ok.row c.add_merged.new.out.items old.ends.items c.self.invariant c.in-Ok.ensures.ok.is c.end_part.result _ _ e.same e.ended in
    rw (← c.self.view_is) (on_ok_then c.end_part.result p (λ is. record { row = c.in-Ok.ensures.ok.row; is = is; merged = c.in-Ok.ensures.ok.merged }))
