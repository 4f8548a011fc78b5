use Rattle.std.proofs.Common.{◌≡◌, length, map, ◌∷◌, [], ◌++◌, ap, ◌∙◌, OnOk, subst, sym}
use Rattle.word_index.specs.Words.{lower}
use Rattle.word_index.proofs.Ended.{ends_fit, pushes}
use Rattle.word_index.proofs.strings.Strings.push_lower.Goals as goal

pub invariant_of-self-2 : goal.invariant_of-self-2
invariant_of-self-2 c =
    let old = c.self.inside in
    let e = c.end_part.ensures in
    ends_fit old.text.items (map lower c.args.s.now) c.add_lower.new.text.items old.ends.items c.self.invariant c.in-Ok.ensures.ok c.end_part.result _ _ c.len-start.result (c.len-start.ensures ∙ old.text.ok.0) e.same e.ended e.back e.none

pub returns : goal.returns
returns c =
    let old = c.self.inside in
    let e = c.end_part.ensures in
    let p = pushes old.text.items (map lower c.args.s.now) c.add_lower.new.text.items old.ends.items c.self.invariant c.in-Ok.ensures.ok c.end_part.result _ _ e.same e.ended in
    rw (← c.self.view_is) p
