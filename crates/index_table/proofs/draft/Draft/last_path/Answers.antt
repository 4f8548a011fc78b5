use Rattle.std.proofs.Common.{◌≡◌, ◌<◌, ◌≤◌, ◌-◌, ◌∙◌, [], ap, sym, refl, arith, length, get_or}
use Rattle.std.proofs.lemmas.List.{get_or_default}
use Rattle.index_table.specs.Paths.{texts}
use Rattle.index_table.proofs.Drafts.{last_path_is, no_hits, entry_at}
use Rattle.index_table.proofs.draft.Draft.last_path.Goals as goal

pub returns-then-many-self : goal.returns-then-many-self
returns-then-many-self c =
    let old = c.self.inside in
    let all : length old.numbers.items ≤ old.closed = omega (arith, c.if-many-self.true, c.len-many.ensures, old.numbers.ok.0) in
    rw (← c.self.view_is, no_hits (texts old.paths.entries) c.self.invariant.2 all) refl

pub returns : goal.returns
returns c =
    let old = c.self.inside in
    let ps = texts old.paths.entries in
    let ns = old.numbers.items in
    let some : old.closed < length ns = omega (arith, c.if-many-self.false, c.len-many.ensures, old.numbers.ok.0) in
    let e = entry_at old.paths.entries c.index.result.now _ _ c.in-Some.ensures.entry in
    let last : length ns - 1 ≡ c.len-many.result - 1 = omega (arith, c.len-many.ensures, old.numbers.ok.0) in
    let at : get_or ns (length ns - 1) 0 ≡ c.index.result.now =
    get_or_default ns (length ns - 1) 0 c.index.result.now (omega (arith, some)) ∙ ap (λ k. get_or ns k c.index.result.now) last ∙ sym c.index.ensures in
    rw (← c.self.view_is) (last_path_is ps c.self.invariant.2 c.as_str.result.now some (ap (λ n. get_or ps n []) at ∙ e.text ∙ sym c.as_str.ensures.value))
