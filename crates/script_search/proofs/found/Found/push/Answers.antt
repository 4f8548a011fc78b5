use Rattle.std.proofs.Common.{◌∙◌, ◌++◌, ◌∷◌, [], List, ℕ, ap, refl}
use Rattle.script_search.proofs.Keyed.{pushed, pushed_keyed}
use Rattle.script_search.proofs.found.Found.push.Goals as goal

pub returns-clause-keyed : goal.returns-clause-keyed
returns-clause-keyed c =
    let parents = c.push_reserved.ensures.items ∙ ap (λ (l : List ℕ). l ++ c.args.parent ∷ []) c.in_ok-reserve.ensures.items in
    pushed_keyed c.args.self.now _ c.args.key c.args.parent refl refl c.requires.absent c.in_default.ensures.keys parents c.requires.keyed c.requires.key c.requires.room

pub returns-clause-ok : goal.returns-clause-ok
returns-clause-ok c =
    let parents = c.push_reserved.ensures.items ∙ ap (λ (l : List ℕ). l ++ c.args.parent ∷ []) c.in_ok-reserve.ensures.items in
    pushed c.args.self.now _ c.args.key c.args.parent refl refl c.requires.absent c.in_default.ensures.keys parents
