use Rattle.std.proofs.Common.{◌≡◌, ◌≢◌, ◌∙◌, List, ℕ, ◌++◌, ◌∷◌, Option, Some, None, MatchOption, Bor, sym, ap, lit<}
use Rattle.std.proofs.lemmas.List.{append_cancel_left}
use Rattle.std.proofs.lemmas.Str.Pattern.{strip_prefix_char}
use Rattle.firefly_outside.specs.Trees.{Path, child, slash}
use Rattle.walker.proofs.paths.below.Goals as goal

following : (root path rest : Path) (r : Option (Bor (List ℕ))) → path ≡ root ++ rest → MatchOption r ((q : Path) → rest ≢ slash ∷ q) (λ x. rest ≡ slash ∷ x.now)
    → MatchOption r ((name : Path) → path ≢ child root name) (λ x. path ≡ child root x.now)
following root path rest None e h = λ name is. h name (append_cancel_left root rest (slash ∷ name) (sym e ∙ is))
following root path rest (Some x) e h = e ∙ ap (λ l. root ++ l) h

pub returns-in-Some : goal.returns-in-Some
returns-in-Some c =
    let whole : c.args.path.now ≡ c.args.root.now ++ c.in-Some.rest.now = (let h = c.in-Some.ensures.cases in h.1.1 ∙ ap (λ l. c.args.root.now ++ l) (sym h.2)) in
    following c.args.root.now c.args.path.now c.in-Some.rest.now c.strip_prefix-in-Some.result whole
    (strip_prefix_char slash c.in-Some.rest.now c.strip_prefix-in-Some.result c.strip_prefix-in-Some.ensures.cases (lit< tt))
