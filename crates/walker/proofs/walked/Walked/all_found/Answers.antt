use Rattle.std.proofs.Common.{rules, ◌≡◌, ◌<◌, [], length, map, get_or, ap, subst, sym, ◌∙◌, refl, below_more, Contains}
use Rattle.std.specs.String.{string_bytes}
use Rattle.std.proofs.lemmas.List.{get_or_default}
use Rattle.std.proofs.lemmas.List.Elements.{Contains-get_or}
use Rattle.firefly_outside.specs.Trees.{Path}
use Rattle.walker.specs.Found.{names_in}
use Rattle.walker.proofs.Lookups.{never}
use Rattle.walker.proofs.walked.Walked.all_found.Goals as goal

pub returns-then-not-has_file : goal.returns-then-not-has_file
returns-then-not-has_file c =
    let paths = c.args.piece.now.paths in
    let within : c.loop-at.at < length paths = search rules in
    let files : names_in c.as_str.result.now c.self.inside.files.items ≡ c.args.self.now.files = ap (λ r. names_in r c.self.inside.files.items) c.as_str.ensures.value ∙ ap (λ w. w.files) c.self.view_is in (
      never,
      λ all. c.if-not-has_file.ensures.1 (subst (λ fs. Contains fs c.path.result.now) (sym files)
          (all c.path.result.now (subst (λ (p : Path). Contains paths p) (sym c.path.ensures) (Contains-get_or paths c.loop-at.at [] within)))),
    )

pub loop-at-preserved : goal.loop-at-preserved
loop-at-preserved c =
    let paths = c.args.piece.now.paths in
    let files : names_in c.as_str.result.now c.self.inside.files.items ≡ c.args.self.now.files = ap (λ r. names_in r c.self.inside.files.items) c.as_str.ensures.value ∙ ap (λ w. w.files) c.self.view_is in
    below_more _ _ c.loop-at.invariant
    (subst (λ fs. Contains fs (get_or paths c.loop-at.at [])) files
    (subst (λ (p : Path). Contains (names_in c.as_str.result.now c.self.inside.files.items) p) c.path.ensures (c.if-not-has_file.ensures.0 refl)))

pub returns : goal.returns
returns c = (
  λ yes p here.
      let low : here.0 < c.loop-at.at = let within = here.1 in search rules in
      subst (λ (q : Path). Contains c.args.self.now.files q) (get_or_default c.args.piece.now.paths here.0 [] p here.1 ∙ here.2) (c.loop-at.invariant here.0 low),
  λ all. refl,
)

pub has_file-requires : goal.has_file-requires
has_file-requires c = rw c.as_str.ensures.value c.self.invariant.1
