use Rattle.std.proofs.Common.{List, Contains, ap, sym, subst}
use Rattle.std.specs.String.{string_bytes}
use Rattle.walker.specs.Walk.{Walk, pairs_of, IsSound, IsWalkOf}
use Rattle.walker.specs.Found.{names_in}
use Rattle.firefly_outside.specs.Trees.{Path}
use Rattle.walker.proofs.ListLemmas.{Contains-nil}
use Rattle.walker.proofs.NoteLemmas.{is_new, IsSound-new, IsWalkOf-new}
use Rattle.walker.proofs.walked.Walked.new.Goals as goal

pub invariant_of-result : goal.invariant_of-result
invariant_of-result c = (
  subst IsSound (is_new c.args.root.now (string_bytes c.in_ok-name.name) (pairs_of c.in_ok-dirs.dirs.entries) (names_in (string_bytes c.in_ok-name.name) c.new.result.items) c.in_ok-name.ensures.ok c.in_ok-dirs.ensures (ap (names_in (string_bytes c.in_ok-name.name)) c.new.ensures.items))
      (IsSound-new c.args.root.now),
  λ p h. absurd (Contains-nil p (subst (λ (l : List Path). Contains l p) c.new.ensures.items h)),
)

pub returns-clause-new : goal.returns-clause-new
returns-clause-new c = sym (is_new c.args.root.now (string_bytes c.in_ok-name.name) (pairs_of c.in_ok-dirs.dirs.entries) (names_in (string_bytes c.in_ok-name.name) c.new.result.items) c.in_ok-name.ensures.ok c.in_ok-dirs.ensures (ap (names_in (string_bytes c.in_ok-name.name)) c.new.ensures.items))

pub returns-clause-reported : goal.returns-clause-reported
returns-clause-reported c = λ t. subst (λ (w : Walk). IsWalkOf w t) (is_new c.args.root.now (string_bytes c.in_ok-name.name) (pairs_of c.in_ok-dirs.dirs.entries) (names_in (string_bytes c.in_ok-name.name) c.new.result.items) c.in_ok-name.ensures.ok c.in_ok-dirs.ensures (ap (names_in (string_bytes c.in_ok-name.name)) c.new.ensures.items))
    (IsWalkOf-new c.args.root.now t)
