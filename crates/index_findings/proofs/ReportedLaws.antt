-- What is told of a tree that may tell.
use Rattle.std.proofs.Common.{Some, None, Option}
use Rattle.std.specs.Prelude.{IfSome}
use Rattle.firefly_outside.specs.Trees.{Contents}

-- what is told of one thing is told of another
pub reported_on : (tree : Option Contents) (P Q : Contents → Type 0) → ((t : Contents) → P t → Q t) → IfSome tree P → IfSome tree Q
reported_on None P Q f h = h
reported_on (Some t) P Q f h = f t h

pub reported_both : (tree : Option Contents) (P Q S : Contents → Type 0) → ((t : Contents) → P t → Q t → S t) → IfSome tree P → IfSome tree Q → IfSome tree S
reported_both None P Q S f h k = h
reported_both (Some t) P Q S f h k = f t h k

pub reported_all : (tree : Option Contents) (P : Contents → Type 0) → ((t : Contents) → P t) → IfSome tree P
reported_all None P f = tt
reported_all (Some t) P f = f t
