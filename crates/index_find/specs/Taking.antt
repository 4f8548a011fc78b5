-- Tokens, taken one by one.
use Rattle.std.specs.Prelude.{List, [], ◌∷◌, ◌++◌, Option, Some, None, option_and_then, Bool, true, false, Result, Ok, Err}
use Rattle.std.specs.Str.{str_to_ascii_lowercase}
use Rattle.index_find.specs.Grammar.{Token}
use Rattle.index_find.specs.declared.query.Step.{Step}
use Rattle.index_find.specs.declared.query.Step.TheVariants as step
use Rattle.index_find.specs.declared.token.Kind.{Kind}
use Rattle.index_find.specs.declared.token.Kind.TheVariants as kind
use Rattle.index_find.specs.Kinds.{kind_of}
use Rattle.index_find.specs.declared.read.QueryFault.{QueryFault}
use Rattle.index_find.specs.declared.read.QueryFault.TheVariants.{Memory, NotAQuery}
use Rattle.index_find.specs.declared.tokens.Pending.{Pending}
use Rattle.index_find.specs.declared.tokens.Pending.TheVariants as pending

-- what is pending, the last first, and the steps: before a term, or after one
pub data State : Type 0 where
  Before : List Pending → List Step → State
  Past : List Pending → List Step → State

-- a term has ended: it is negated as often as is pending, and joined to the terms before it
abbrev pub ended : List Pending → List Step → State
ended (pending.Not ∷ ps) ss = ended ps (ss ++ step.Not ∷ [])
ended (pending.Both ∷ ps) ss = Past ps (ss ++ step.Both ∷ [])
ended ps ss = Past ps ss

-- a part has ended: it is joined to the parts before it
abbrev pub pending_joined : List Pending → List Pending
pending_joined (pending.Either ∷ ps) = ps
pending_joined ps = ps

abbrev pub steps_joined : List Pending → List Step → List Step
steps_joined (pending.Either ∷ ps) ss = ss ++ step.Either ∷ []
steps_joined ps ss = ss

-- a query between `(` and `)` has ended, which is a term
abbrev pub closed : List Pending → List Step → Option State
closed (pending.Open ∷ ps) ss = Some (ended ps ss)
closed ps ss = None

abbrev pub before_term : Kind → Token → List Pending → List Step → Option State
before_term kind.Word t ps ss = Some (ended ps (ss ++ step.Word (str_to_ascii_lowercase t) ∷ []))
before_term kind.Not t ps ss = Some (Before (pending.Not ∷ ps) ss)
before_term kind.Open t ps ss = Some (Before (pending.Open ∷ ps) ss)
before_term k t ps ss = None

abbrev pub after_term : Kind → List Pending → List Step → Option State
after_term kind.Both ps ss = Some (Before (pending.Both ∷ ps) ss)
after_term kind.Either ps ss = Some (Before (pending.Either ∷ pending_joined ps) (steps_joined ps ss))
after_term kind.Close ps ss = closed (pending_joined ps) (steps_joined ps ss)
after_term k ps ss = None

-- one token more
abbrev pub took : State → Token → Option State
took (Before ps ss) t = before_term (kind_of t) t ps ss
took (Past ps ss) t = after_term (kind_of t) ps ss

-- the tokens one by one
abbrev pub ran : State → List Token → Option State
ran s [] = Some s
ran s (t ∷ ts) = option_and_then (λ s'. ran s' ts) (took s t)

abbrev pub alone : List Pending → List Step → Option (List Step)
alone [] ss = Some ss
alone (p ∷ ps) ss = None

-- the steps, where nothing is pending
abbrev pub finished : State → Option (List Step)
finished (Before ps ss) = None
finished (Past ps ss) = alone (pending_joined ps) (steps_joined ps ss)

abbrev pub state_of : Bool → List Pending → List Step → State
state_of true ps ss = Past ps ss
state_of false ps ss = Before ps ss

-- one token more leads to this state, or to none where it is no query's
abbrev pub Takes : Result Bool QueryFault → (Option State → Type 0) → List Pending → List Step → Type 0
Takes (Ok following) Is ps ss = Is (Some (state_of following ps ss))
Takes (Err NotAQuery) Is ps ss = Is None
Takes (Err Memory) Is ps ss = Unit {0}
