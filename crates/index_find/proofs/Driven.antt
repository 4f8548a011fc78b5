-- Tokens that a query's grammar spells are taken, one by one, to the steps of their tree.
use Rattle.std.proofs.Common.{◌≡◌, List, [], ◌∷◌, ◌++◌, refl, ap, sym, ◌∙◌, append_assoc, Some, Bool, true}
use Rattle.std.proofs.lemmas.List.{append-nil}
use Rattle.std.specs.Prelude.{codes, if◌then◌else◌, option_and_then}
use Rattle.std.specs.Str.{bytes_eq}
use Rattle.index_find.specs.Tree.{Tree}
use Rattle.index_find.specs.declared.query.Step.{Step}
use Rattle.index_find.specs.declared.query.Step.TheVariants as step
use Rattle.index_find.specs.declared.tokens.Pending.{Pending}
use Rattle.index_find.specs.declared.tokens.Pending.TheVariants as pending
use Rattle.index_find.specs.Grammar.{Token, is_word, Level, Term, Part, Whole, Spells, word, negated, grouped, one_term, both, one_part, either}
use Rattle.index_find.specs.Postfix.{postfix}
use Rattle.index_find.proofs.Postfixes.{postfix-injective}
use Rattle.index_find.specs.declared.token.Kind.{Kind}
use Rattle.index_find.specs.declared.token.Kind.TheVariants as kind
use Rattle.index_find.specs.Kinds.{kind_of}
use Rattle.index_find.specs.Taking.{State, Before, Past, ended, pending_joined, steps_joined, closed, alone, before_term, ran, finished}

-- no term is pending that is to be negated or joined to a part
abbrev pub IsPartStart : List Pending → Type 0
IsPartStart [] = Unit {0}
IsPartStart (pending.Not ∷ ps) = ⊥
IsPartStart (pending.Both ∷ ps) = ⊥
IsPartStart (pending.Either ∷ ps) = Unit {0}
IsPartStart (pending.Open ∷ ps) = Unit {0}

-- nor a part that is to be joined to a query
abbrev pub IsWholeStart : List Pending → Type 0
IsWholeStart [] = Unit {0}
IsWholeStart (pending.Not ∷ ps) = ⊥
IsWholeStart (pending.Both ∷ ps) = ⊥
IsWholeStart (pending.Either ∷ ps) = ⊥
IsWholeStart (pending.Open ∷ ps) = Unit {0}

pub ended-part : (ps : List Pending) (ss : List Step) → IsPartStart ps → ended ps ss ≡ Past ps ss
ended-part [] ss h = refl
ended-part (pending.Not ∷ ps) ss h = absurd h
ended-part (pending.Both ∷ ps) ss h = absurd h
ended-part (pending.Either ∷ ps) ss h = refl
ended-part (pending.Open ∷ ps) ss h = refl

pub part_start : (ps : List Pending) → IsWholeStart ps → IsPartStart ps
part_start [] h = tt
part_start (pending.Not ∷ ps) h = absurd h
part_start (pending.Both ∷ ps) h = absurd h
part_start (pending.Either ∷ ps) h = absurd h
part_start (pending.Open ∷ ps) h = tt

pending_joined-whole : (ps : List Pending) → IsWholeStart ps → pending_joined ps ≡ ps
pending_joined-whole [] h = refl
pending_joined-whole (pending.Not ∷ ps) h = absurd h
pending_joined-whole (pending.Both ∷ ps) h = absurd h
pending_joined-whole (pending.Either ∷ ps) h = absurd h
pending_joined-whole (pending.Open ∷ ps) h = refl

steps_joined-whole : (ps : List Pending) (ss : List Step) → IsWholeStart ps → steps_joined ps ss ≡ ss
steps_joined-whole [] ss h = refl
steps_joined-whole (pending.Not ∷ ps) ss h = absurd h
steps_joined-whole (pending.Both ∷ ps) ss h = absurd h
steps_joined-whole (pending.Either ∷ ps) ss h = absurd h
steps_joined-whole (pending.Open ∷ ps) ss h = refl

-- after a query: joined, it is all that was added
pub record IsWholeAfter (ps : List Pending) (ss : List Step) (qs : List Pending) (us : List Step) : Type 0 where
  pub pending : pending_joined qs ≡ ps
  pub steps : steps_joined qs us ≡ ss

pub record DrivesWhole (ts : List Token) (t : Tree) (ps : List Pending) (ss : List Step) (rest : List Token) : Type 0 where
  pub qs : List Pending
  pub us : List Step
  pub following : IsWholeAfter ps (ss ++ postfix t) qs us
  pub ran : ran (Before ps ss) (ts ++ rest) ≡ ran (Past qs us) rest

abbrev pub Drives : Level → List Token → Tree → Type 0
Drives Term ts t = (ps : List Pending) (ss : List Step) (rest : List Token) → ran (Before ps ss) (ts ++ rest) ≡ ran (ended ps (ss ++ postfix t)) rest
Drives Part ts t = (ps : List Pending) (ss : List Step) (rest : List Token) → IsPartStart ps → ran (Before ps ss) (ts ++ rest) ≡ ran (Past ps (ss ++ postfix t)) rest
Drives Whole ts t = (ps : List Pending) (ss : List Step) (rest : List Token) → IsWholeStart ps → DrivesWhole ts t ps ss rest

joined_steps : (a b c d : List Step) → a ++ b ++ c ++ d ≡ a ++ (b ++ c ++ d)
joined_steps a b c d = simp append_assoc

word_kind : (w : Token) → is_word w ≡ true → kind_of w ≡ kind.Word
word_kind w h = ap (λ (b : Bool). if b then kind.Word else (if bytes_eq w (codes "!") then kind.Not
    else (if bytes_eq w (codes "&") then kind.Both
    else (if bytes_eq w (codes "|") then kind.Either
    else (if bytes_eq w (codes "(") then kind.Open
    else (if bytes_eq w (codes ")") then kind.Close
    else kind.Other)))))) h

closes : (ps qs : List Pending) (ss us : List Step) (rest : List Token) → IsWholeAfter (pending.Open ∷ ps) ss qs us → ran (Past qs us) (codes ")" ∷ rest) ≡ ran (ended ps ss) rest
closes ps qs ss us rest b =
    ap (λ (x : List Pending). option_and_then (λ (s : State). ran s rest) (closed x (steps_joined qs us))) b.pending ∙ ap (λ (x : List Step). ran (ended ps x) rest) b.steps

goes_on : (ps qs : List Pending) (ss us : List Step) (rest : List Token) → IsWholeAfter ps ss qs us → ran (Past qs us) (codes "|" ∷ rest) ≡ ran (Before (pending.Either ∷ ps) ss) rest
goes_on ps qs ss us rest b =
    ap (λ (x : List Pending). ran (Before (pending.Either ∷ x) (steps_joined qs us)) rest) b.pending ∙ ap (λ (x : List Step). ran (Before (pending.Either ∷ ps) x) rest) b.steps

pub drives : (l : Level) (ts : List Token) (t : Tree) → Spells l ts t → Drives l ts t
drives l ts t (word w h) = λ ps ss rest. ap (λ (k : Kind). option_and_then (λ (s : State). ran s rest) (before_term k w ps ss)) (word_kind w h)
drives l ts t (negated us u h) = λ ps ss rest.
    drives Term us u h (pending.Not ∷ ps) ss rest ∙ ap (λ (x : List Step). ran (ended ps x) rest) (append_assoc ss (postfix u) (step.Not ∷ []))
drives l ts t (grouped us u h) = λ ps ss rest.
    let d = drives Whole us u h (pending.Open ∷ ps) ss (codes ")" ∷ rest) tt in
    ap (ran (Before (pending.Open ∷ ps) ss)) (append_assoc us (codes ")" ∷ []) rest) ∙ d.ran ∙ closes ps d.qs (ss ++ postfix u) d.us rest d.following
drives l ts t (one_term us u h) = λ ps ss rest start. drives Term us u h ps ss rest ∙ ap (λ (s : State). ran s rest) (ended-part ps (ss ++ postfix u) start)
drives l ts t (both xs ys x y h g) = λ ps ss rest start.
    ap (ran (Before ps ss)) (append_assoc xs (codes "&" ∷ ys) rest)
    ∙ drives Part xs x h ps ss (codes "&" ∷ ys ++ rest) start
    ∙ drives Term ys y g (pending.Both ∷ ps) (ss ++ postfix x) rest
    ∙ ap (λ (us : List Step). ran (Past ps us) rest) (joined_steps ss (postfix x) (postfix y) (step.Both ∷ []))
drives l ts t (one_part us u h) = λ ps ss rest start. record {
  qs = ps;
  us = ss ++ postfix u;
  following = record { pending = pending_joined-whole ps start; steps = steps_joined-whole ps (ss ++ postfix u) start };
  ran = drives Part us u h ps ss rest (part_start ps start);
}
drives l ts t (either xs ys x y h g) = λ ps ss rest start.
    let d = drives Whole xs x h ps ss (codes "|" ∷ ys ++ rest) start in
    record {
      qs = pending.Either ∷ ps;
      us = ss ++ postfix x ++ postfix y;
      following = record { pending = refl; steps = joined_steps ss (postfix x) (postfix y) (step.Either ∷ []) };
      ran = ap (ran (Before ps ss)) (append_assoc xs (codes "|" ∷ ys) rest)
          ∙ d.ran
          ∙ goes_on ps d.qs (ss ++ postfix x) d.us (ys ++ rest) d.following
          ∙ drives Part ys y g (pending.Either ∷ ps) (ss ++ postfix x) rest tt;
    }

-- the steps to which a query's tokens are taken
pub record Finishes (ts : List Token) (t : Tree) : Type 0 where
  pub last : State
  pub taken : ran (Before [] []) ts ≡ Some last
  pub steps : finished last ≡ Some (postfix t)

pub finishes : (ts : List Token) (t : Tree) → Spells Whole ts t → Finishes ts t
finishes ts t h =
    let d = drives Whole ts t h [] [] [] tt in
    record {
      last = Past d.qs d.us;
      taken = ap (ran (Before [] [])) (sym (append-nil ts)) ∙ d.ran;
      steps = ap (λ (x : List Pending). alone x (steps_joined d.qs d.us)) d.following.pending ∙ ap Some d.following.steps;
    }

some_same : {X : Type 0} {x y : X} → Some x ≡ Some y → x ≡ y
some_same e = cc

-- tokens are a query for one tree at most
pub one_tree : (ts : List Token) (x y : Tree) → Spells Whole ts x → Spells Whole ts y → x ≡ y
one_tree ts x y h g =
    let a = finishes ts x h in
    let b = finishes ts y g in
    postfix-injective x y (some_same (sym a.steps ∙ ap finished (some_same (sym a.taken ∙ b.taken)) ∙ b.steps))
