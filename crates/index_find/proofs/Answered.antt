-- What tokens answer that were taken, one by one.
use Rattle.std.proofs.Common.{◌≡◌, ℕ, ◌+◌, ◌<◌, ◌≤◌, ◌==◌, reverse, Result, Ok, Err, get_or, take, drop, map, List, [], ◌∷◌, ◌++◌, length, refl, ap, sym, ◌∙◌, subst, Option, Some, None, true, false, arith}
use Rattle.std.specs.Prelude.{option_and_then, IsErrAnd}
use Rattle.std.proofs.lemmas.List.{take-map, take_more, map-append, take-append-drop, take_all, length-map, length-reverse}
use Rattle.std.proofs.lemmas.Bool.{false≢true}
use Rattle.index_find.specs.declared.read.QueryFault.{QueryFault}
use Rattle.index_find.specs.declared.read.QueryFault.TheVariants.{Memory, NotAQuery}
use Rattle.index_find.specs.Answers.{IsAnswer}
use lib.Dec.{eqb-suc-zero}
use Rattle.index_find.specs.Tree.{Tree}
use Rattle.index_find.specs.declared.query.Step.{Step}
use Rattle.index_find.specs.declared.tokens.Pending.{Pending}
use Rattle.index_find.specs.Grammar.{Token, Whole, Spells, Reads, IsReading}
use Rattle.index_find.specs.Postfix.{postfix, tree_of}
use Rattle.index_find.specs.Taking.{State, Before, Past, pending_joined, steps_joined, alone, took, ran, finished, Takes}
use Rattle.index_find.proofs.Postfixes.{tree_of-postfix}
use Rattle.index_find.proofs.Driven.{finishes, one_tree}
use Rattle.index_find.proofs.Sound.{spelt}

none_some : {X : Type 0} {x : X} → None ≡ Some x → ⊥
none_some e = cc

some_same : {X : Type 0} {x y : X} → Some x ≡ Some y → x ≡ y
some_same e = cc

bound : (o : Option State) (f g h : State → Option State) → ((s : State) → f s ≡ option_and_then h (g s)) → option_and_then f o ≡ option_and_then h (option_and_then g o)
bound None f g h e = refl
bound (Some s) f g h e = e s

ran-append : (xs ys : List Token) (s : State) → ran s (xs ++ ys) ≡ option_and_then (λ (t : State). ran t ys) (ran s xs)
ran-append [] ys s = refl
ran-append (x ∷ xs) ys s = bound (took s x) (λ (t : State). ran t (xs ++ ys)) (λ (t : State). ran t xs) (λ (t : State). ran t ys) (λ t. ran-append xs ys t)

one_more : (o : Option State) → option_and_then (λ (s : State). Some s) o ≡ o
one_more None = refl
one_more (Some s) = refl

-- one token more after those that led to s
pub ran-push : (xs : List Token) (w : Token) (s : State) (o : Option State) → ran (Before [] []) xs ≡ Some s → took s w ≡ o → ran (Before [] []) (xs ++ w ∷ []) ≡ o
ran-push xs w s o e f =
    ran-append xs (w ∷ []) (Before [] [])
    ∙ ap (option_and_then (λ (t : State). ran t (w ∷ []))) e
    ∙ one_more (took s w)
    ∙ f

-- tokens that can't be taken begin no query
pub prefix_refused : (xs ys ts : List Token) → ts ≡ xs ++ ys → ran (Before [] []) xs ≡ None → (t : Tree) → ¬ Reads ts t
prefix_refused xs ys ts is e t r =
    let f = finishes ts t r.whole in
    none_some (sym (ap (option_and_then (λ (s : State). ran s ys)) e) ∙ sym (ran-append xs ys (Before [] [])) ∙ ap (ran (Before [] [])) (sym is) ∙ f.taken)

-- nor are tokens a query that end where something is open
pub end_refused : (ts : List Token) (s : State) → ran (Before [] []) ts ≡ Some s → finished s ≡ None → (t : Tree) → ¬ Reads ts t
end_refused ts s e n t r =
    let f = finishes ts t r.whole in
    none_some (sym n ∙ ap finished (some_same (sym e ∙ f.taken)) ∙ f.steps)

-- nor are more than 64
pub many_refused : (ts : List Token) → 64 < length ts → (t : Tree) → ¬ Reads ts t
many_refused ts h t r = absurd (omega (arith, h, r.few))

-- the steps are those of the tree as which the tokens read
pub record IsRead (ts : List Token) (ss : List Step) : Type 0 where
  pub reading : IsReading ts (tree_of ss)
  pub whole : ss ≡ postfix (tree_of ss)

pub read : (ts : List Token) (ps : List Pending) (us ss : List Step) → length ts ≤ 64 → ran (Before [] []) ts ≡ Some (Past ps us) → pending_joined ps ≡ [] → ss ≡ steps_joined ps us → IsRead ts ss
read ts ps us ss few e none is =
    let done : finished (Past ps us) ≡ Some ss = ap (λ (x : List Pending). alone x (steps_joined ps us)) none ∙ ap Some (sym is) in
    let s = spelt ts (Past ps us) ss e done in
    let same : tree_of ss ≡ s.tree = ap tree_of s.steps ∙ tree_of-postfix s.tree in
    record {
      reading = record {
        reads = record { few = few; whole = subst (Spells Whole ts) (sym same) s.spells };
        only = λ other r. one_tree ts other s.tree r.whole s.spells ∙ sym same;
      };
      whole = s.steps ∙ ap postfix (sym same);
    }

-- the first tokens, and one more
pub token_more : {X : Type 0} → (f : X → Token) (ws : List X) (i : ℕ) (w : X) → i < length ws → w ≡ get_or ws i w → take (i + 1) (map f ws) ≡ take i (map f ws) ++ f w ∷ []
token_more f ws i w h e =
    take-map f (i + 1) ws
    ∙ ap (map f) (take_more ws i w h)
    ∙ map-append f (take i ws) (get_or ws i w ∷ [])
    ∙ ap (λ x. map f (take i ws) ++ f x ∷ []) (sym e)
    ∙ ap (λ (xs : List Token). xs ++ f w ∷ []) (sym (take-map f i ws))

-- a token that was refused, or for which memory wanted
pub token_refused : (ts : List Token) (i : ℕ) (w : Token) (s : State) (ps : List Pending) (us : List Step) (e : QueryFault) (r : Result (List Step) QueryFault)
    → take (i + 1) ts ≡ take i ts ++ w ∷ [] → ran (Before [] []) (take i ts) ≡ Some s → Takes (Err e) (λ (o : Option State). took s w ≡ o) ps us → r ≡ Err e → IsAnswer ts r
token_refused ts i w s ps us Memory r more prefix h is = subst (λ (x : Result (List Step) QueryFault). IsAnswer ts x) (sym is) tt
token_refused ts i w s ps us NotAQuery r more prefix h is = subst (λ (x : Result (List Step) QueryFault). IsAnswer ts x) (sym is)
    (prefix_refused (take (i + 1) ts) (drop (i + 1) ts) ts (sym (take-append-drop (i + 1) ts)) (ap (ran (Before [] [])) more ∙ ran-push (take i ts) w s None prefix h))

pub err_is : {T E : Type 0} (r : Result T E) (e : E) → IsErrAnd r (λ x. x ≡ e) → r ≡ Err e
err_is (Ok x) e h = absurd h
err_is (Err x) e h = ap Err h

-- all tokens were taken
pub all_tokens : {X : Type 0} → (f : X → Token) (ws : List X) (i : ℕ) → length ws ≤ i → take i (map f ws) ≡ map f ws
all_tokens f ws i h = take_all i (map f ws) (rw length-map h)

pub none_left : (items : List Pending) → (length items == 0) ≡ true → reverse items ≡ []
none_left [] e = refl
none_left (p ∷ items) e = absurd (false≢true (sym (eqb-suc-zero (length items)) ∙ e))

not_alone : (ps : List Pending) (us : List Step) → 0 < length ps → alone ps us ≡ None
not_alone [] us h = absurd (omega arith)
not_alone (p ∷ ps) us h = refl

left_some : (items : List Pending) → (length items == 0) ≡ false → 0 < length items
left_some [] e = absurd (false≢true (sym e))
left_some (p ∷ items) e = omega arith

-- something is open at the end
pub left_open : (ps items : List Pending) (us : List Step) → reverse items ≡ pending_joined ps → (length items == 0) ≡ false → finished (Past ps us) ≡ None
left_open ps items us e h =
    ap (λ (x : List Pending). alone x (steps_joined ps us)) (sym e) ∙ not_alone (reverse items) (steps_joined ps us) (rw length-reverse (left_some items h))
