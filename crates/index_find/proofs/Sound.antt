-- Tokens that are taken, one by one, are those of a query's grammar.
use Rattle.std.proofs.Common.{◌≡◌, List, [], ◌∷◌, ◌++◌, refl, ap, sym, ◌∙◌, subst, append_assoc, Option, Some, None, Bool, true, false}
use Rattle.std.proofs.lemmas.List.{append-nil}
use Rattle.std.specs.Prelude.{codes, if◌then◌else◌, option_and_then}
use Rattle.std.specs.Str.{bytes_eq, str_to_ascii_lowercase}
use Rattle.std.specs.Cmp.Lexicographic.{bytes_decides}
use Rattle.index_find.specs.Tree.{Tree, Word, Not, Both, Either}
use Rattle.index_find.specs.declared.query.Step.{Step}
use Rattle.index_find.specs.declared.query.Step.TheVariants as step
use Rattle.index_find.specs.declared.tokens.Pending.{Pending}
use Rattle.index_find.specs.declared.tokens.Pending.TheVariants as pending
use Rattle.index_find.specs.declared.token.Kind.{Kind}
use Rattle.index_find.specs.declared.token.Kind.TheVariants as kind
use Rattle.index_find.specs.Grammar.{Token, is_word, Level, Term, Part, Whole, Spells, word, negated, grouped, one_term, both, one_part, either}
use Rattle.index_find.specs.Postfix.{postfix}
use Rattle.index_find.specs.Kinds.{kind_of}
use Rattle.index_find.specs.Taking.{State, Before, Past, ended, pending_joined, steps_joined, closed, alone, before_term, after_term, took, ran, finished}
use Rattle.index_find.proofs.Driven.{IsPartStart, IsWholeStart}

-- such tokens, after those of what is pending
pub record Stands (l : Level) (Under : List Token → List Step → Type 0) (xs : List Token) (ss : List Step) : Type 0 where
  pub ys : List Token
  pub zs : List Token
  pub us : List Step
  pub tree : Tree
  pub under : Under ys us
  pub spells : Spells l zs tree
  pub tokens : xs ≡ ys ++ zs
  pub steps : ss ≡ us ++ postfix tree

-- such tokens and then this one
pub record Joins (l : Level) (mark : Token) (Under : List Token → List Step → Type 0) (xs : List Token) (ss : List Step) : Type 0 where
  pub prefix : List Token
  pub stands : Stands l Under prefix ss
  pub tokens : xs ≡ prefix ++ mark ∷ []

-- the tokens before a term, and their steps, by what is pending
abbrev pub Under : List Pending → List Token → List Step → Type 0
Under [] xs ss = (xs ≡ []) × (ss ≡ [])
Under (pending.Open ∷ ps) xs ss = (ys : List Token) × Under ps ys ss × (xs ≡ ys ++ codes "(" ∷ [])
Under (pending.Not ∷ ps) xs ss = (ys : List Token) × Under ps ys ss × (xs ≡ ys ++ codes "!" ∷ [])
Under (pending.Both ∷ ps) xs ss = IsPartStart ps × Joins Part (codes "&") (Under ps) xs ss
Under (pending.Either ∷ ps) xs ss = IsWholeStart ps × Joins Whole (codes "|") (Under ps) xs ss

abbrev pub Reached : State → List Token → Type 0
Reached (Before ps ss) xs = Under ps xs ss
Reached (Past ps ss) xs = IsPartStart ps × Stands Part (Under ps) xs ss

abbrev pub ReachedWhole : List Pending → List Step → List Token → Type 0
ReachedWhole ps ss xs = IsWholeStart ps × Stands Whole (Under ps) xs ss

middle : {X : Type 0} (a b c d : List X) → a ++ b ++ c ++ d ≡ a ++ (b ++ (c ++ d))
middle a b c d = simp append_assoc

regrouped : {X : Type 0} (a b c d : List X) → a ++ b ++ c ++ d ≡ a ++ (b ++ c ++ d)
regrouped a b c d = simp append_assoc

-- terms with a mark between them
two_tokens : (xs ys zs ws rest prefix : List Token) (mark : Token) → xs ≡ prefix ++ mark ∷ [] → prefix ≡ ys ++ zs → ws ≡ xs ++ rest → ws ≡ ys ++ (zs ++ mark ∷ rest)
two_tokens xs ys zs ws rest prefix mark e f g = g ∙ ap (λ (x : List Token). x ++ rest) (e ∙ ap (λ (x : List Token). x ++ mark ∷ []) f) ∙ middle ys zs (mark ∷ []) rest

two_steps : (ss us vs : List Step) (x y : Tree) (s : Step) → ss ≡ us ++ postfix y → us ≡ vs ++ postfix x → ss ++ s ∷ [] ≡ vs ++ (postfix x ++ postfix y ++ s ∷ [])
two_steps ss us vs x y s e f =
    ap (λ (z : List Step). z ++ s ∷ []) (e ∙ ap (λ (z : List Step). z ++ postfix y) f) ∙ regrouped vs (postfix x) (postfix y) (s ∷ [])

standing : (ps : List Pending) (ys zs : List Token) (us : List Step) (t : Tree) → Under ps ys us → Spells Term zs t → Stands Part (Under ps) (ys ++ zs) (us ++ postfix t)
standing ps ys zs us t u h = record { ys = ys; zs = zs; us = us; tree = t; under = u; spells = one_term zs t h; tokens = refl; steps = refl }

ends : (ps : List Pending) (ys zs : List Token) (us : List Step) (t : Tree) → Under ps ys us → Spells Term zs t → Reached (ended ps (us ++ postfix t)) (ys ++ zs)
ends [] ys zs us t u h = (tt, standing [] ys zs us t u h)
ends (pending.Open ∷ ps) ys zs us t u h = (tt, standing (pending.Open ∷ ps) ys zs us t u h)
ends (pending.Either ∷ ps) ys zs us t u h = (tt, standing (pending.Either ∷ ps) ys zs us t u h)
ends (pending.Not ∷ ps) ys zs us t u h =
    let ih = ends ps u.0 (codes "!" ∷ zs) us (Not t) u.1 (negated zs t h) in
    let moved = subst (λ (x : List Step). Reached (ended ps x) (u.0 ++ codes "!" ∷ zs)) (sym (append_assoc us (postfix t) (step.Not ∷ []))) ih in
    subst (λ (x : List Token). Reached (ended ps (us ++ postfix t ++ step.Not ∷ [])) x) (sym (ap (λ (x : List Token). x ++ zs) u.2 ∙ append_assoc u.0 (codes "!" ∷ []) zs)) moved
ends (pending.Both ∷ ps) ys zs us t u h =
    let j = u.1 in
    let s = j.stands in (
      u.0,
      record {
        ys = s.ys;
        zs = s.zs ++ codes "&" ∷ zs;
        us = s.us;
        tree = Both s.tree t;
        under = s.under;
        spells = both s.zs zs s.tree t s.spells h;
        tokens = two_tokens ys s.ys s.zs (ys ++ zs) zs j.prefix (codes "&") j.tokens s.tokens refl;
        steps = two_steps (us ++ postfix t) us s.us s.tree t step.Both refl s.steps;
      },
    )

whole : (ps : List Pending) (xs : List Token) (ss : List Step) → Stands Part (Under ps) xs ss → Stands Whole (Under ps) xs ss
whole ps xs ss r = record { ys = r.ys; zs = r.zs; us = r.us; tree = r.tree; under = r.under; spells = one_part r.zs r.tree r.spells; tokens = r.tokens; steps = r.steps }

joins : (ps : List Pending) (ss : List Step) (xs : List Token) → Reached (Past ps ss) xs → ReachedWhole (pending_joined ps) (steps_joined ps ss) xs
joins [] ss xs r = (tt, whole [] xs ss r.1)
joins (pending.Open ∷ ps) ss xs r = (tt, whole (pending.Open ∷ ps) xs ss r.1)
joins (pending.Not ∷ ps) ss xs r = absurd r.0
joins (pending.Both ∷ ps) ss xs r = absurd r.0
joins (pending.Either ∷ ps) ss xs r =
    let p = r.1 in
    let j = p.under.1 in
    let s = j.stands in (
      p.under.0,
      record {
        ys = s.ys;
        zs = s.zs ++ codes "|" ∷ p.zs;
        us = s.us;
        tree = Either s.tree p.tree;
        under = s.under;
        spells = either s.zs p.zs s.tree p.tree s.spells p.spells;
        tokens = two_tokens p.ys s.ys s.zs xs p.zs j.prefix (codes "|") j.tokens s.tokens p.tokens;
        steps = two_steps ss p.us s.us s.tree p.tree step.Either p.steps s.steps;
      },
    )

-- what each kind of token is
abbrev Kinded : Kind → Token → Type 0
Kinded kind.Word w = is_word w ≡ true
Kinded kind.Not w = w ≡ codes "!"
Kinded kind.Both w = w ≡ codes "&"
Kinded kind.Either w = w ≡ codes "|"
Kinded kind.Open w = w ≡ codes "("
Kinded kind.Close w = w ≡ codes ")"
Kinded kind.Other w = Unit {0}

choice : (b : Bool) (w : Token) (k l : Kind) → (b ≡ true → Kinded k w) → Kinded l w → Kinded (if b then k else l) w
choice true w k l h g = h refl
choice false w k l h g = g

same_text : (w t : Token) → bytes_eq w t ≡ true → w ≡ t
same_text w t e = (bytes_decides w t).0 e

kinded : (w : Token) → Kinded (kind_of w) w
kinded w =
    choice (is_word w) w kind.Word _ (λ e. e)
    (choice (bytes_eq w (codes "!")) w kind.Not _ (same_text w (codes "!"))
    (choice (bytes_eq w (codes "&")) w kind.Both _ (same_text w (codes "&"))
    (choice (bytes_eq w (codes "|")) w kind.Either _ (same_text w (codes "|"))
    (choice (bytes_eq w (codes "(")) w kind.Open _ (same_text w (codes "("))
    (choice (bytes_eq w (codes ")")) w kind.Close _ (same_text w (codes ")")) tt)))))

some_same : {X : Type 0} {x y : X} → Some x ≡ Some y → x ≡ y
some_same e = cc

none_some : {X : Type 0} {x : X} → None ≡ Some x → ⊥
none_some e = cc

at_state : (s t : State) (xs : List Token) → Some s ≡ Some t → Reached s xs → Reached t xs
at_state s t xs e r = subst (λ (x : State). Reached x xs) (some_same e) r

takes-before : (k : Kind) (w : Token) (ps : List Pending) (ss : List Step) (xs : List Token) (s : State) → Kinded k w → Under ps xs ss → before_term k w ps ss ≡ Some s → Reached s (xs ++ w ∷ [])
takes-before kind.Word w ps ss xs s k u e = at_state _ s (xs ++ w ∷ []) e (ends ps xs (w ∷ []) ss (Word (str_to_ascii_lowercase w)) u (word w k))
takes-before kind.Not w ps ss xs s k u e = at_state (Before (pending.Not ∷ ps) ss) s (xs ++ w ∷ []) e (xs, u, ap (λ (t : Token). xs ++ t ∷ []) k)
takes-before kind.Open w ps ss xs s k u e = at_state (Before (pending.Open ∷ ps) ss) s (xs ++ w ∷ []) e (xs, u, ap (λ (t : Token). xs ++ t ∷ []) k)
takes-before _ w ps ss xs s k u e = absurd (none_some e)

closing : (ps : List Pending) (ss : List Step) (xs : List Token) (w : Token) (s : State) → w ≡ codes ")" → ReachedWhole ps ss xs → closed ps ss ≡ Some s → Reached s (xs ++ w ∷ [])
closing [] ss xs w s k r e = absurd (none_some e)
closing (pending.Not ∷ ps) ss xs w s k r e = absurd (none_some e)
closing (pending.Both ∷ ps) ss xs w s k r e = absurd (none_some e)
closing (pending.Either ∷ ps) ss xs w s k r e = absurd (none_some e)
closing (pending.Open ∷ ps) ss xs w s k r e =
    let p = r.1 in
    let u = p.under in
    let ih = ends ps u.0 (codes "(" ∷ p.zs ++ codes ")" ∷ []) p.us p.tree u.1 (grouped p.zs p.tree p.spells) in
    let moved = subst (λ (x : List Step). Reached (ended ps x) (u.0 ++ (codes "(" ∷ p.zs ++ codes ")" ∷ []))) (sym p.steps) ih in
    let tokens : xs ++ w ∷ [] ≡ u.0 ++ (codes "(" ∷ p.zs ++ codes ")" ∷ []) =
    ap (λ (t : Token). xs ++ t ∷ []) k ∙ ap (λ (x : List Token). x ++ codes ")" ∷ []) (p.tokens ∙ ap (λ (x : List Token). x ++ p.zs) u.2) ∙ middle u.0 (codes "(" ∷ []) p.zs (codes ")" ∷ []) in
    at_state _ s (xs ++ w ∷ []) e (subst (λ (x : List Token). Reached (ended ps ss) x) (sym tokens) moved)

joining : (l : Level) (mark w : Token) (ps : List Pending) (ss : List Step) (xs : List Token) → w ≡ mark → Stands l (Under ps) xs ss → Joins l mark (Under ps) (xs ++ w ∷ []) ss
joining l mark w ps ss xs k r = record { prefix = xs; stands = r; tokens = ap (λ (t : Token). xs ++ t ∷ []) k }

takes-following : (k : Kind) (w : Token) (ps : List Pending) (ss : List Step) (xs : List Token) (s : State) → Kinded k w → Reached (Past ps ss) xs → after_term k ps ss ≡ Some s → Reached s (xs ++ w ∷ [])
takes-following kind.Both w ps ss xs s k r e = at_state (Before (pending.Both ∷ ps) ss) s (xs ++ w ∷ []) e (r.0, joining Part (codes "&") w ps ss xs k r.1)
takes-following kind.Either w ps ss xs s k r e =
    let q = joins ps ss xs r in
    at_state (Before (pending.Either ∷ pending_joined ps) (steps_joined ps ss)) s (xs ++ w ∷ []) e (q.0, joining Whole (codes "|") w (pending_joined ps) (steps_joined ps ss) xs k q.1)
takes-following kind.Close w ps ss xs s k r e = closing (pending_joined ps) (steps_joined ps ss) xs w s k (joins ps ss xs r) e
takes-following _ w ps ss xs s k r e = absurd (none_some e)

taking : (s : State) (w : Token) (xs : List Token) (t : State) → Reached s xs → took s w ≡ Some t → Reached t (xs ++ w ∷ [])
taking (Before ps ss) w xs t r e = takes-before (kind_of w) w ps ss xs t (kinded w) r e
taking (Past ps ss) w xs t r e = takes-following (kind_of w) w ps ss xs t (kinded w) r e

-- what a state and a list of tokens lead to
next : (o : Option State) (ws : List Token) (t : State) → option_and_then (λ (s : State). ran s ws) o ≡ Some t → (s : State) × (o ≡ Some s) × (ran s ws ≡ Some t)
next None ws t e = absurd (none_some e)
next (Some s) ws t e = (s, refl, e)

running : (ws : List Token) (s t : State) (xs : List Token) → Reached s xs → ran s ws ≡ Some t → Reached t (xs ++ ws)
running [] s t xs r e = subst (λ (x : List Token). Reached t x) (sym (append-nil xs)) (at_state s t xs e r)
running (w ∷ ws) s t xs r e =
    let n = next (took s w) ws t e in
    subst (λ (x : List Token). Reached t x) (append_assoc xs (w ∷ []) ws) (running ws n.0 t (xs ++ w ∷ []) (taking s w xs n.0 r n.1) n.2)

-- the tree that was spelt
pub record Spelt (ts : List Token) (ss : List Step) : Type 0 where
  pub tree : Tree
  pub spells : Spells Whole ts tree
  pub steps : ss ≡ postfix tree

last_alone : (ps : List Pending) (us ss : List Step) (xs : List Token) → ReachedWhole ps us xs → alone ps us ≡ Some ss → Spelt xs ss
last_alone (p ∷ ps) us ss xs r e = absurd (none_some e)
last_alone [] us ss xs r e =
    let p = r.1 in
    record {
      tree = p.tree;
      spells = subst (λ (x : List Token). Spells Whole x p.tree) (sym (p.tokens ∙ ap (λ (x : List Token). x ++ p.zs) p.under.0)) p.spells;
      steps = sym (some_same e) ∙ p.steps ∙ ap (λ (x : List Step). x ++ postfix p.tree) p.under.1;
    }

last_finished : (s : State) (ss : List Step) (xs : List Token) → Reached s xs → finished s ≡ Some ss → Spelt xs ss
last_finished (Before ps us) ss xs r e = absurd (none_some e)
last_finished (Past ps us) ss xs r e = last_alone (pending_joined ps) (steps_joined ps us) ss xs (joins ps us xs r) e

pub spelt : (ts : List Token) (s : State) (ss : List Step) → ran (Before [] []) ts ≡ Some s → finished s ≡ Some ss → Spelt ts ss
spelt ts s ss e f = last_finished s ss ts (running ts (Before [] []) s [] (refl, refl) e) f
