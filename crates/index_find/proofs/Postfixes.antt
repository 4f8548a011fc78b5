-- A tree's steps give the tree back.
use Rattle.std.proofs.Common.{◌≡◌, List, [], ◌∷◌, ◌++◌, refl, ap, sym, ◌∙◌}
use Rattle.index_find.specs.Tree.{Tree, Word, Not, Both, Either}
use Rattle.index_find.specs.declared.query.Step.{Step}
use Rattle.index_find.specs.declared.query.Step.TheVariants as step
use Rattle.index_find.specs.Postfix.{postfix, built, stepped, first_tree, tree_of}

pub built-append : (xs ys : List Step) (ts : List Tree) → built (xs ++ ys) ts ≡ built ys (built xs ts)
built-append [] ys ts = refl
built-append (x ∷ xs) ys ts = built-append xs ys (stepped x ts)

pub built-postfix : (t : Tree) (ts : List Tree) → built (postfix t) ts ≡ t ∷ ts
built-postfix (Word w) ts = refl
built-postfix (Not t) ts = built-append (postfix t) (step.Not ∷ []) ts ∙ ap (built (step.Not ∷ [])) (built-postfix t ts)
built-postfix (Both x y) ts =
    built-append (postfix x ++ postfix y) (step.Both ∷ []) ts
    ∙ ap (built (step.Both ∷ [])) (built-append (postfix x) (postfix y) ts ∙ ap (built (postfix y)) (built-postfix x ts) ∙ built-postfix y (x ∷ ts))
built-postfix (Either x y) ts =
    built-append (postfix x ++ postfix y) (step.Either ∷ []) ts
    ∙ ap (built (step.Either ∷ [])) (built-append (postfix x) (postfix y) ts ∙ ap (built (postfix y)) (built-postfix x ts) ∙ built-postfix y (x ∷ ts))

pub tree_of-postfix : (t : Tree) → tree_of (postfix t) ≡ t
tree_of-postfix t = ap first_tree (built-postfix t [])

-- trees with the same steps are the same
pub postfix-injective : (x y : Tree) → postfix x ≡ postfix y → x ≡ y
postfix-injective x y e = sym (tree_of-postfix x) ∙ ap tree_of e ∙ tree_of-postfix y
