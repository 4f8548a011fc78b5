-- A tree as steps, each after the steps that it joins.
use Rattle.std.specs.Prelude.{List, [], ◌∷◌, ◌++◌}
use Rattle.index_find.specs.Tree.{Tree, Word, Not, Both, Either}
use Rattle.index_find.specs.declared.query.Step.{Step}
use Rattle.index_find.specs.declared.query.Step.TheVariants as step

abbrev pub postfix : Tree → List Step
postfix (Word w) = step.Word w ∷ []
postfix (Not t) = postfix t ++ step.Not ∷ []
postfix (Both x y) = postfix x ++ postfix y ++ step.Both ∷ []
postfix (Either x y) = postfix x ++ postfix y ++ step.Either ∷ []

-- what a step makes of the trees before it, of which the last stands first
abbrev pub stepped : Step → List Tree → List Tree
stepped (step.Word w) ts = Word w ∷ ts
stepped step.Not (t ∷ ts) = Not t ∷ ts
stepped step.Both (y ∷ x ∷ ts) = Both x y ∷ ts
stepped step.Either (y ∷ x ∷ ts) = Either x y ∷ ts
stepped s ts = ts

-- what the steps make of these trees
abbrev pub built : List Step → List Tree → List Tree
built [] ts = ts
built (s ∷ ss) ts = built ss (stepped s ts)

abbrev pub first_tree : List Tree → Tree
first_tree [] = Word []
first_tree (t ∷ ts) = t

-- the tree of steps
abbrev pub tree_of : List Step → Tree
tree_of ss = first_tree (built ss [])
