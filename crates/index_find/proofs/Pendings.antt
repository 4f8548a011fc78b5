-- What is pending, where its last is not this or that.
use Rattle.std.proofs.Common.{◌≡◌, ◌≢◌, List, [], ◌∷◌, refl}
use Rattle.index_find.specs.declared.query.Step.{Step}
use Rattle.index_find.specs.declared.tokens.Pending.{Pending}
use Rattle.index_find.specs.declared.tokens.Pending.TheVariants.{Not, Both, Either, Open}
use Rattle.index_find.specs.Taking.{Past, ended}

pub ended-plain : (ps : List Pending) (ss : List Step) → ((qs : List Pending) → ps ≢ Not ∷ qs) → ((qs : List Pending) → ps ≢ Both ∷ qs) → ended ps ss ≡ Past ps ss
ended-plain [] ss n b = refl
ended-plain (Not ∷ ps) ss n b = absurd (n ps refl)
ended-plain (Both ∷ ps) ss n b = absurd (b ps refl)
ended-plain (Either ∷ ps) ss n b = refl
ended-plain (Open ∷ ps) ss n b = refl
