-- What a pool answers of jobs that give values.
use Rattle.std.proofs.Common.{◌≡◌, ℕ, List, [], ◌∷◌, map, refl}
use Rattle.job_pool.specs.declared.job.Work.TheVariants.{Value}

-- the values are those of the jobs
pub same_values : {J : Type 0} (value : J → ℕ) (jobs : List J) (values : List ℕ) → map (λ j. Value (value j)) jobs ≡ map (λ v. Value v) values → values ≡ map value jobs
same_values value [] [] e = refl
same_values value [] (v ∷ values) e = cc
same_values value (j ∷ jobs) [] e = cc
same_values value (j ∷ jobs) (v ∷ values) e =
    let tail : map (λ k. Value (value k)) jobs ≡ map (λ w. Value w) values = cc in
    let later = same_values value jobs values tail in
    let head : v ≡ value j = cc in
    cc
