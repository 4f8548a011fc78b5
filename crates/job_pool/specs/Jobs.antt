-- What a pool makes of its jobs.
use Rattle.std.specs.Prelude.{◌≡◌, ◌⊎◌, ℕ, List, map}
use Rattle.std.specs.List.{AllZip}
use mathlib.Core.Option.{some}
use lib.ListN.{get_elem?}
use Rattle.job_pool.specs.declared.job.Work.{Work}
use Rattle.job_pool.specs.declared.job.Work.TheVariants.{Value, Stop}
use Rattle.job_pool.specs.declared.pool_end.PoolEnd.{PoolEnd}
use Rattle.job_pool.specs.declared.pool_end.PoolEnd.TheVariants.{Done, Stopped, Memory}

module _ {J : Type 0} (state : J → List ℕ) (gives : J → Work) (next : J → List ℕ) where
  -- each job gives the value in its place, so none gives Stop, and comes back as it is after one
  -- call
  pub record AreDone (given : List J) (values : List ℕ) (back : List J) : Type 0 where
    pub values_are : map gives given ≡ map (λ v. Value v) values
    pub each_next : map state back ≡ map next given

  -- as it was given, or as it is after one call
  abbrev pub MayBeNext : J → J → Type 0
  MayBeNext given back = (state back ≡ state given) ⊎ (state back ≡ next given)

  -- the job at the place k gives Stop and comes back as it is after one call, and each job comes
  -- back as it was given or as it is after one call
  pub record AreStopped (k : ℕ) (given back : List J) : Type 0 where
    pub job : J
    pub is_job : get_elem? given k ≡ some job
    pub stops : gives job ≡ Stop
    pub after : J
    pub is_after : get_elem? back k ≡ some after
    pub is_next : state after ≡ next job
    pub each : AllZip MayBeNext given back

  -- these jobs come back, each in its place, with this end of the pool
  abbrev pub HasEnded : List J → PoolEnd → List J → Type 0
  HasEnded given (Done values) back = AreDone given values.items back
  HasEnded given (Stopped k) back = AreStopped k given back
  HasEnded given Memory back = back ≡ given
