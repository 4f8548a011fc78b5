-- What the pool made of the lines.
use Rattle.std.proofs.Common.{◌≡◌, ℕ, zero, suc, List, [], ◌∷◌, map, refl, ap, sym, ◌∙◌}
use mathlib.Core.Option.{some}
use lib.ListN.{get_elem?}
use Rattle.command_jobs.specs.declared.job_line.JobLine.{JobLine}
use Rattle.command_jobs.specs.declared.job_line.JobLine.TheVariants as line
use Rattle.job_pool.specs.declared.job.Work.TheVariants.{Value, Stop}
use Rattle.job_pool.specs.declared.pool_end.PoolEnd.{PoolEnd}
use Rattle.job_pool.specs.declared.pool_end.PoolEnd.TheVariants as pool
use Rattle.job_pool.specs.Jobs.{HasEnded}
use Rattle.command_jobs.specs.declared.job.LineJob.{LineJob}
use Rattle.command_jobs.specs.Values.{state_of, work_of}
use Rattle.command_jobs.specs.Jobs.{HaveRun, StopsAt, AreValues}

abbrev job_of : JobLine → LineJob
job_of l = record { 0 = l }

given_values : (lines : List JobLine) → map (λ (j : LineJob). work_of j.0) (map job_of lines) ≡ map work_of lines
given_values [] = refl
given_values (l ∷ lines) = ap (λ ws. work_of l ∷ ws) (given_values lines)

stop_at : (lines : List JobLine) (k : ℕ) (job : LineJob) → get_elem? (map job_of lines) k ≡ some job → work_of job.0 ≡ Stop → StopsAt lines k
stop_at [] k job e s = absurd (cc)
stop_at (line.Sum n ∷ lines) zero job e s =
    let same : job_of (line.Sum n) ≡ job = cc in
    let w : Value _ ≡ Stop = ap (λ (j : LineJob). work_of j.0) same ∙ s in
    absurd (cc)
stop_at (line.Stop ∷ lines) zero job e s = refl
stop_at (l ∷ lines) (suc k) job e s = stop_at lines k job e s

pub ran : (lines : List JobLine) (jobs back : List LineJob) (end : PoolEnd) → jobs ≡ map job_of lines
    → HasEnded (λ (j : LineJob). state_of j.0) (λ j. work_of j.0) (λ j. state_of j.0) jobs end back → HaveRun lines end
ran lines jobs back (pool.Done values) e h = sym (given_values lines) ∙ (ap (map (λ (j : LineJob). work_of j.0)) (sym e) ∙ h.values_are)
ran lines jobs back (pool.Stopped k) e h = stop_at lines k h.job (ap (λ js. get_elem? js k) (sym e) ∙ h.is_job) h.stops
ran lines jobs back pool.Memory e h = tt

-- where each line has a value none stops
pub no_stop : (lines : List JobLine) (values : List ℕ) (k : ℕ) → AreValues lines values → StopsAt lines k → ⊥
no_stop [] values k h s = cc
no_stop (l ∷ lines) [] k h s = cc
no_stop (line.Sum n ∷ lines) (v ∷ values) zero h s = cc
no_stop (line.Stop ∷ lines) (v ∷ values) zero h s = cc
no_stop (l ∷ lines) (v ∷ values) (suc k) h s = no_stop lines values k (let tail : map work_of lines ≡ map (λ x. Value x) values = cc in tail) s
