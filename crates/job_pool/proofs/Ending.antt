-- What is known of a pool at its end.
use Rattle.std.proofs.Common.{◌≡◌, ℕ, ◌+◌, ◌*◌, ◌/◌, ◌<◌, ◌≤◌, List, map, length, ◌∙◌, ap, subst, arith}
use Rattle.std.specs.List.{AllZip}
use Rattle.std.proofs.lemmas.List.{length-map}
use Rattle.std.proofs.Math.Nat.{lt-mul-div-succ, div-lt_iff_lt-mul, mul_comm}
use Rattle.thread_crew.proofs.Zips.{zip_length}
use Rattle.job_pool.specs.declared.batch.Batch.{Batch}
use Rattle.job_pool.specs.declared.job.Work.{Work}
use Rattle.job_pool.specs.declared.slot.Slot.{Slot}
use Rattle.job_pool.specs.Batches.{Comes}
use Rattle.job_pool.specs.Slots.{fresh, slots_of, MayBeCalled, MayBeWorked}
use Rattle.job_pool.proofs.Calling.{all_slots, all_on}

-- there are enough batches
pub enough_batches : (n size : ℕ) → 1 ≤ size → n ≤ (n / size + 1) * size
enough_batches n size some =
    let positive : 0 < size = omega arith in
    let h = lt-mul-div-succ n {b = size} positive in
    let turned : size * (n / size + 1) ≡ (n / size + 1) * size = mul_comm size (n / size + 1) in
    omega arith

-- and not too many
pub few_batches : (n size : ℕ) → 1 ≤ size → n < 4095 * size → n / size + 1 ≤ 4096
few_batches n size some low =
    let positive : 0 < size = omega arith in
    let h : n / size < 4095 = (div-lt_iff_lt-mul {k = size} {x = n} {y = 4095} positive).1 low in
    omega arith

module _ {J : Type 0} (state : J → List ℕ) (gives : J → Work) (next : J → List ℕ) where
  -- as many slots as jobs
  pub as_many_slots : (jobs : List J) (batches out : List (Batch J)) → slots_of batches ≡ map fresh jobs → AllZip (Comes (MayBeWorked state gives next)) batches out → length (slots_of out) ≡ length jobs
  as_many_slots jobs batches out are came =
      zip_length (MayBeCalled state gives next) (slots_of batches) (slots_of out) (all_slots state gives next batches out came) ∙ (ap length are ∙ length-map jobs fresh)

  -- by workers and then by the caller
  pub called_by_all : (jobs : List J) (batches out : List (Batch J)) (joined last : List (Slot J)) → slots_of batches ≡ map fresh jobs → AllZip (Comes (MayBeWorked state gives next)) batches out
      → joined ≡ slots_of out → AllZip (MayBeCalled state gives next) joined last → AllZip (MayBeCalled state gives next) (map fresh jobs) last
  called_by_all jobs batches out joined last are came is called =
      let first = subst (λ l. AllZip (MayBeCalled state gives next) l (slots_of out)) are (all_slots state gives next batches out came) in
      all_on state gives next (map fresh jobs) (slots_of out) last first (subst (λ l. AllZip (MayBeCalled state gives next) l last) is called)
