use Rattle.std.proofs.Common.{subst}
use Rattle.job_pool.specs.declared.job.Work.TheVariants.{Value}
use Rattle.job_pool.specs.declared.pool_end.PoolEnd.{PoolEnd}
use Rattle.job_pool.specs.Jobs.{HasEnded}
use Rattle.example_checksums.specs.declared.block.Block.{Block}
use Rattle.example_checksums.specs.Checksums.{checksum_of}
use Rattle.example_checksums.proofs.Values.{same_values}
use Rattle.example_checksums.proofs.checksums.checksums.Goals as goal

pub returns-in-Done : goal.returns-in-Done
returns-in-Done g c =
    let Ended : PoolEnd → Type 0 = λ e. HasEnded (λ (b : Block). b.0.now) (λ b. Value (checksum_of b.0.now)) (λ b. b.0.now) c.args.blocks.items e c.run_jobs-end.result.1.items in
    let h = subst Ended c.in-Done.is c.run_jobs-end.ensures in
    same_values (λ (b : Block). checksum_of b.0.now) c.args.blocks.items c.in-Done.sums.items h.values_are
