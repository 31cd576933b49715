use Rattle.std.proofs.Common.{arith, ℕ, ◌+◌, ◌-◌, ◌/◌}
use Rattle.hr_store.specs.Execution.{last_job}
use Rattle.hr_store.proofs.ListLemmas.{get-back}
use Rattle.hr_store.proofs.OrderLemmas.{rising-last}
use Rattle.hr_store.proofs.RankLemmas.{all-not-lower, lower-to, not-lower-from, rank-from}
use Rattle.hr_store.proofs.places.find_job.Goals as goal

pub halves-init : goal.halves-init
halves-init c = (omega arith, omega arith, tt, all-not-lower last_job c.len-high.result c.args.job c.args.kept.now (omega arith))

pub halves-preserved-then-last_job-job : goal.halves-preserved-then-last_job-job
halves-preserved-then-last_job-job c =
    let middle : ℕ = c.halves.low + (c.halves.high - c.halves.low) / 2 in (
      omega arith,
      omega arith,
      lower-to last_job _ _ c.at.result.now _ (rising-last 0 0 c.args.kept.now c.requires) (omega arith) (get-back c.args.kept.now middle c.at.result.now c.at.ensures) (omega arith),
      c.halves.invariant.3,
    )

pub halves-preserved : goal.halves-preserved
halves-preserved c =
    let middle : ℕ = c.halves.low + (c.halves.high - c.halves.low) / 2 in (
      omega arith,
      omega arith,
      c.halves.invariant.2,
      not-lower-from last_job _ _ c.at.result.now _ (rising-last 0 0 c.args.kept.now c.requires) (omega arith) (get-back c.args.kept.now middle c.at.result.now c.at.ensures) (omega arith),
    )

pub returns : goal.returns
returns c = rank-from last_job _ c.halves.high _ _ c.halves.invariant.2 c.halves.invariant.3 (omega arith) (omega arith)
