use Rattle.std.proofs.Common.{arith, ◌-◌}
use Rattle.hr_store.proofs.ListLemmas.{get-back}
use Rattle.hr_store.proofs.PlaceLemmas.{place-between, place-past, stands}
use Rattle.hr_store.proofs.places.find_row.Goals as goal

pub returns-then-at-len : goal.returns-then-at-len
returns-then-at-len c = place-past 0 0 _ c.args.job c.args.kept.now c.requires c.find_job-at.ensures (omega arith)

pub returns-then-job-before : goal.returns-then-job-before
returns-then-job-before c =
    place-between 0 0 c.find_job-at.result c.args.job c.at.result.now c.args.kept.now c.requires c.find_job-at.ensures (omega arith)
    (get-back c.args.kept.now c.find_job-at.result c.at.result.now c.at.ensures) (omega arith)

pub returns : goal.returns
returns c =
    stands c.find_job-at.result c.args.job (c.args.job - c.before-before.result - 1) c.at.result.now c.args.kept.now c.requires c.find_job-at.ensures (omega arith)
    (get-back c.args.kept.now c.find_job-at.result c.at.result.now c.at.ensures) (omega arith) (omega (arith, c.before-before.ensures))
