use Rattle.std.proofs.Common.{arith}
use Rattle.hr_queue.proofs.FindLemmas.{none_other, none_past, row_is}
use Rattle.hr_queue.proofs.rows.row_of.Goals as goal

pub returns-then-at-len : goal.returns-then-at-len
returns-then-at-len c =
    none_past c.args.rows.now.items c.find-at.result c.args.job.0 c.find-at.ensures.is (grind arith)

pub returns-then-row-job : goal.returns-then-row-job
returns-then-row-job c = none_other c.args.rows.now.items c.find-at.result c.args.job.0
    c.index-row.result.now c.requires c.find-at.ensures.is c.index-row.ensures c.if-row-job.true

pub returns : goal.returns
returns c = row_is c.args.rows.now.items c.find-at.result c.args.job c.index-row.result.now
    (grind arith) c.index-row.ensures c.if-row-job.false
