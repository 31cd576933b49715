use Rattle.hr_lane.proofs.blob.take_copy.Goals as goal

pub returns-in-Err-clause-line : goal.returns-in-Err-clause-line
returns-in-Err-clause-line c = rw c.in-Err.is (c.not_copied.ensures.line c.args.work)
