use Rattle.hr_run.proofs.CopiedLemmas.{copied}
use Rattle.hr_run.proofs.arrival.what_succeeded_was_copied.Goals as goal

pub returns : goal.returns
returns c s job row o execs there = copied s job row o (c.each_end_has_one_hook.ensures s o) execs there
