use Rattle.hr_line.proofs.RunLemmas.{destination_promise, runs_keep}
use Rattle.hr_line.proofs.laws.runs_keep_the_promise.Goals as goal

pub returns-clause-orderly : goal.returns-clause-orderly
returns-clause-orderly c calls s t opening sound runs = (runs_keep calls s t opening sound runs).orderly

pub returns-clause-kept : goal.returns-clause-kept
returns-clause-kept c calls s t reg o content opening sound runs dest =
    destination_promise s.dests t reg o content (runs_keep calls s t opening sound runs).kept dest

pub returns-clause-sourced : goal.returns-clause-sourced
returns-clause-sourced c calls s t opening sound runs = (runs_keep calls s t opening sound runs).sourced
