use Rattle.hr_run.proofs.TellLemmas.{rows_tell}
use Rattle.hr_run.proofs.laws.rows_tell_words.Goals as goal

pub returns : goal.returns
returns c s o = rows_tell c.row_ends_its_job.ensures.over s o
