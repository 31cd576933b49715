use Rattle.hr_run.proofs.AnswerLemmas.{answers_tell}
use Rattle.hr_run.proofs.laws.answers_tell_words.Goals as goal

pub returns : goal.returns
returns c s t event answers o sound does = answers_tell s t event answers (c.rows_tell_words.ensures s o) sound does
