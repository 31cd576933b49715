use Rattle.hr_wire.proofs.AnswerLemmas.{made_answer, read_answer}
use Rattle.hr_wire.proofs.laws.what_is_answered_is_read_back.Goals as goal

pub returns-clause-made : goal.returns-clause-made
returns-clause-made c = made_answer

pub returns-clause-read : goal.returns-clause-read
returns-clause-read c = read_answer
