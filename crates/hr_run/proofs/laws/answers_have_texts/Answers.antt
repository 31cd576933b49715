use Rattle.hr_run.proofs.TextLemmas.{does_text}
use Rattle.hr_run.proofs.laws.answers_have_texts.Goals as goal

pub returns : goal.returns
returns c = does_text c.steps_come_to_an_end.ensures.told
