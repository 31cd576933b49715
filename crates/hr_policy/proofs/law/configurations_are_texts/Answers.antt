use Rattle.hr_policy.proofs.TextLemmas.{config-text}
use Rattle.hr_policy.proofs.law.configurations_are_texts.Goals as goal

pub returns : goal.returns
returns c = config-text
