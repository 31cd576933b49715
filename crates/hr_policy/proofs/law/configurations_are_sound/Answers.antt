use Rattle.hr_policy.proofs.SoundLemmas.{config-sound}
use Rattle.hr_policy.proofs.law.configurations_are_sound.Goals as goal

pub returns : goal.returns
returns c = config-sound
