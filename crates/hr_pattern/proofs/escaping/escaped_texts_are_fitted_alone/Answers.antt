use Rattle.hr_pattern.proofs.EscapeLemmas.{escaped_sound, escaped_fits}
use Rattle.hr_pattern.proofs.escaping.escaped_texts_are_fitted_alone.Goals as goal

pub returns-clause-sound : goal.returns-clause-sound
returns-clause-sound c = escaped_sound

pub returns-clause-alone : goal.returns-clause-alone
returns-clause-alone c = escaped_fits
