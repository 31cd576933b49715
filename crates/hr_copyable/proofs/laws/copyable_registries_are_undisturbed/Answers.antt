use Rattle.hr_copyable.proofs.CopyableLemmas.{undisturbed}
use Rattle.hr_copyable.proofs.laws.copyable_registries_are_undisturbed.Goals as goal

pub returns : goal.returns
returns c = λ opens reg is. undisturbed opens reg is
