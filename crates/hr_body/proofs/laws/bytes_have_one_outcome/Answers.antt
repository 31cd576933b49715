use Rattle.hr_body.proofs.OutcomeLemmas.{one_fault, too_long}
use Rattle.hr_body.proofs.ReadingLemmas.{held_or_failed}
use Rattle.hr_body.proofs.laws.bytes_have_one_outcome.Goals as goal

pub returns-clause-held : goal.returns-clause-held
returns-clause-held c = λ bytes body rest left p at room limit why. held_or_failed bytes left body rest p at room limit why

pub returns-clause-too_long : goal.returns-clause-too_long
returns-clause-too_long c = too_long

pub returns-clause-one : goal.returns-clause-one
returns-clause-one c = one_fault
