use Rattle.std.proofs.Common.{◌∙◌}
use Rattle.hr_policy.proofs.FaultLemmas.{first_such-same}
use Rattle.hr_policy.proofs.fault.first_known.Goals as goal

pub returns : goal.returns
returns c = c.first_in.ensures ∙ first_such-same _ _ c.in_ok-set.ensures c.args.numbers.now
