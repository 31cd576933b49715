use Rattle.std.proofs.Common.{ap, not, ◌∙◌}
use Rattle.hr_policy.proofs.FaultLemmas.{first_such-same}
use Rattle.hr_policy.proofs.fault.first_unknown.Goals as goal

pub returns : goal.returns
returns c = c.first_outside.ensures ∙ first_such-same _ _ (λ n. ap not (c.in_ok-set.ensures n)) c.args.numbers.now
