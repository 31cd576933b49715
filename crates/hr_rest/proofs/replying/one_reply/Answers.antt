use Rattle.std.proofs.Common.{ap, ◌∙◌}
use Rattle.serde_json.specs.Written.{has_float}
use Rattle.hr_rest.proofs.ListingLemmas.{exec-float}
use Rattle.hr_rest.proofs.replying.one_reply.Goals as goal

pub text_of-requires : goal.text_of-requires
text_of-requires c = ap has_float c.in_ok-value.ensures ∙ exec-float c.in-Some.exec.now
