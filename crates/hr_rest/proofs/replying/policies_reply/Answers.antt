use Rattle.std.proofs.Common.{ap, ◌∙◌}
use Rattle.serde_json.specs.Written.{has_float}
use Rattle.hr_rest.proofs.ListingLemmas.{policies-float}
use Rattle.hr_rest.proofs.replying.policies_reply.Goals as goal

pub list_reply-requires : goal.list_reply-requires
list_reply-requires c = ap has_float c.in_ok-list.ensures ∙ policies-float c.args.policies.now
