use Rattle.std.proofs.Common.{reverse, ap, ◌∙◌}
use Rattle.serde_json.specs.Written.{has_float}
use Rattle.hr_rest.proofs.ListingLemmas.{execs-float}
use Rattle.hr_rest.proofs.replying.executions_reply.Goals as goal

pub list_reply-requires : goal.list_reply-requires
list_reply-requires c = ap has_float c.in_ok-list.ensures ∙ execs-float (reverse c.page_from_last.result.now)
