use Rattle.std.proofs.Common.{ap, ◌∙◌}
use Rattle.serde_json.specs.Written.{has_float}
use Rattle.hr_rest.specs.Page.{page_of, rows_of}
use Rattle.hr_rest.proofs.ListingLemmas.{rows-float}
use Rattle.hr_rest.proofs.replying.tasks_reply.Goals as goal

pub list_reply-requires : goal.list_reply-requires
list_reply-requires c = ap has_float c.in_ok-list.ensures.list ∙ rows-float (page_of c.args.page c.args.size (rows_of c.args.exec.0 c.args.rows.now))
