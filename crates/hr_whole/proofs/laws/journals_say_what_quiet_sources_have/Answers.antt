use Rattle.hr_whole.proofs.RunLemmas.{runs_ran}
use Rattle.hr_whole.proofs.laws.journals_say_what_quiet_sources_have.Goals as goal

pub returns : goal.returns
returns c calls s t opening sound runs =
    (runs_ran (record {
      orderly_opens = c.lanes_stay_in_order.ensures.opens;
      orderly_admits = c.lanes_stay_in_order.ensures.admits;
      orderly_steps = c.lanes_stay_in_order.ensures.steps;
      kept_opens = c.destinations_keep_their_promise.ensures.opens;
      kept_admits = c.destinations_keep_their_promise.ensures.admits;
      kept_steps = c.destinations_keep_their_promise.ensures.steps;
      causes_opens = c.causes_stay_shown.ensures.opens;
      causes_admits = c.causes_stay_shown.ensures.admits;
      causes_steps = c.causes_stay_shown.ensures.steps;
    }) calls s t opening sound runs).went.said
