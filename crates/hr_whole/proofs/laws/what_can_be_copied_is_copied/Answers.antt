use Rattle.std.proofs.Common.{◌∙◌, ap}
use Rattle.std.specs.Prelude.{Option}
use Rattle.hr_event.specs.declared.cause.Cause.{Cause}
use Rattle.hr_event.specs.declared.entry.What.TheVariants.{Ended}
use Rattle.hr_whole.proofs.CopiedLemmas.{copied, ends_well, unfailing}
use Rattle.hr_whole.proofs.RunLemmas.{runs_ran}
use Rattle.hr_whole.proofs.TextLemmas.{no_two}
use Rattle.hr_whole.proofs.laws.what_can_be_copied_is_copied.Goals as goal

pub returns-clause-causes : goal.returns-clause-causes
returns-clause-causes c calls s t e a content o status why opening sound runs can none texts within at says =
    copied s t e a content o status why (runs_ran (record {
      orderly_opens = c.lanes_stay_in_order.ensures.opens;
      orderly_admits = c.lanes_stay_in_order.ensures.admits;
      orderly_steps = c.lanes_stay_in_order.ensures.steps;
      kept_opens = c.destinations_keep_their_promise.ensures.opens;
      kept_admits = c.destinations_keep_their_promise.ensures.admits;
      kept_steps = c.destinations_keep_their_promise.ensures.steps;
      causes_opens = c.causes_stay_shown.ensures.opens;
      causes_admits = c.causes_stay_shown.ensures.admits;
      causes_steps = c.causes_stay_shown.ensures.steps;
    }) calls s t opening sound runs)
    (c.runs_keep_the_promise.ensures.sourced calls s t opening sound runs) can none texts within at says
    (c.causes_stay_shown.ensures.runs calls s t e a status why opening sound runs within at says)

pub returns-clause-ends : goal.returns-clause-ends
returns-clause-ends c calls s t e a content o status found opening sound runs can none texts within at says =
    ends_well a t.log status found
    (c.ends_are_what_the_journal_shows.ensures.runs calls s t e a status found opening runs within at says)
    (λ why is.
    let ended = says ∙ ap (λ (x : Option Cause). Ended status x) is in
    copied s t e a content o status why (runs_ran (record {
      orderly_opens = c.lanes_stay_in_order.ensures.opens;
      orderly_admits = c.lanes_stay_in_order.ensures.admits;
      orderly_steps = c.lanes_stay_in_order.ensures.steps;
      kept_opens = c.destinations_keep_their_promise.ensures.opens;
      kept_admits = c.destinations_keep_their_promise.ensures.admits;
      kept_steps = c.destinations_keep_their_promise.ensures.steps;
      causes_opens = c.causes_stay_shown.ensures.opens;
      causes_admits = c.causes_stay_shown.ensures.admits;
      causes_steps = c.causes_stay_shown.ensures.steps;
    }) calls s t opening sound runs)
    (c.runs_keep_the_promise.ensures.sourced calls s t opening sound runs) can none texts within at ended
    (c.causes_stay_shown.ensures.runs calls s t e a status why opening sound runs within at ended))

pub returns-clause-opened : goal.returns-clause-opened
returns-clause-opened c calls s t e a content o status found opening sound runs can both one have within at says =
    let ran = runs_ran (record {
      orderly_opens = c.lanes_stay_in_order.ensures.opens;
      orderly_admits = c.lanes_stay_in_order.ensures.admits;
      orderly_steps = c.lanes_stay_in_order.ensures.steps;
      kept_opens = c.destinations_keep_their_promise.ensures.opens;
      kept_admits = c.destinations_keep_their_promise.ensures.admits;
      kept_steps = c.destinations_keep_their_promise.ensures.steps;
      causes_opens = c.causes_stay_shown.ensures.opens;
      causes_admits = c.causes_stay_shown.ensures.admits;
      causes_steps = c.causes_stay_shown.ensures.steps;
    }) calls s t opening sound runs in
    returns-clause-ends c calls s t e a content o status found opening sound runs can (unfailing s t a ran both) (no_two s t o ran one have a)
    within at says
