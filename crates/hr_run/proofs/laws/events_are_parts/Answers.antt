use Rattle.hr_run.proofs.FinishLemmas.{cut_parts, event_parts, runs_parts}
use Rattle.hr_run.proofs.KeepsLemmas.{OtherLaws}
use Rattle.hr_run.proofs.LaneLemmas.{LaneLaws}
use Rattle.hr_run.proofs.StepLemmas.{CallLaws}
use Rattle.hr_run.proofs.laws.events_are_parts.Goals as goal

pub returns-clause-does : goal.returns-clause-does
returns-clause-does c s t =
    let lanes : LaneLaws = record {
      admits = c.lanes_stay_in_order.ensures.admits;
      steps = c.lanes_stay_in_order.ensures.steps;
      others = c.lanes_stay_in_order.ensures.others;
      ends_admit = c.ends_are_what_the_journal_shows.ensures.admits;
      ends_step = c.ends_are_what_the_journal_shows.ensures.steps;
      hooks_admit = c.hooks_go_with_the_journal.ensures.admits;
      hooks_step = c.hooks_go_with_the_journal.ensures.steps;
    } in
    let laws : OtherLaws = record {
      calls = c.a_queue_agrees_with_its_board.ensures.calls;
      others = c.a_queue_agrees_with_its_board.ensures.others;
      reach = c.hooks_reach_one_row.ensures;
      put = c.a_taken_hook_is_put.ensures;
      among = λ hooks hook. (c.is_among_says_contains.ensures hooks hook).0;
    } in
    let calls : CallLaws = record {
      take = c.what_calls_gain.ensures.take;
      add = c.what_calls_gain.ensures.add;
      settle = c.what_calls_gain.ensures.settle;
      none = c.gains_add_up.ensures.none;
      goes = c.a_turn_taken_back_is_out_no_more.ensures;
      sweeps = c.sweep_drops_rows_that_are_over.ensures;
    } in
    event_parts lanes laws calls s t

pub returns-clause-cut : goal.returns-clause-cut
returns-clause-cut c s t =
    let lanes : LaneLaws = record {
      admits = c.lanes_stay_in_order.ensures.admits;
      steps = c.lanes_stay_in_order.ensures.steps;
      others = c.lanes_stay_in_order.ensures.others;
      ends_admit = c.ends_are_what_the_journal_shows.ensures.admits;
      ends_step = c.ends_are_what_the_journal_shows.ensures.steps;
      hooks_admit = c.hooks_go_with_the_journal.ensures.admits;
      hooks_step = c.hooks_go_with_the_journal.ensures.steps;
    } in
    let laws : OtherLaws = record {
      calls = c.a_queue_agrees_with_its_board.ensures.calls;
      others = c.a_queue_agrees_with_its_board.ensures.others;
      reach = c.hooks_reach_one_row.ensures;
      put = c.a_taken_hook_is_put.ensures;
      among = λ hooks hook. (c.is_among_says_contains.ensures hooks hook).0;
    } in
    let calls : CallLaws = record {
      take = c.what_calls_gain.ensures.take;
      add = c.what_calls_gain.ensures.add;
      settle = c.what_calls_gain.ensures.settle;
      none = c.gains_add_up.ensures.none;
      goes = c.a_turn_taken_back_is_out_no_more.ensures;
      sweeps = c.sweep_drops_rows_that_are_over.ensures;
    } in
    cut_parts lanes laws calls s t

pub returns-clause-runs : goal.returns-clause-runs
returns-clause-runs c s t =
    let lanes : LaneLaws = record {
      admits = c.lanes_stay_in_order.ensures.admits;
      steps = c.lanes_stay_in_order.ensures.steps;
      others = c.lanes_stay_in_order.ensures.others;
      ends_admit = c.ends_are_what_the_journal_shows.ensures.admits;
      ends_step = c.ends_are_what_the_journal_shows.ensures.steps;
      hooks_admit = c.hooks_go_with_the_journal.ensures.admits;
      hooks_step = c.hooks_go_with_the_journal.ensures.steps;
    } in
    let laws : OtherLaws = record {
      calls = c.a_queue_agrees_with_its_board.ensures.calls;
      others = c.a_queue_agrees_with_its_board.ensures.others;
      reach = c.hooks_reach_one_row.ensures;
      put = c.a_taken_hook_is_put.ensures;
      among = λ hooks hook. (c.is_among_says_contains.ensures hooks hook).0;
    } in
    let calls : CallLaws = record {
      take = c.what_calls_gain.ensures.take;
      add = c.what_calls_gain.ensures.add;
      settle = c.what_calls_gain.ensures.settle;
      none = c.gains_add_up.ensures.none;
      goes = c.a_turn_taken_back_is_out_no_more.ensures;
      sweeps = c.sweep_drops_rows_that_are_over.ensures;
    } in
    runs_parts lanes laws calls s t
