use Rattle.hr_run.proofs.KeepsLemmas.{OtherLaws, keeps_part, keeps_parts}
use Rattle.hr_run.proofs.LaneLemmas.{LaneLaws}
use Rattle.hr_run.proofs.OpeningLemmas.{opens}
use Rattle.hr_run.proofs.laws.parts_keep.Goals as goal

pub returns-clause-opens : goal.returns-clause-opens
returns-clause-opens c lanes others plan jobs new planned lawful =
    opens c.lanes_stay_in_order.ensures.opens c.ends_are_what_the_journal_shows.ensures.opens c.hooks_go_with_the_journal.ensures.opens
    c.a_queue_agrees_with_its_board.ensures.new lanes others plan jobs new planned lawful

pub returns-clause-one : goal.returns-clause-one
returns-clause-one c s t =
    let lanes : LaneLaws = record {
      admits = c.lanes_stay_in_order.ensures.admits;
      steps = c.lanes_stay_in_order.ensures.steps;
      others = c.lanes_stay_in_order.ensures.others;
      ends_admit = c.ends_are_what_the_journal_shows.ensures.admits;
      ends_step = c.ends_are_what_the_journal_shows.ensures.steps;
      hooks_admit = c.hooks_go_with_the_journal.ensures.admits;
      hooks_step = c.hooks_go_with_the_journal.ensures.steps;
    } in
    let laws : OtherLaws = record {
      calls = c.a_queue_agrees_with_its_board.ensures.calls;
      others = c.a_queue_agrees_with_its_board.ensures.others;
      reach = c.hooks_reach_one_row.ensures;
      put = c.a_taken_hook_is_put.ensures;
      among = λ hooks hook. (c.is_among_says_contains.ensures hooks hook).0;
    } in
    keeps_part lanes laws s t

pub returns-clause-all : goal.returns-clause-all
returns-clause-all c s t =
    let lanes : LaneLaws = record {
      admits = c.lanes_stay_in_order.ensures.admits;
      steps = c.lanes_stay_in_order.ensures.steps;
      others = c.lanes_stay_in_order.ensures.others;
      ends_admit = c.ends_are_what_the_journal_shows.ensures.admits;
      ends_step = c.ends_are_what_the_journal_shows.ensures.steps;
      hooks_admit = c.hooks_go_with_the_journal.ensures.admits;
      hooks_step = c.hooks_go_with_the_journal.ensures.steps;
    } in
    let laws : OtherLaws = record {
      calls = c.a_queue_agrees_with_its_board.ensures.calls;
      others = c.a_queue_agrees_with_its_board.ensures.others;
      reach = c.hooks_reach_one_row.ensures;
      put = c.a_taken_hook_is_put.ensures;
      among = λ hooks hook. (c.is_among_says_contains.ensures hooks hook).0;
    } in
    keeps_parts lanes laws s t
