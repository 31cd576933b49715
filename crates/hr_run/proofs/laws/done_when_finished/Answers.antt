use Rattle.hr_run.proofs.DoneLemmas.{OverLaws, all_done}
use Rattle.hr_run.proofs.laws.done_when_finished.Goals as goal

pub returns : goal.returns
returns c =
    let laws : OverLaws = record { idle = c.done_jobs_were_over.ensures.idle; over = c.what_was_over_is_over.ensures } in all_done laws
