use Rattle.std.proofs.Common.{arith}
use Rattle.hr_run.specs.State.{opening}
use Rattle.hr_run.proofs.MoveLemmas.{keep_cut, keep_does, keep_runs}
use Rattle.hr_run.proofs.ReadyLemmas.{Asked, asked_each, asked_of, ready_by}
use Rattle.hr_run.proofs.readiness.core_stays_ready.Goals as goal

pub returns-clause-opens : goal.returns-clause-opens
returns-clause-opens c lanes others plan jobs new planned sound some can =
    ready_by (opening lanes others plan jobs) (c.parts_keep.ensures.opens lanes others plan jobs new planned sound.lawful)
    (record { some_lane = some; planned = can; made = tt; within = omega arith })

pub returns-clause-does : goal.returns-clause-does
returns-clause-does c s t event answers ready before after does =
    ready_by t (c.parts_keep.ensures.all s t ready.holds (c.events_are_parts.ensures.does s t event answers ready.holds before after does))
    (keep_does Asked asked_each s t event answers does (asked_of s ready))

pub returns-clause-cut : goal.returns-clause-cut
returns-clause-cut c s t event ready before after cut =
    ready_by t (c.parts_keep.ensures.all s t ready.holds (c.events_are_parts.ensures.cut s t event ready.holds before after cut))
    (keep_cut Asked asked_each s t event cut (asked_of s ready))

pub returns-clause-runs : goal.returns-clause-runs
returns-clause-runs c s t events said ready before runs =
    ready_by t (c.parts_keep.ensures.all s t ready.holds (c.events_are_parts.ensures.runs s t events said ready.holds before runs))
    (keep_runs Asked asked_each s t events said runs (asked_of s ready))
