use Rattle.std.proofs.Common.{◌≡◌, sym, subst, ◌∙◌}
use Rattle.std.specs.Prelude.{Some}
use Rattle.hr_line.specs.State.{State}
use Rattle.hr_promise.specs.Holds.{LaneRuns}
use Rattle.hr_promise.specs.Lane.{IsLaneSound}
use Rattle.hr_run.specs.State.{opening}
use Rattle.hr_run.proofs.ListLemmas.{all_at}
use Rattle.hr_run.proofs.PromiseLemmas.{opening_at}
use Rattle.hr_run.proofs.laws.the_core_holds.Goals as goal

pub returns-clause-state : goal.returns-clause-state
returns-clause-state c lanes others plan jobs events said t new planned sound runs =
    let first = opening lanes others plan jobs in
    let opens = c.parts_keep.ensures.opens lanes others plan jobs new planned sound.lawful in
    c.parts_keep.ensures.all first t opens (c.events_are_parts.ensures.runs first t events said opens sound runs)

pub returns-clause-lanes : goal.returns-clause-lanes
returns-clause-lanes c lanes others plan jobs events said t new planned sound runs at lane now before after =
    let first = opening lanes others plan jobs in
    let opens = c.parts_keep.ensures.opens lanes others plan jobs new planned sound.lawful in
    let parts = c.events_are_parts.ensures.runs first t events said opens sound runs in
    let ran = c.lanes_run.ensures.runs first t parts at lane before in
    let both : Some ran.0 ≡ Some now = sym ran.1 ∙ after in
    let same : ran.0 ≡ now = cc in
    let is = all_at IsLaneSound t.lanes at now (c.lanes_run.ensures.sound first t sound.lanes parts) after in
    c.lanes_keep_their_promise.ensures lane now (opening_at lanes at lane new before) is.sources
    (subst (λ (x : State). LaneRuns lane x) same ran.2)
