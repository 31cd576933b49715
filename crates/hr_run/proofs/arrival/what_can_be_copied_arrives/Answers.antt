use Rattle.std.proofs.Common.{◌≡◌, sym, subst, ◌∙◌, refl, inl}
use Rattle.std.specs.Prelude.{Some}
use Rattle.hr_line.specs.State.{State}
use Rattle.hr_promise.specs.Holds.{LaneRuns}
use Rattle.hr_promise.specs.Lane.{IsLaneSound}
use Rattle.hr_run.specs.Arrives.{LanesCanCopy}
use Rattle.hr_run.specs.Claims.{LanesHold}
use Rattle.hr_run.specs.State.{opening}
use Rattle.hr_run.proofs.ArriveLemmas.{arrived}
use Rattle.hr_run.proofs.EndedLemmas.{opens_finished, through_ended, through_parts}
use Rattle.hr_run.proofs.WellLemmas.{opens_well}
use Rattle.hr_run.proofs.ListLemmas.{all_at}
use Rattle.hr_run.proofs.PromiseLemmas.{opening_at}
use Rattle.hr_run.proofs.arrival.what_can_be_copied_arrives.Goals as goal

pub returns : goal.returns
returns c lanes others plan jobs events said t new tries sound can asks runs =
    let first = opening lanes others plan jobs in
    let opens = c.parts_keep.ensures.opens lanes others plan jobs new tries sound.lawful in
    let end = through_ended (λ s x e answers o before after does.
    c.parts_keep.ensures.all s x o (c.events_are_parts.ensures.does s x e answers o before after does))
    (LanesCanCopy lanes) can.specs can.each events first t said runs asks opens sound
    (opens_well (LanesCanCopy lanes) can.specs can.each first can.planned refl refl refl) (inl (opens_finished first refl refl)) in
    let parts = through_parts c.events_are_parts.ensures.does c.parts_keep.ensures.all events first t said runs opens sound in
    let keep : LanesHold lanes t.lanes = λ at lane now before after.
    (let ran = c.lanes_run.ensures.runs first t parts at lane before in
    let both : Some ran.0 ≡ Some now = sym ran.1 ∙ after in
    let same : ran.0 ≡ now = cc in
    let is = all_at IsLaneSound t.lanes at now (c.lanes_run.ensures.sound first t sound.lanes parts) after in
    c.lanes_keep_their_promise.ensures lane now (opening_at lanes at lane new before) is.sources
    (subst (λ (x : State). LaneRuns lane x) same ran.2)) in
    arrived lanes can.specs can.each t end (c.done_when_finished.ensures t end.holds end.finished)
    (c.each_end_has_one_hook.ensures t end.holds) keep
    (c.revisions_have_sources.ensures.count lanes others plan jobs events said t runs)
