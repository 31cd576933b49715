use Rattle.std.proofs.Common.{◌≡◌, ◌∙◌, ap, subst, sym, ◌≤◌}
use Rattle.std.specs.Prelude.{Some, IsSome, slice_get}
use Rattle.hr_board.specs.Plain.{view_of}
use Rattle.hr_line.specs.State.{State, held_at}
use Rattle.hr_run.specs.State.{CoreState}
use Rattle.hr_core.proofs.StateLemmas.{held_on_board}
use Rattle.hr_core.proofs.TurnLemmas.{at_is, did_told, steps_made}
use Rattle.hr_core.proofs.engine.Core.step_at.Goals as goal

pub step_job-requires-clause-job : goal.step_job-requires-clause-job
step_job-requires-clause-job g c =
    subst (λ (p : CoreState). c.args.job.0 ≤ (view_of p.board).jobs) (sym c.self.view_is)
    (held_on_board c.args.self.now c.args.job c.args.at c.requires.ready c.requires.holds)

pub returns-clause-ok : goal.returns-clause-ok
returns-clause-ok g c =
    let was : slice_get c.self.inside.lanes.items c.args.at ≡ Some c.requires.holds.lane =
    subst (λ (p : CoreState). slice_get p.lanes c.args.at ≡ Some c.requires.holds.lane) (sym c.self.view_is) c.requires.holds.there in
    let is : c.index_mut.result.now ≡ c.requires.holds.lane =
    c.index_mut.ensures.value ∙ at_is c.self.inside.lanes.items c.args.at c.requires.holds.lane _ was in
    steps_made _ c.args.self.now c.args.at c.args.job c.index_mut.result.now c.step_job.new.lane c.step_job.new.board _
    c.step_job.new.hooks.items c.step_job.result c.self.view_is c.in_ok-reserve.ensures.items (was ∙ ap Some (sym is))
    (subst (λ (l : State). IsSome (held_at l.held c.args.job.0)) (sym is) c.requires.holds.holds) c.step_job.ensures.steps
    c.step_job.ensures.emits
    (did_told c.steps_come_to_an_end.ensures.told c.index_mut.result.now c.step_job.new.lane c.args.job _ _ c.step_job.result
    c.step_job.ensures.steps)
