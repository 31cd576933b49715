use Rattle.std.proofs.Common.{◌≡◌, ◌∙◌, ap, subst, sym, ◌≤◌, ◌<◌, length}
use Rattle.std.proofs.lemmas.Option.{slice_get-get_or}
use Rattle.std.specs.Prelude.{Some, slice_get}
use Rattle.hr_board.specs.Plain.{view_of}
use Rattle.hr_run.specs.State.{CoreState}
use Rattle.hr_core.specs.Lanes.{CanTake}
use Rattle.hr_core.proofs.StateLemmas.{can_take, out_on_board}
use Rattle.hr_core.proofs.TurnLemmas.{admits_made, found_spec}
use Rattle.hr_core.proofs.engine.Core.admit.Goals as goal

pub look-mark-requires-clause-job : goal.look-mark-requires-clause-job
look-mark-requires-clause-job g c =
    let on = out_on_board c.args.self.now c.args.turn c.requires.can.ready c.requires.can.out in
    (on.job.first, subst (λ (p : CoreState). c.args.turn.job.0 ≤ (view_of p.board).jobs) (sym c.self.view_is) on.job.within)

pub admit_turn-requires-clause-can : goal.admit_turn-requires-clause-can
admit_turn-requires-clause-can g c =
    let within : 0 < length c.self.inside.lanes.items =
    subst (λ (p : CoreState). 1 ≤ length p.lanes) (sym c.self.view_is) c.requires.can.ready.some_lane in
    let there : slice_get c.self.inside.lanes.items 0 ≡ Some c.index_mut.result.now =
    slice_get-get_or c.self.inside.lanes.items 0 c.index_mut.result.now within ∙ ap Some (sym c.index_mut.ensures.value) in
    subst (λ (p : CoreState). CanTake c.index_mut.result.now (view_of p.board) c.args.turn c.in-Some.spec) (sym c.self.view_is)
    (can_take c.args.self.now c.args.turn c.in-Some.spec c.index_mut.result.now c.requires.can
    (found_spec c.args.self.now c.args.turn.job.0 _ c.in-Some.spec c.in_ok-spec.ensures c.in-Some.is)
    (subst (λ (p : CoreState). slice_get p.lanes 0 ≡ Some c.index_mut.result.now) c.self.view_is there))

pub returns-clause-ok : goal.returns-clause-ok
returns-clause-ok g c =
    let within : 0 < length c.self.inside.lanes.items =
    subst (λ (p : CoreState). 1 ≤ length p.lanes) (sym c.self.view_is) c.requires.can.ready.some_lane in
    let there : slice_get c.self.inside.lanes.items 0 ≡ Some c.index_mut.result.now =
    slice_get-get_or c.self.inside.lanes.items 0 c.index_mut.result.now within ∙ ap Some (sym c.index_mut.ensures.value) in
    admits_made _ c.args.self.now c.args.turn c.in-Some.spec c.index_mut.result.now c.admit_turn.new.lane c.admit_turn.new.board
    _ c.admit_turn.new.hooks.items c.admit_turn.result c.self.view_is c.in_ok-reserve.ensures.items
    (found_spec c.args.self.now c.args.turn.job.0 _ c.in-Some.spec c.in_ok-spec.ensures c.in-Some.is) there
    c.admit_turn.ensures.ok
