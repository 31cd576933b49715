use Rattle.std.proofs.Common.{◌≡◌, ◌∙◌, subst, sym}
use Rattle.std.specs.Prelude.{Some, slice_get}
use Rattle.hr_run.specs.State.{CoreState}
use Rattle.hr_core.proofs.RoundLemmas.{least_cut}
use Rattle.hr_core.proofs.engine.Core.end_least.Goals as goal

pub returns-clause-err : goal.returns-clause-err
returns-clause-err g c =
    least_cut c.args.self.now c.end_turn.new.self c.in-Some.turn c.end_turn.result
    (subst (λ (p : CoreState). slice_get p.turns.out 0 ≡ Some c.in-Some.turn) c.self.view_is (sym c.adopt.ensures ∙ c.in-Some.is))
    c.end_turn.ensures.err
