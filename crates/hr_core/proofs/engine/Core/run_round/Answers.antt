use Rattle.std.proofs.Common.{subst}
use Rattle.hr_queue.specs.declared.answer.Taken.{Taken}
use Rattle.hr_core.specs.Rounds.{BeginsNext}
use Rattle.hr_core.proofs.RoundLemmas.{turn_cut, turn_ran}
use Rattle.hr_core.proofs.engine.Core.run_round.Goals as goal

pub returns-in-Turn-clause-ok : goal.returns-in-Turn-clause-ok
returns-in-Turn-clause-ok g c =
    turn_ran c.args.self.now c.begin.new.self c.end_turn.new.self c.in-Turn.turn c.end_turn.result
    (subst (λ (k : Taken). BeginsNext c.args.self.now k c.begin.new.self) c.in-Turn.is c.in_ok-came.ensures.ok)
    c.end_turn.ensures.ok

pub returns-in-Turn-clause-err : goal.returns-in-Turn-clause-err
returns-in-Turn-clause-err g c =
    turn_cut c.args.self.now c.begin.new.self c.end_turn.new.self c.in-Turn.turn c.end_turn.result
    (subst (λ (k : Taken). BeginsNext c.args.self.now k c.begin.new.self) c.in-Turn.is c.in_ok-came.ensures.ok)
    c.end_turn.ensures.err
