use Rattle.hr_run.proofs.CallLemmas.{can_add, can_admit, gone_on_board, held_on_board, hook_on_board, out_on_board, row_on_board}
use Rattle.hr_run.proofs.readiness.calls_can_be_made.Goals as goal

pub returns-clause-out : goal.returns-clause-out
returns-clause-out c = out_on_board

pub returns-clause-held : goal.returns-clause-held
returns-clause-held c = held_on_board

pub returns-clause-rows : goal.returns-clause-rows
returns-clause-rows c = row_on_board

pub returns-clause-hooks : goal.returns-clause-hooks
returns-clause-hooks c = hook_on_board

pub returns-clause-goes : goal.returns-clause-goes
returns-clause-goes c = gone_on_board

pub returns-clause-admits : goal.returns-clause-admits
returns-clause-admits c = can_admit

pub returns-clause-adds : goal.returns-clause-adds
returns-clause-adds c = can_add
