use Rattle.hr_queue.proofs.GainsLemmas.{agrees_new, agrees_after, agrees_still}
use Rattle.hr_queue.proofs.laws.a_queue_agrees_with_its_board.Goals as goal

pub returns-clause-new : goal.returns-clause-new
returns-clause-new c = agrees_new

pub returns-clause-calls : goal.returns-clause-calls
returns-clause-calls c = agrees_after

pub returns-clause-others : goal.returns-clause-others
returns-clause-others c = agrees_still
