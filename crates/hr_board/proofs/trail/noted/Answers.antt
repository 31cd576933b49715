use Rattle.hr_board.proofs.PastLemmas.{past_of-push}
use Rattle.hr_board.proofs.trail.noted.Goals as goal

pub returns : goal.returns
returns c = past_of-push c.args.before.now.items c.then.result.items c.args.note.now c.then.ensures
