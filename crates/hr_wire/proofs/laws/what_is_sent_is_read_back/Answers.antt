use Rattle.hr_wire.proofs.BackLemmas.{made_back, read_back}
use Rattle.hr_wire.proofs.laws.what_is_sent_is_read_back.Goals as goal

pub returns-clause-made : goal.returns-clause-made
returns-clause-made c = made_back c.what_is_asked_is_read_back.ensures

pub returns-clause-read : goal.returns-clause-read
returns-clause-read c = read_back c.what_is_asked_is_read_back.ensures
