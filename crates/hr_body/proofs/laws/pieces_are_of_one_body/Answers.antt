use Rattle.hr_body.proofs.LeadingLemmas.{body_goes_on, body_unique, strays_never, ended_none}
use Rattle.hr_body.proofs.laws.pieces_are_of_one_body.Goals as goal

pub returns-clause-piece : goal.returns-clause-piece
returns-clause-piece c = body_goes_on

pub returns-clause-unique : goal.returns-clause-unique
returns-clause-unique c = body_unique

pub returns-clause-strays : goal.returns-clause-strays
returns-clause-strays c = strays_never

pub returns-clause-ended : goal.returns-clause-ended
returns-clause-ended c = ended_none
