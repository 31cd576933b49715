use Rattle.hr_http1.proofs.LawLemmas.{opened_lost, opened_piece, opened_whole}
use Rattle.hr_http1.proofs.laws.pieces_are_of_the_reply.Goals as goal

pub returns-clause-piece : goal.returns-clause-piece
returns-clause-piece c = opened_piece c.pieces_are_of_one_body.ensures.piece c.bodies_are_read_by_their_framing.ensures

pub returns-clause-all : goal.returns-clause-all
returns-clause-all c = opened_whole c.bodies_are_read_by_their_framing.ensures

pub returns-clause-fault : goal.returns-clause-fault
returns-clause-fault c = opened_lost c.bodies_are_read_by_their_framing.ensures
