use Rattle.hr_http1.proofs.BodyLemmas.{body_facts}
use Rattle.hr_http1.proofs.laws.bodies_are_read_by_their_framing.Goals as goal

pub returns : goal.returns
returns c = body_facts (record {
  piece = c.pieces_are_of_one_body.ensures.piece;
  unique = c.pieces_are_of_one_body.ensures.unique;
  strays = c.pieces_are_of_one_body.ensures.strays;
  ended = c.pieces_are_of_one_body.ensures.ended;
  chunked = c.bodies_are_the_grammars.ensures.chunked;
  sized = c.bodies_are_the_grammars.ensures.sized;
  long = c.bytes_have_one_outcome.ensures.too_long;
  to_end = c.bodies_are_the_grammars.ensures.to_end;
})
