use Rattle.hr_body.proofs.ChunkLemmas.{holds_chunked}
use Rattle.hr_body.proofs.GrammarLemmas.{chunked_holds}
use Rattle.hr_body.proofs.PlainLemmas.{sized_holds, sized_only, to_end_is, to_end_only}
use Rattle.hr_body.proofs.laws.bodies_are_the_grammars.Goals as goal

pub returns-clause-chunked : goal.returns-clause-chunked
returns-clause-chunked c = λ bytes body rest. (holds_chunked bytes body rest, chunked_holds bytes body rest)

pub returns-clause-sized : goal.returns-clause-sized
returns-clause-sized c = λ more bytes body rest. (sized_only more bytes body rest, λ h. sized_holds more bytes body rest h.0 h.1)

pub returns-clause-to_end : goal.returns-clause-to_end
returns-clause-to_end c = λ bytes body rest. (to_end_only bytes body rest, to_end_is bytes body rest)
