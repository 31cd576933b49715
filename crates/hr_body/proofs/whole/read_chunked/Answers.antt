use Rattle.hr_body.proofs.ChunkLemmas.{chunked_off, chunked_none}
use Rattle.hr_body.proofs.whole.read_chunked.Goals as goal

pub returns-in-Ok-clause-ok : goal.returns-in-Ok-clause-ok
returns-in-Ok-clause-ok g c = chunked_off _ _ c.chunked-body.result.stage _ c.chunked-body.ensures.stage_is c.in-Ok.ensures.held

pub returns-in-Err-clause-none : goal.returns-in-Err-clause-none
returns-in-Err-clause-none g c = λ memory failed.
    chunked_none _ c.chunked-body.result.stage c.chunked-body.result.room c.args.limit c.chunked-body.ensures.stage_is c.chunked-body.ensures.room (c.in-Err.ensures.none memory failed)
