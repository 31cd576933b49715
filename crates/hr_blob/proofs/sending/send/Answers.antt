use Rattle.hr_blob.proofs.RunLemmas.{write_breaks}
use Rattle.hr_blob.proofs.sending.send.Goals as goal

pub returns-in-Err-clause-wrote : goal.returns-in-Err-clause-wrote
returns-in-Err-clause-wrote g c =
    write_breaks _ c.args.piece.now _ _ c.in-Err.ensures c.count-before.ensures.value
    c.count.ensures.value
