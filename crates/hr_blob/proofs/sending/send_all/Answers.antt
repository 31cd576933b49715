use Rattle.std.proofs.Common.{refl}
use Rattle.hr_blob.proofs.RunLemmas.{send_too_many, send_unwritten}
use Rattle.hr_blob.proofs.sending.send_all.Goals as goal

pub returns-then-len-gt-BLOB_LIMIT : goal.returns-then-len-gt-BLOB_LIMIT
returns-then-len-gt-BLOB_LIMIT g c =
    send_too_many _ _ _ _ _ c.pieces.check c.fill.new.buf c.pieces.len c.in-Ok.count
    c.pieces.invariant c.in-Ok.ensures c.if-len-gt-BLOB_LIMIT.true

pub returns-in-Err-send : goal.returns-in-Err-send
returns-in-Err-send g c =
    send_unwritten _ _ _ _ _ _ _ c.pieces.check _ c.fill.new.buf c.pieces.len c.in-Ok.count
    c.pieces.invariant c.in-Ok.ensures c.requires.blank refl c.if-len-gt-BLOB_LIMIT.false
    c.in-Err-send.ensures.wrote
