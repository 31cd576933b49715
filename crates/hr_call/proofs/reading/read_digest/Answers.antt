use Rattle.std.proofs.Common.{◌≡◌, sym}
use Rattle.hr_digest.specs.Digest.{text_of_digest}
use Rattle.hr_digest.specs.Reading.{IsWhole}
use Rattle.hr_digest.specs.declared.digest.Digest.{Digest}
use Rattle.hr_call.proofs.ReadingLemmas.{digest_whole, no_digest}
use Rattle.hr_call.proofs.reading.read_digest.Goals as goal

pub returns-in-Ok : goal.returns-in-Ok
returns-in-Ok c = sym (digest_whole _ c.in-Ok.digest c.digest_is_whole.ensures c.in-Ok.ensures.ok)

pub returns-in-Err : goal.returns-in-Err
returns-in-Err c =
    sym (no_digest c.args.text.now (λ (digest : Digest) (whole : IsWhole digest) (is : c.args.text.now ≡ text_of_digest digest). let read = c.in-Err.ensures.written digest whole is in absurd cc))
