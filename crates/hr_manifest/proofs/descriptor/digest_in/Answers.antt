use Rattle.std.proofs.Common.{◌≡◌, sym}
use Rattle.hr_digest.specs.Digest.{text_of_digest}
use Rattle.hr_digest.specs.Reading.{IsWhole}
use Rattle.hr_digest.specs.declared.digest.Digest.{Digest}
use Rattle.hr_manifest.proofs.DescriptorLemmas.{digest_in-none, digest_in-whole}
use Rattle.hr_manifest.proofs.descriptor.digest_in.Goals as goal

pub returns-in-Ok : goal.returns-in-Ok
returns-in-Ok c = sym (digest_in-whole _ c.in-Ok.digest c.digest_is_whole.ensures c.in-Ok.ensures.ok)

pub returns-in-Err : goal.returns-in-Err
returns-in-Err c =
    sym (digest_in-none c.args.text.now (λ (digest : Digest) (whole : IsWhole digest) (is : c.args.text.now ≡ text_of_digest digest). let read = c.in-Err.ensures.written digest whole is in absurd cc))
