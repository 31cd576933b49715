use Rattle.hr_manifest.proofs.ReadingLaws.{reads_media}
use Rattle.hr_manifest.proofs.law.manifests_have_four_media_types.Goals as goal

pub returns : goal.returns
returns c = reads_media c.args.media.now c.args.bytes.now
