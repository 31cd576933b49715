use Rattle.hr_manifest.proofs.ReadingLemmas.{reads-few, reads-short}
use Rattle.hr_manifest.proofs.law.manifests_are_within_their_limits.Goals as goal

pub returns-clause-bytes : goal.returns-clause-bytes
returns-clause-bytes c = reads-short c.args.media.now c.args.bytes.now

pub returns-clause-children : goal.returns-clause-children
returns-clause-children c = reads-few c.args.media.now c.args.bytes.now
