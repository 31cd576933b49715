use Rattle.hr_manifest.proofs.ReadingLemmas.{reads-once}
use Rattle.hr_manifest.proofs.law.children_depend_on_the_bytes_alone.Goals as goal

pub returns : goal.returns
returns c = reads-once c.args.media.now c.args.other.now c.args.bytes.now
