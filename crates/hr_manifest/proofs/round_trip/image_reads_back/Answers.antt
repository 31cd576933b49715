use Rattle.hr_manifest.proofs.RoundTripLemmas.{image_children_back}
use Rattle.hr_manifest.proofs.round_trip.image_reads_back.Goals as goal

pub returns : goal.returns
returns c = image_children_back
