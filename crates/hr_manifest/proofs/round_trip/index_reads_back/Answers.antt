use Rattle.hr_manifest.proofs.RoundTripLemmas.{index_children_back}
use Rattle.hr_manifest.proofs.round_trip.index_reads_back.Goals as goal

pub returns : goal.returns
returns c = index_children_back
