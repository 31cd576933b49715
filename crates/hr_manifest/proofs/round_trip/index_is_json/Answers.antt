use Rattle.hr_manifest.proofs.PlainLemmas.{index_utf8}
use Rattle.hr_manifest.proofs.BackLemmas.{index_back}
use Rattle.hr_manifest.proofs.round_trip.index_is_json.Goals as goal

pub returns-clause-utf8 : goal.returns-clause-utf8
returns-clause-utf8 c = index_utf8

pub returns-clause-value : goal.returns-clause-value
returns-clause-value c = index_back
