use Rattle.hr_manifest.proofs.PlainLemmas.{image_utf8, writable_config, writable_layers}
use Rattle.hr_manifest.proofs.BackLemmas.{image_back}
use Rattle.hr_manifest.proofs.round_trip.image_is_json.Goals as goal

pub returns-clause-utf8 : goal.returns-clause-utf8
returns-clause-utf8 c config layers h hs = image_utf8 config layers (writable_config config h) (writable_layers layers hs)

pub returns-clause-value : goal.returns-clause-value
returns-clause-value c = image_back
