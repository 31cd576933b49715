use Rattle.std.proofs.Common.{subst, sym, List, ℕ}
use Rattle.hr_adapter.specs.Media.{FitsHeader}
use Rattle.hr_lane.proofs.MediaLemmas.{read_fits}
use Rattle.hr_lane.proofs.call.put.Goals as goal

pub put_manifest-requires-clause-fits : goal.put_manifest-requires-clause-fits
put_manifest-requires-clause-fits g c =
    subst (λ (media : List ℕ). FitsHeader media) (sym c.media.ensures)
    (read_fits c.args.manifest.now.media c.args.manifest.now.bytes c.args.manifest.now.children c.is_read.ensures)
