use Rattle.std.proofs.Common.{rules}
use Rattle.hr_replay.proofs.ConnectLemmas.{none_made}
use Rattle.hr_replay.proofs.connecting.connect.Goals as goal

pub loop-link-init : goal.loop-link-init
loop-link-init c = none_made _ _ _ _ (search rules) (search rules) (search rules) c.requires
