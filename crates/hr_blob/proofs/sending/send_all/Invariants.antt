-- What was read so far is what was fed to the check, and what was written.
use Rattle.std.proofs.Common.{◌-◌}
use Rattle.hr_adapter.specs.declared.registry.TheConstants.{BLOB_LIMIT}
use Rattle.hr_blob.proofs.RunLemmas.{Sends}
use Rattle.hr_blob.proofs.sending.send_all.Given as goal

abbrev pub invariant-pieces : goal.invariant-pieces
invariant-pieces g l = Sends l.check l.len
    (g.S.Registry.seen l.fn.source) (g.S.Registry.seen l.source)
    (g.D.Registry.seen l.fn.dest) (g.D.Registry.seen l.dest)

abbrev pub decreases-pieces : goal.decreases-pieces
decreases-pieces g l = BLOB_LIMIT - l.len
