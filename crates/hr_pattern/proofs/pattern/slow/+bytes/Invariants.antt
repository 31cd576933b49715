use Rattle.std.proofs.Common.{length}
use Rattle.hr_pattern.proofs.pattern.slow.+bytes.Given as goal

abbrev pub decreases-bytes : goal.decreases-bytes
decreases-bytes l = length l.units.now
