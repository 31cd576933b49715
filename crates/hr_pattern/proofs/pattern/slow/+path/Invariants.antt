use Rattle.std.proofs.Common.{length}
use Rattle.hr_pattern.proofs.pattern.slow.+path.Given as goal

abbrev pub decreases-path : goal.decreases-path
decreases-path l = length l.form.now
