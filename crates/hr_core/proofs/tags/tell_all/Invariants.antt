-- The tags so far as answers.
use Rattle.std.proofs.Common.{◌≡◌, map}
use Rattle.hr_promise.specs.Answer.{tag_told}
use Rattle.hr_core.proofs.tags.tell_all.Given as goal

abbrev pub invariant-loop-repo : goal.invariant-loop-repo
invariant-loop-repo l = l.told ≡ map tag_told l.yielded
