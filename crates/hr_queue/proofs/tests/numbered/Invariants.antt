use Rattle.std.proofs.Common.{◌≡◌, ◌+◌, ◌<◌, length}
use Rattle.std.specs.List.{AllByRecursion}
use Rattle.hr_queue.specs.Adding.{IsFit}
use Rattle.hr_queue.specs.View.{AreDistinct}
use Rattle.hr_queue.proofs.tests.numbered.Given as goal

abbrev pub invariant-loop-attempts : goal.invariant-loop-attempts
invariant-loop-attempts l = record {
  distinct : AreDistinct l.jobs.items;
  below : AllByRecursion (λ a. a.job.0 < l.next) l.jobs.items;
  fit : AllByRecursion (IsFit (length l.attempts)) l.jobs.items;
  len : length l.jobs.items ≡ l.attempts-index;
  next : l.next ≡ l.attempts-index + 1;
}
