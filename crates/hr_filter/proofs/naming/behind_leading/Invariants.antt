-- What is left, without the leading components that are to be dropped still, is what is wanted.
use Rattle.std.proofs.Common.{◌≡◌, ◌≤◌, ◌-◌, length}
use Rattle.hr_name.specs.Name.{IsName}
use Rattle.hr_pattern.specs.Component.{components}
use Rattle.hr_filter.specs.Naming.{behind_leading}
use Rattle.hr_filter.proofs.naming.behind_leading.Given as goal

abbrev pub invariant-loop : goal.invariant-loop
invariant-loop l = record {
  left : behind_leading (l.count - l.counter) (components l.left) ≡ behind_leading l.count (components l.name);
  named : IsName l.left;
  shorter : length l.left ≤ length l.name;
}
