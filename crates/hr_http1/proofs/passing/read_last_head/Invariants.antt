use Rattle.std.proofs.Common.{◌≡◌, ◌≤◌, ◌*◌, ◌+◌, ◌-◌}
use Rattle.hr_head.specs.declared.field.TheConstants.{HEAD_LIMIT}
use Rattle.hr_body.specs.Reading.{WhereTold}
use Rattle.hr_http1.specs.declared.passing.TheConstants.{INTERIM_LIMIT}
use Rattle.hr_http1.specs.Reply.{HasPassed}
use Rattle.hr_http1.proofs.passing.read_last_head.Given as goal

-- so many interim replies came off the device
abbrev pub invariant-heads : goal.invariant-heads
invariant-heads g l = record {
  told : WhereTold (g.L.Stream.left l.initial.link) (g.L.Stream.left l.link) (HasPassed l.passed l.at);
  small : l.at ≤ HEAD_LIMIT * l.passed;
  few : l.passed ≤ INTERIM_LIMIT + 1;
  sent : g.L.Stream.sent l.link ≡ g.L.Stream.sent l.initial.link;
  calm : g.L.Counted.faults l.link ≡ g.L.Counted.faults l.initial.link;
}

abbrev pub decreases-heads : goal.decreases-heads
decreases-heads g l = INTERIM_LIMIT + 1 - l.passed
