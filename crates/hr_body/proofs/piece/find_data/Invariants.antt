use Rattle.std.proofs.Common.{◌≡◌}
use Rattle.hr_body.specs.Reading.{Passed}
use Rattle.hr_body.specs.Stage.{ahead}
use Rattle.hr_body.proofs.piece.find_data.Given as goal

abbrev pub invariant-loop-stage : goal.invariant-loop-stage
invariant-loop-stage g l = record {
  passed : Passed (g.L.Stream.left l.initial.link) l.initial.stage l.initial.at l.stage l.at (g.L.Stream.left l.link);
  sent : g.L.Stream.sent l.link ≡ g.L.Stream.sent l.initial.link;
  calm : g.L.Counted.faults l.link ≡ g.L.Counted.faults l.initial.link;
}

abbrev pub decreases-loop-stage : goal.decreases-loop-stage
decreases-loop-stage g l = ahead l.stage
