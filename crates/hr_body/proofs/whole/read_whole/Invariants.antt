use Rattle.std.proofs.Common.{◌≡◌, ◌+◌}
use Rattle.hr_body.specs.Reading.{GaveOf, still_open}
use Rattle.hr_body.proofs.whole.read_whole.Given as goal

abbrev pub invariant-pieces : goal.invariant-pieces
invariant-pieces g l = record {
  gave : GaveOf (g.L.Stream.left l.initial.link) l.initial.body l.all.items l.body (g.L.Stream.left l.link);
  sent : g.L.Stream.sent l.link ≡ g.L.Stream.sent l.initial.link;
  calm : g.L.Counted.faults l.link ≡ g.L.Counted.faults l.initial.link;
}

abbrev pub decreases-pieces : goal.decreases-pieces
decreases-pieces g l = l.body.room + still_open l.body.stage
