use Rattle.std.proofs.Common.{refl, ap}
use Rattle.std.specs.Prelude.{Ok, Err}
use Rattle.hr_lane.proofs.work.go_on.Goals as goal

pub returns-in-Ok : goal.returns-in-Ok
returns-in-Ok c = record { walk = Ok c.give.new.self; takes = c.in-Ok.ensures.ok; is = refl }

pub returns-in-Err : goal.returns-in-Err
returns-in-Err c = record {
  walk = Err c.in-Err.why;
  takes = c.in-Err.ensures.err;
  is = ap Err c.of_walk.ensures;
}
