use Rattle.std.proofs.Common.{arith}
use Rattle.hr_queue.specs.Adding.{Adds}
use Rattle.hr_queue.proofs.AddingLemmas.{keeps_itself, keeps_after, next_new, still_distinct, adds_more, added_one, spare_one}
use Rattle.hr_queue.proofs.queue.Queue.add.Goals as goal

pub loop-job-init : goal.loop-job-init
loop-job-init g c = record {
  adds = Adds.none_yet;
  kept = keeps_itself _;
  same = g.met.B.Board.same_as_itself _;
  new = c.requires.new;
  room = omega (arith, c.requires.room);
}

pub add_one-requires-clause-new : goal.add_one-requires-clause-new
add_one-requires-clause-new g c =
    next_new c.loop-job.self.added c.args.jobs.now c.loop-job.job-index
    (record { job = record { 0 = 0 }; attempts = 0 }) c.loop-job-test.true c.loop-job.invariant.new

pub loop-job-preserved : goal.loop-job-preserved
loop-job-preserved g c =
    record {
      adds = adds_more _ _ _ _ _ _ _ _ _ c.loop-job-test.true c.loop-job.invariant.adds c.add_one.ensures.adds;
      kept = keeps_after _ _ _ c.loop-job.invariant.kept c.add_one.ensures.kept;
      same = g.met.B.Board.same_after _ _ _ c.loop-job.invariant.same c.add_one.ensures.same;
      new = still_distinct _ _ _ _ _ c.loop-job-test.true c.loop-job.invariant.new
          (added_one _ _ _ _ _ c.add_one.ensures.adds);
      room = omega (arith, spare_one _ _ _ _ _ c.add_one.ensures.adds, c.loop-job.invariant.room);
    }
