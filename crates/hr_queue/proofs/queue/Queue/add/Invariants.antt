use Rattle.std.proofs.Common.{◌+◌, ◌≤◌, ◌++◌, length, take, drop}
use Rattle.hr_board.specs.View.{Keeps}
use Rattle.hr_queue.specs.Adding.{Adds}
use Rattle.hr_queue.specs.View.{AreDistinct}
use Rattle.hr_queue.proofs.queue.Queue.add.Given as goal

abbrev pub invariant-loop-job : goal.invariant-loop-job
invariant-loop-job g l = record {
  adds : Adds l.fn.self (g.B.Board.seen l.fn.board) (take l.job-index l.jobs) l.self (g.B.Board.seen l.board);
  kept : Keeps (g.B.Board.seen l.fn.board) (g.B.Board.seen l.board);
  same : g.B.Board.same l.fn.board l.board;
  new : AreDistinct (l.self.added ++ drop l.job-index l.jobs);
  room : length l.jobs ≤ l.job-index + l.self.spare;
}
