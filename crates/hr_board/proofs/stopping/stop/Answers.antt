use Rattle.hr_board.proofs.StoppingLemmas.{passed-opens, passed-moved, passed-more, passed-final}
use Rattle.hr_board.proofs.stopping.stop.Goals as goal

pub stop_at-requires-clause-opens : goal.stop_at-requires-clause-opens
stop_at-requires-clause-opens g c = passed-opens _ _ _ _ _ c.revisions.invariant.0

pub returns-in-None-clause-stops : goal.returns-in-None-clause-stops
returns-in-None-clause-stops g c = passed-moved _ _ _ _ _ _ c.revisions.invariant.0 c.in-None.ensures.stops

pub returns-then-not-leaves_attempt-clause-stops : goal.returns-then-not-leaves_attempt-clause-stops
returns-then-not-leaves_attempt-clause-stops g c =
    passed-final _ _ _ _ _ _ _ c.revisions.invariant.0 c.in-Some.ensures.stops c.if-not-leaves_attempt.ensures.no

pub revisions-preserved : goal.revisions-preserved
revisions-preserved g c = (
  passed-more _ _ _ _ _ _ _ c.revisions.invariant.0 c.in-Some.ensures.stops
      c.if-not-leaves_attempt.ensures.yes.0 c.if-not-leaves_attempt.ensures.yes.1,
  g.met.B.Board.same_after _ _ _ c.revisions.invariant.1 c.in-Some.ensures.same,
)
