use Rattle.std.proofs.Common.{refl, ◌∙◌, arith}
use Rattle.hr_queue.proofs.RowLemmas.{same_itself, same_after}
use Rattle.hr_queue.proofs.candidates.drop_firsts.Goals as goal

pub firsts-init : goal.firsts-init
firsts-init c = record {
  heap = c.requires.heap;
  are = c.requires.are;
  outs = refl;
  jobs = same_itself _;
  len = refl;
  rows_room = refl;
  room = refl;
  fewer = omega arith;
}

pub firsts-preserved : goal.firsts-preserved
firsts-preserved c = record {
  heap = c.drop_first.ensures.heap;
  are = c.drop_first.ensures.are;
  outs = c.drop_first.ensures.outs ∙ c.firsts.invariant.outs;
  jobs = same_after _ _ _ c.firsts.invariant.jobs c.drop_first.ensures.jobs;
  len = c.drop_first.ensures.len ∙ c.firsts.invariant.len;
  rows_room = c.drop_first.ensures.rows_room ∙ c.firsts.invariant.rows_room;
  room = c.drop_first.ensures.room ∙ c.firsts.invariant.room;
  fewer = omega (arith, c.drop_first.ensures.fewer, c.firsts.invariant.fewer);
}

pub returns-clause-jobs : goal.returns-clause-jobs
returns-clause-jobs c = same_after _ _ _ c.firsts.invariant.jobs c.drop_first.ensures.jobs
