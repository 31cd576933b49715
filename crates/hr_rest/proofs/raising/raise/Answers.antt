use Rattle.std.proofs.Common.{refl, ◌∙◌, arith}
use Rattle.hr_rest.proofs.RaisingLemmas.{raised_more, raised_none}
use Rattle.hr_rest.proofs.raising.raise.Goals as goal

pub loop-mark-init : goal.loop-mark-init
loop-mark-init c = record { rev = refl; known = raised_none c.args.row }

pub loop-mark-preserved : goal.loop-mark-preserved
loop-mark-preserved c = record {
  rev = (let e = c.loop-mark.invariant.rev in omega (arith, e));
  known = c.raised_by-known.ensures
      ∙ raised_more c.args.row c.loop-mark.known c.args.marks.now c.loop-mark.mark-index c.loop-mark.rev _ (omega (arith, c.told-marks, c.loop-mark-test.true)) c.loop-mark.invariant.rev c.loop-mark.invariant.known;
}
