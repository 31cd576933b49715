use Rattle.hr_blob.proofs.RunLemmas.{fills_more}
use Rattle.hr_blob.proofs.sending.fill.Goals as goal

pub reads-preserved : goal.reads-preserved
reads-preserved g c = record {
  within = c.in_ok-count.ensures.read.within;
  gave = fills_more _ _ _ c.reads.buf c.read.new.buf c.reads.at c.in_ok-count.count
      c.reads.invariant.gave c.in_ok-count.ensures.front c.in_ok-count.ensures.read;
}
