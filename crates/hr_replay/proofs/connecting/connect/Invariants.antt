use Rattle.std.specs.Vec.Iter.{into_iter_items}
use Rattle.hr_lane.specs.Conn.{links_of}
use Rattle.hr_memreg.specs.Mem.{seen_of}
use Rattle.hr_replay.proofs.ConnectLemmas.{SoFar}
use Rattle.hr_replay.proofs.connecting.connect.Given as goal

abbrev pub invariant-loop-link : goal.invariant-loop-link
invariant-loop-link l = SoFar (links_of seen_of l.made.sources) (links_of seen_of l.made.dests)
    (into_iter_items l.link-iterator) l.number l.fn.regs
