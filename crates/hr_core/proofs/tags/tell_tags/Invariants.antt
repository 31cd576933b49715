-- No connection so far is to the registry.
use Rattle.std.proofs.Common.{◌≡◌, drop}
use Rattle.hr_line.specs.State.{link_at}
use Rattle.hr_lane.specs.Conn.{links_of}
use Rattle.hr_core.proofs.tags.tell_tags.Given as goal

abbrev pub invariant-loop-at : goal.invariant-loop-at
invariant-loop-at g l =
    link_at (links_of g.A.Registry.seen l.conns) l.reg
    ≡ link_at (links_of g.A.Registry.seen (drop l.at l.conns)) l.reg
