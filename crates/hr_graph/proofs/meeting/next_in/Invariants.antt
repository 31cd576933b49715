use Rattle.std.proofs.Common.{◌≡◌, ◌+◌, reverse, drop}
use Rattle.hr_graph.specs.Meeting.{child_met, next_from, next_in}
use Rattle.hr_graph.proofs.meeting.next_in.Given as goal

abbrev pub invariant-loop-at : goal.invariant-loop-at
invariant-loop-at l =
    next_in (reverse l.opened) l.blobs.entries l.manifests.entries
    ≡ next_from (child_met (reverse l.opened) l.blobs.entries l.manifests.entries (l.newest.level + 1))
    l.newest.digest l.at (drop l.at l.children)
