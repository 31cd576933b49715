use Rattle.std.proofs.Common.{◌≡◌, map, take}
use Rattle.hr_opening.proofs.planning.pick_tags.Given as goal

abbrev pub invariant-loop-tagged : goal.invariant-loop-tagged
invariant-loop-tagged l = l.picked ≡ map (λ tagged. tagged.tag) (take l.tagged-index l.tags)
