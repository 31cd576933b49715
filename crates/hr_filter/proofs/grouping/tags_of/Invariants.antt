-- What was copied so far.
use Rattle.std.proofs.Common.{◌≡◌, map, take}
use Rattle.hr_filter.proofs.grouping.tags_of.Given as goal

abbrev pub invariant-loop-tag : goal.invariant-loop-tag
invariant-loop-tag l = l.made ≡ map (λ tag. tag.1) (take l.tag-index l.tags)
