-- The tags so far stand at the end of the listing.
use Rattle.std.proofs.Common.{◌≡◌, ◌++◌, take}
use Rattle.hr_plan.specs.Listing.{listed_in}
use Rattle.hr_plan.proofs.listing.push_tags.Given as goal

abbrev pub invariant-loop-tagged : goal.invariant-loop-tagged
invariant-loop-tagged l = l.listing ≡ l.fn.listing ++ listed_in l.repo (take l.tagged-index l.tags)
