use Rattle.std.proofs.Common.{◌≡◌, Some, take}
use Rattle.hr_call.specs.Reading.{tag_in}
use Rattle.hr_json.specs.Node.{values_of}
use Rattle.hr_wire.specs.Listing.{each_read}
use Rattle.hr_wire.proofs.listings.listed_tags.Given as goal

-- the items so far were read
abbrev pub invariant-loop-at : goal.invariant-loop-at
invariant-loop-at l = each_read tag_in (take l.at (values_of l.items)) ≡ Some l.tags
