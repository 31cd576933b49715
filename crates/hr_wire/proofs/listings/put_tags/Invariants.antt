use Rattle.std.proofs.Common.{◌≡◌, ◌++◌, ◌+◌, take}
use Rattle.hr_wire.specs.Listing.{listed}
use Rattle.hr_wire.proofs.listings.put_tags.Given as goal

-- the first item and the others so far were put
abbrev pub invariant-loop-tag : goal.invariant-loop-tag
invariant-loop-tag l = l.text.items ≡ l.fn.text.items ++ listed (take (l.tag-index + 1) l.tags)
