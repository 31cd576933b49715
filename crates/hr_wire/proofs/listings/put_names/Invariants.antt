use Rattle.std.proofs.Common.{◌≡◌, ◌++◌, ◌+◌, take}
use Rattle.hr_wire.specs.Listing.{listed}
use Rattle.hr_wire.proofs.listings.put_names.Given as goal

-- the first item and the others so far were put
abbrev pub invariant-loop-name : goal.invariant-loop-name
invariant-loop-name l = l.text.items ≡ l.fn.text.items ++ listed (take (l.name-index + 1) l.names)
