-- The repositories so far were gone through.
use Rattle.std.proofs.Common.{take}
use Rattle.hr_plan.specs.Listing.{Goes}
use Rattle.hr_plan.proofs.listing.list_source.Given as goal

abbrev pub invariant-loop-name : goal.invariant-loop-name
invariant-loop-name g l =
    Goes l.filters (g.A.Registry.seen l.initial.source) (take l.name-index l.name-items) (g.A.Registry.seen l.source) l.listing
