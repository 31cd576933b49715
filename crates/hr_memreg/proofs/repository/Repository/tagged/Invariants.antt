use Rattle.std.proofs.Common.{◌≡◌, ◌++◌, map}
use Rattle.hr_adapter.specs.Listing.{tagged_in, tagged_of}
use Rattle.hr_memreg.proofs.repository.Repository.tagged.Given as goal

abbrev pub invariant-loop-tag : goal.invariant-loop-tag
invariant-loop-tag l = l.tags ++ map (tagged_in l.self) l.tag-iterator ≡ tagged_of l.self
