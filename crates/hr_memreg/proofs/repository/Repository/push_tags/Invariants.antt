use Rattle.std.proofs.Common.{◌≡◌, ◌++◌}
use Rattle.std.specs.List.{filter_map}
use Rattle.hr_adapter.specs.Listing.{tag_now}
use Rattle.hr_memreg.proofs.repository.Repository.push_tags.Given as goal

abbrev pub invariant-loop-tag : goal.invariant-loop-tag
invariant-loop-tag l = l.shown ++ filter_map (tag_now l.name) l.tag-iterator ≡ l.initial.shown ++ filter_map (tag_now l.name) l.self.tags
