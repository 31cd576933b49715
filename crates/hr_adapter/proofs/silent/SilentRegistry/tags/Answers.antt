use Rattle.std.proofs.Common.{rules}
use Rattle.std.specs.List.Sorted.{IsStrictlySortedBy}
use Rattle.hr_adapter.proofs.silent.SilentRegistry.tags.Goals as goal

-- no items are in order
pub returns : goal.returns
unfolding IsStrictlySortedBy
returns c = search rules
