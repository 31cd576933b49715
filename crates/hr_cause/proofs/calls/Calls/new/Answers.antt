use Rattle.std.specs.Cmp.{nat_cmp_total}
use Rattle.std.proofs.lemmas.Map.Lookups.{exact_unsigned}
use Rattle.std.proofs.lemmas.Map.Views.{btree_set_contains_from_list}
use Rattle.hr_cause.proofs.calls.Calls.new.Goals as goal

-- what was gathered from the numbers has exactly the numbers
pub invariant_of-result : goal.invariant_of-result
invariant_of-result c =
    rw (c.of-listed.ensures, ← c.view.ensures)
    (btree_set_contains_from_list nat_cmp_total exact_unsigned _ _ c.in_ok-failing.ensures.same, c.gathered.ensures.in_range)
