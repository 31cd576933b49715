-- The links that were copied so far, with those that are left, are all.
use Rattle.std.proofs.Common.{◌≡◌, ◌++◌}
use Rattle.hr_link.proofs.past_links.copy_of.Given as goal

abbrev pub invariant-loop-link : goal.invariant-loop-link
invariant-loop-link l = l.made ++ l.link-iterator ≡ l.fn.links
