use Rattle.std.proofs.Common.{◌≡◌, true, take}
use Rattle.hr_opening.specs.Plan.{are_listed, specs_of}
use Rattle.hr_opening.proofs.planning.plan.Given as goal

abbrev pub invariant-loop-name : goal.invariant-loop-name
invariant-loop-name l = record {
  made : l.specs ≡ specs_of l.source.content (take l.name-index l.name-items);
  listed : are_listed l.source.content (take l.name-index l.name-items) ≡ true;
}
