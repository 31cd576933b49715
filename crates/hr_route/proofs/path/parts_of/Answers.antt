use Rattle.std.proofs.Common.{◌+◌, rules}
use Rattle.std.proofs.lemmas.List.{take_rest}
use Rattle.hr_route.specs.Path.{top, within}
use Rattle.hr_route.proofs.PathLemmas.{no_way, no_way_without_slash, way_found}
use Rattle.hr_route.proofs.path.parts_of.Goals as goal

pub returns-in_default : goal.returns-in_default
returns-in_default c = no_way_without_slash c.args.path.now c.in_default.ensures

pub returns-then-eq : goal.returns-then-eq
returns-then-eq c =
    way_found c.args.path.now c.in-Some.at (top _) c.in-Some.ensures (search rules) (take_rest c.args.path.now (c.in-Some.at + 1))

pub returns-in_default-within : goal.returns-in_default-within
returns-in_default-within c =
    no_way c.args.path.now c.in-Some.at c.in-Some.ensures (search rules) c.in_default-within.ensures

pub returns : goal.returns
returns c =
    way_found c.args.path.now c.in-Some.at (within c.in-Some-within.repo.now c.in-Some-within.kind _) c.in-Some.ensures (search rules) (take_rest c.args.path.now (c.in-Some.at + 1))
