use Rattle.std.proofs.Common.{◌≤◌, length, arith}
use Rattle.std.proofs.lemmas.List.{drop_all}
use Rattle.hr_link.proofs.PlaceLemmas.{end_behind}
use Rattle.hr_link.proofs.mem_door.is_end.Goals as goal

pub returns : goal.returns
returns c = (
  λ yes. (let far : length c.args.requests.now ≤ c.args.at = grind arith in drop_all c.args.at c.args.requests.now far),
  λ none. (let far : length c.args.requests.now ≤ c.args.at = end_behind c.args.requests.now c.args.at none in grind arith),
)
