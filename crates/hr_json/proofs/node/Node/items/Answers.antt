use Rattle.std.proofs.Common.{Some, ap, ◌∙◌}
use Rattle.hr_json.proofs.NodeLemmas.{items_in-list}
use Rattle.hr_json.proofs.node.Node.items.Goals as goal

pub returns-in-Some : goal.returns-in-Some
returns-in-Some c = ap Some c.of.ensures ∙ items_in-list _ c.in-Some.list.now.items c.in-Some.ensures
