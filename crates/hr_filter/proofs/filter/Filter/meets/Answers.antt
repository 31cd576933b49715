use Rattle.hr_filter.proofs.FilterLemmas.{label_told}
use Rattle.hr_filter.proofs.filter.Filter.meets.Goals as goal

pub returns-in-Label : goal.returns-in-Label
returns-in-Label c =
    label_told c.args.self.now c.args.listed.now c.in-Label.labels c.view-in-Label.result.now c.view-in-Label-2.result.now c.in-Label.decoration
    c.has_all.result c.selects-in-Label.result c.in-Label.is c.view-in-Label.ensures c.view-in-Label-2.ensures c.has_all.ensures c.selects-in-Label.ensures
