use Rattle.std.proofs.Common.{subst, sym}
use Rattle.std.specs.List.{All}
use Rattle.hr_policy.specs.Text.{IsText, IsTextFilter}
use Rattle.hr_policy.proofs.writing.filter_value.Goals as goal

pub labels_value-requires : goal.labels_value-requires
labels_value-requires c =
    let texts : All IsText c.in-Label.labels = subst IsTextFilter c.in-Label.is c.requires in
    subst (All IsText) (sym c.view.ensures) texts
