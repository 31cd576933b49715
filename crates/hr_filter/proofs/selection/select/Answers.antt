use Rattle.std.proofs.Common.{◌≡◌, rules}
use Rattle.std.proofs.lemmas.Result.{IfOk-weaker}
use Rattle.hr_filter.specs.Grouping.{grouped}
use Rattle.hr_filter.specs.Selection.{IsSelection}
use Rattle.hr_filter.proofs.SelectionLemmas.{selection}
use Rattle.hr_filter.proofs.selection.select.Goals as goal

pub returns : goal.returns
returns c =
    let all : c.deref.result.now ≡ c.in_ok-selected.selected.keys = search rules in
    IfOk-weaker c.group.result (λ picks. picks ≡ grouped c.deref.result.now) (IsSelection c.args.filters.now c.args.listing.now)
    (λ picks is. selection c.args.filters.now c.args.listing.now c.in_ok-selected.selected c.deref.result.now picks
    c.in_ok-selected.ensures c.into_iter.ensures.into_iter_gives.4 all is)
    c.group.ensures
