use Rattle.std.proofs.Common.{ap, ◌∙◌, reverse, take, drop}
use Rattle.hr_rest.proofs.PageLemmas.{page_turned}
use Rattle.hr_rest.proofs.page.page_from_last.Goals as goal

pub returns : goal.returns
returns g c =
    page_turned c.args.items.now c.before_page.result c.args.size c.saturating_sub-end.result c.saturating_sub-start.result
    c.saturating_sub-end.ensures c.saturating_sub-start.ensures
    ∙ ap (λ k. take c.args.size (drop k (reverse c.args.items.now))) c.before_page.ensures
