use Rattle.std.proofs.Common.{◌++◌, List, ap, ◌∙◌}
use Rattle.hr_adapter.specs.declared.listed.Tagged.{Tagged}
use Rattle.hr_plan.specs.Listing.{listed_in}
use Rattle.hr_plan.specs.Listing.Visits.{asked}
use Rattle.hr_plan.proofs.listing.visit.Goals as goal

pub returns : goal.returns
returns g c =
    asked c.in_ok-tags.tags (c.meets_names.ensures.0 c.if-not-meets_names.false) c.in_ok-tags.ensures
    (c.in_ok-push_tags.ensures ∙ ap (λ (tags : List Tagged). c.args.listing.now ++ listed_in c.args.repo.now tags) c.view.ensures)
