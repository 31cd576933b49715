use Rattle.std.proofs.Common.{List, refl, subst}
use Rattle.hr_filter.specs.Selection.{IsSelection}
use Rattle.hr_filter.specs.declared.filter.Filter.{Filter}
use Rattle.hr_filter.specs.declared.listed.Listed.{Listed}
use Rattle.hr_filter.specs.declared.listed.Pick.{Pick}
use Rattle.hr_plan.specs.Listing.{Lists}
use Rattle.hr_plan.specs.Listing.Breaks.{no_room}
use Rattle.hr_plan.specs.Tasks.{MakesTasks}
use Rattle.hr_plan.proofs.PlanLaws.{planned}
use Rattle.hr_plan.proofs.planning.plan_source.Goals as goal

pub returns-in-Err : goal.returns-in-Err
returns-in-Err g c =
    let old = g.A.Registry.seen c.args.source.now in
    let new = g.A.Registry.seen c.list_source.new.source in
    no_room c.in_ok-listing.listing
    (subst (λ (fs : List Filter). Lists fs old new c.in_ok-listing.listing) c.view.ensures c.in_ok-listing.ensures) refl

pub returns : goal.returns
returns g c =
    let old = g.A.Registry.seen c.args.source.now in
    let new = g.A.Registry.seen c.list_source.new.source in
    let policy = c.args.policy.now in
    let lists = subst (λ (fs : List Filter). Lists fs old new c.in_ok-listing.listing) c.view.ensures c.in_ok-listing.ensures in
    let selected = subst (λ (fs : List Filter). IsSelection fs c.in_ok-listing.listing c.in-Ok.picks) c.view-2.ensures
    (subst (λ (ls : List Listed). IsSelection c.view-2.result.now ls c.in-Ok.picks) c.view-3.ensures c.in-Ok.ensures) in
    let made = subst (λ (ps : List Pick). MakesTasks policy ps c.make_tasks.result) c.view-4.ensures c.make_tasks.ensures in
    planned policy old new c.in_ok-listing.listing c.in-Ok.picks c.make_tasks.result lists selected made
