use Rattle.std.proofs.Common.{refl}
use Rattle.hr_plan.specs.Listing.Goes.{none}
use Rattle.hr_plan.proofs.CallLemmas.{breaks_at, goes_more, lists_all}
use Rattle.hr_plan.proofs.listing.list_source.Goals as goal

pub loop-name-init : goal.loop-name-init
loop-name-init g c = none refl refl c.new-listing.ensures

pub loop-name-preserved : goal.loop-name-preserved
loop-name-preserved g c =
    let seen = g.A.Registry.seen in
    goes_more c.args.filters.now (seen c.list_repos.new.source) (seen c.loop-name.source) (seen c.visit.new.source)
    c.view-name-items.result.now c.loop-name.name-index c.name-item.result c.loop-name.listing c.visit.new.listing
    c.loop-name.invariant c.loop-name-test.true c.name-item.is c.in_default.ensures

pub returns-in-Err : goal.returns-in-Err
returns-in-Err g c =
    let seen = g.A.Registry.seen in
    breaks_at c.args.filters.now (seen c.args.source.now) (seen c.list_repos.new.source) (seen c.loop-name.source) (seen c.visit.new.source)
    c.in_ok-names.names c.view-name-items.result.now c.loop-name.name-index c.name-item.result c.loop-name.listing c.in-Err.why
    c.in_ok-names.ensures c.view-name-items.ensures c.loop-name.invariant c.loop-name-test.true c.name-item.is c.in-Err.ensures

pub returns : goal.returns
returns g c =
    let seen = g.A.Registry.seen in
    lists_all c.args.filters.now (seen c.args.source.now) (seen c.list_repos.new.source) (seen c.loop-name.source)
    c.in_ok-names.names c.view-name-items.result.now c.loop-name.name-index c.loop-name.listing
    c.in_ok-names.ensures c.view-name-items.ensures c.loop-name.invariant c.loop-name-test.false
