use Rattle.std.specs.Prelude.{Err}
use Rattle.hr_plan.specs.Listing.{AsksRepos}
use Rattle.hr_plan.proofs.CallLemmas.{refuses}
use Rattle.hr_plan.proofs.listing.list_repos.Goals as goal

pub returns-in-Err : goal.returns-in-Err
returns-in-Err g c =
    let old = g.A.Registry.seen c.args.source.now in
    let new = g.A.Registry.seen c.repos.new.self in
    refuses (λ fault. AsksRepos old new (Err fault)) old new c.in-Err.fault c.count-before.result c.count.result c.refused.result
    (record { sound = c.count-before.ensures.sound; call = c.in-Err.ensures }) c.count-before.ensures.value c.count.ensures.value c.refused.ensures
