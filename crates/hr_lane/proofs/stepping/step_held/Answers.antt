use Rattle.std.proofs.Common.{◌≡◌, rules}
use Rattle.hr_base.specs.declared.status.Mark.TheVariants.{At}
use Rattle.hr_base.specs.declared.status.Status.TheVariants.{Running}
use Rattle.hr_lane.proofs.StepLemmas.{again_order, did_steps, found_running, over_order, over_out_steps}
use Rattle.hr_lane.proofs.stepping.step_held.Goals as goal

pub returns-in-Ok-clause-steps : goal.returns-in-Ok-clause-steps
returns-in-Ok-clause-steps g c =
    let running : c.look-mark.result ≡ At Running = search rules in
    λ admitted whole out.
    did_steps c.args.held _ _ _ _ c.args.log.now.newest c.work_on.new.log.newest c.args.hooks.now.newest admitted whole
    c.args.holding.now.held c.work_on.new.holding.held _ _ c.requires.sources c.requires.dests out c.in-Ok.ensures.works
    (found_running _ _ _ c.look-mark.result running c.look-mark.ensures.found c.look-mark.ensures.noted)

pub returns-in-Ok-clause-sources : goal.returns-in-Ok-clause-sources
returns-in-Ok-clause-sources g c =
    (again_order c.args.held _ _ _ _ _ _ _ _ c.requires.sources c.requires.dests c.in-Ok.ensures.works).0

pub returns-in-Ok-clause-dests : goal.returns-in-Ok-clause-dests
returns-in-Ok-clause-dests g c =
    (again_order c.args.held _ _ _ _ _ _ _ _ c.requires.sources c.requires.dests c.in-Ok.ensures.works).1

pub returns-in-Err-clause-steps : goal.returns-in-Err-clause-steps
returns-in-Err-clause-steps g c =
    let running : c.look-mark.result ≡ At Running = search rules in
    λ admitted whole out.
    over_out_steps c.args.held c.in-Err.over.by c.in-Err.over.why _ _ _ _ c.args.log.now.newest c.work_on.new.log.newest
    c.finish.new.log.newest c.args.hooks.now.newest c.finish.new.hooks.newest admitted whole c.args.holding.now.held
    c.work_on.new.holding.held _ _ _ c.finish.result c.requires.sources c.requires.dests out c.in-Err.ensures.works.0
    c.in-Err.ensures.works.1 c.in-Err.ensures.works.2
    (found_running _ _ _ c.look-mark.result running c.look-mark.ensures.found c.look-mark.ensures.noted)
    c.finish.ensures.finishes

pub returns-in-Err-clause-sources : goal.returns-in-Err-clause-sources
returns-in-Err-clause-sources g c =
    (over_order c.args.held _ _ _ _ _ _ c.in-Err.over.why c.requires.sources c.requires.dests
    c.in-Err.ensures.works.2).0

pub returns-in-Err-clause-dests : goal.returns-in-Err-clause-dests
returns-in-Err-clause-dests g c =
    (over_order c.args.held _ _ _ _ _ _ c.in-Err.over.why c.requires.sources c.requires.dests
    c.in-Err.ensures.works.2).1
