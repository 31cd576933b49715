use Rattle.std.proofs.Common.{List, [], ◌∷◌, sym, subst, arith}
use Rattle.hr_line.specs.State.{Link}
use Rattle.hr_lane.specs.Conn.{AreDistinct, links_of}
use Rattle.hr_memreg.specs.Mem.{seen_of}
use Rattle.hr_run.specs.Ready.{IsReady}
use Rattle.hr_run.specs.Sound.{IsSound}
use Rattle.hr_replay.proofs.ConnectLemmas.{begins_first, dests_apart, opened_with, opens_in, plan_runs_in, plan_tries_in, sources_apart}
use Rattle.hr_replay.proofs.replaying.begin.Goals as goal

pub new-requires-clause-sources : goal.new-requires-clause-sources
new-requires-clause-sources c =
    subst (λ (links : List Link). AreDistinct links) (sym c.in_ok-sources.ensures.sources) (sources_apart c.args.regs c.requires.eight)

pub new-requires-clause-dests : goal.new-requires-clause-dests
new-requires-clause-dests c =
    subst (λ (links : List Link). AreDistinct links) (sym c.in_ok-sources.ensures.dests) (dests_apart c.args.regs c.requires.eight)

pub returns-clause-first : goal.returns-clause-first
returns-clause-first c setups same =
    begins_first setups c.args.regs c.view.result.now c.index-view-0.result c.in_ok-plan.plan
    (links_of seen_of c.in_ok-sources.field-0.sources) (links_of seen_of c.in_ok-sources.field-0.dests)
    c.new.result c.args.jobs c.new-2.result c.in_ok-core.core c.new-2.ensures same c.requires.eight c.view.ensures c.index-view-0.is
    c.in_ok-plan.ensures c.in_ok-sources.ensures.sources c.in_ok-sources.ensures.dests c.new.ensures
    (opened_with c.push.new.self c.new-lanes.result c.new.result (links_of seen_of c.new-2.result) c.in_ok-plan.plan c.args.jobs
    c.in_ok-core.core c.new-lanes.ensures c.in_ok-push.ensures.ok c.in_ok-core.ensures)

pub returns-clause-ready : goal.returns-clause-ready
returns-clause-ready c =
    let sources = links_of seen_of c.in_ok-sources.field-0.sources in
    let dests = links_of seen_of c.in_ok-sources.field-0.dests in
    let others = links_of seen_of c.new-2.result in
    let opened = opened_with c.push.new.self c.new-lanes.result c.new.result others c.in_ok-plan.plan c.args.jobs c.in_ok-core.core
    c.new-lanes.ensures c.in_ok-push.ensures.ok c.in_ok-core.ensures in
    subst IsReady (sym opened) (c.core_stays_ready.ensures.opens (c.new.result ∷ []) others c.in_ok-plan.plan c.args.jobs
    (opens_in c.args.regs sources dests c.new.result c.requires.eight c.in_ok-sources.ensures.dests c.new.ensures, tt)
    (plan_tries_in c.args.regs c.requires.eight c.index-view-0.result.content c.in_ok-plan.plan c.in_ok-plan.ensures)
    (subst IsSound opened c.is_sound.ensures) (omega arith)
    (plan_runs_in c.args.regs c.requires.eight c.index-view-0.result.content c.in_ok-plan.plan sources dests c.new.result
    c.in_ok-plan.ensures c.in_ok-sources.ensures.sources c.in_ok-sources.ensures.dests c.new.ensures))
