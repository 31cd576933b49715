use Rattle.std.proofs.Common.{take}
use Rattle.hr_replay.proofs.RunLemmas.{one_done, through_runs}
use Rattle.hr_replay.proofs.events.take_events.Goals as goal

pub event-requires-clause-ready : goal.event-requires-clause-ready
event-requires-clause-ready c =
    c.core_stays_ready.ensures.runs c.args.core.now c.loop-event.core (take c.loop-event.event-index c.args.events.now) c.loop-event.told
    c.requires.ready c.is_sound.ensures
    (through_runs (take c.loop-event.event-index c.args.events.now) c.args.core.now c.loop-event.core c.loop-event.told c.loop-event.invariant)

pub loop-event-preserved : goal.loop-event-preserved
loop-event-preserved c =
    one_done c.args.core.now c.args.events.now c.loop-event.event-index _ c.loop-event.told c.push_all.new.told
    c.loop-event.core c.event.new.self c.in_ok-answers.answers c.loop-event-test.true
    c.loop-event.invariant c.in_ok-push_all.ensures.ok c.in_ok-answers.ensures c.is_sound-in-loop-event.ensures
