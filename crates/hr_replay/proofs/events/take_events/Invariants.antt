use Rattle.hr_replay.proofs.RunLemmas.{Done}
use Rattle.hr_replay.proofs.events.take_events.Given as goal

abbrev pub invariant-loop-event : goal.invariant-loop-event
invariant-loop-event l = Done l.initial.core l.events l.event-index l.told l.core
