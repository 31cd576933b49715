use Rattle.std.proofs.Common.{refl}
use Rattle.hr_queue.specs.declared.answer.Taken.TheVariants as taken
use Rattle.hr_core.proofs.RoundLemmas.{begins_made}
use Rattle.hr_core.proofs.engine.Core.begin.Goals as goal

pub returns-clause-ok : goal.returns-clause-ok
returns-clause-ok g c =
    begins_made c.args.self.now c.take_turn-came.new.self c.admit.new.self (taken.Turn c.in-Turn.turn) c.in-Turn.turn
    c.in_ok-admit.field-0 c.core_stays_ready.ensures.does c.requires.ready c.is_sound.ensures c.take_turn-came.ensures.sound
    c.is_sound-2.ensures refl c.in-Turn.ensures.out (c.in-Turn.ensures.turn c.in-Turn.turn refl).out c.in_ok-admit.ensures.ok
