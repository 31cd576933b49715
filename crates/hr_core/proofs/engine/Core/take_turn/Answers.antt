use Rattle.hr_core.proofs.StateLemmas.{admissible}
use Rattle.hr_core.proofs.TurnLemmas.{goes_made}
use Rattle.hr_core.proofs.engine.Core.take_turn.Goals as goal

pub returns-clause-out : goal.returns-clause-out
returns-clause-out g c =
    goes_made _ c.args.self.now c.take-came.new.self c.take-came.result c.self.view_is c.take-came.ensures

pub returns-clause-turn : goal.returns-clause-turn
returns-clause-turn g c turn is =
    admissible c.args.self.now _ c.take-came.result turn c.core_stays_ready.ensures.cut c.requires.ready c.is_sound.ensures
    c.is_sound-2.ensures (goes_made _ c.args.self.now c.take-came.new.self c.take-came.result c.self.view_is c.take-came.ensures) is
