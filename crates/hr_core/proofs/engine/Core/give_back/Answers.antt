use Rattle.hr_core.proofs.RoundLemmas.{gives_back, turn_fits}
use Rattle.hr_core.proofs.engine.Core.give_back.Goals as goal

pub settle-requires-clause-job : goal.settle-requires-clause-job
settle-requires-clause-job g c = turn_fits _ c.args.self.now c.args.turn c.self.view_is c.requires.ready c.requires.out

pub returns : goal.returns
returns g c =
    gives_back _ c.args.self.now c.args.turn c.settle.new.self c.settle.new.board c.settle.result c.self.view_is
    c.requires.ready c.requires.out c.requires.none c.settle.ensures.settles
