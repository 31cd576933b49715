use Rattle.std.proofs.Common.{arith}
use Rattle.hr_lane.proofs.ConnLemmas.{all_sound}
use Rattle.hr_lane.proofs.conn.are_sound.Goals as goal

pub returns : goal.returns
returns g c = all_sound g.A.Registry.seen c.args.conns.now
    (λ k d within. c.loop-at.invariant k d (let past = c.loop-at-test.false in omega (arith, within, past)))
