use Rattle.hr_route.proofs.PathLemmas.{split_at}
use Rattle.hr_route.proofs.path.last_slash.Goals as goal

pub returns-then-bytes-at-eq47 : goal.returns-then-bytes-at-eq47
returns-then-bytes-at-eq47 c = split_at c.args.bytes.now c.loop-at.at c.loop-at-test.true c.loop-at.invariant.within c.if-bytes-at-eq47.true c.loop-at.invariant.none
