use Rattle.std.proofs.Common.{◌≡◌, vec_len}
use Rattle.hr_ruled.specs.declared.rule.Role.TheVariants.{Lane, Queue}
use Rattle.hr_ruled.proofs.tests.stress.run_each.Given as goal

abbrev pub invariant-loop-turn : goal.invariant-loop-turn
invariant-loop-turn g l =
    (l.queue.role ≡ Queue) × (l.queue.parts ≡ l.fn.queue.parts) × (l.lane.role ≡ Lane) × (l.lane.parts ≡ l.fn.lane.parts)
    × (vec_len l.opens ≡ 12000) × (vec_len l.ends ≡ 12000)
