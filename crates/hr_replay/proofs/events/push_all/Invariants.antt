use Rattle.std.proofs.Common.{◌≡◌, ◌++◌}
use Rattle.std.specs.Vec.Iter.{into_iter_items}
use Rattle.hr_replay.proofs.events.push_all.Given as goal

abbrev pub invariant-loop-answer : goal.invariant-loop-answer
invariant-loop-answer l = l.told ++ into_iter_items l.answer-iterator ≡ l.initial.told ++ l.fn.answers
