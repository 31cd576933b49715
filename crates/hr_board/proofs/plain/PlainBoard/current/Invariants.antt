use Rattle.hr_board.specs.Current.{IsCurrent}
use Rattle.hr_board.proofs.plain.PlainBoard.current.Given as goal

abbrev pub invariant-loop-rev : goal.invariant-loop-rev
invariant-loop-rev l = IsCurrent l.self-inside.words.items l.fn.job.0 l.rev l.row
