-- What was printed so far.
use Rattle.std.proofs.Common.{◌≡◌, take}
use Rattle.hr_print.specs.Text.{texts_of}
use Rattle.hr_print.proofs.answer.print_all.Given as goal

abbrev pub invariant-loop-answer : goal.invariant-loop-answer
invariant-loop-answer l = l.text.items ≡ texts_of (take l.answer-index l.told)
