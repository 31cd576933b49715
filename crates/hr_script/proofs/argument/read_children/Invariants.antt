use Rattle.std.specs.Option.{option_copied}
use Rattle.hr_script.specs.Text.{length_left, words_left}
use Rattle.hr_script.specs.Word.{tag_in}
use Rattle.hr_script.proofs.MeaningLemmas.{Remains}
use Rattle.hr_script.proofs.argument.read_children.Given as goal

abbrev pub invariant-loop-left : goal.invariant-loop-left
invariant-loop-left l =
    Remains tag_in (words_left (option_copied l.words)) (words_left (option_copied l.left)) l.children

abbrev pub decreases-loop-left : goal.decreases-loop-left
decreases-loop-left l = length_left (option_copied l.left)
