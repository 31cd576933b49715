-- What was copied so far.
use Rattle.std.proofs.Common.{◌≡◌, take}
use Rattle.hr_filter.proofs.copying.copy_texts.Given as goal

abbrev pub invariant-loop-text : goal.invariant-loop-text
invariant-loop-text l = l.made ≡ take l.text-index l.texts
