use Rattle.std.proofs.Common.{◌≡◌, ◌++◌, take}
use Rattle.hr_http1.specs.Written.{print_lines}
use Rattle.hr_http1.proofs.writing.put_lines.Given as goal

-- the lines so far are behind the text
abbrev pub invariant-loop-head : goal.invariant-loop-head
invariant-loop-head l = l.text.items ≡ l.initial.text.items ++ print_lines (take l.head-index l.heads)
