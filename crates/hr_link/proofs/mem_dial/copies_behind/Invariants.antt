-- So many bytes were copied as the loop has passed.
use Rattle.std.proofs.Common.{◌≡◌, take, drop}
use Rattle.hr_link.proofs.mem_dial.copies_behind.Given as goal

abbrev pub invariant-loop-reply : goal.invariant-loop-reply
invariant-loop-reply l = l.made ≡ take l.reply-index (drop l.fn.at l.fn.replies)
