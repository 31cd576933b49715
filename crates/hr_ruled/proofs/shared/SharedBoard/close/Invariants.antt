use Rattle.std.proofs.Common.{◌≡◌, ◌≤◌, take, vec_len}
use Rattle.std.specs.Prelude.{vec_capacity}
use Rattle.std.specs.Mem.Slots.{slots_items}
use Rattle.hr_ruled.proofs.shared.SharedBoard.close.Given as goal

abbrev pub invariant-loop-at : goal.invariant-loop-at
invariant-loop-at g l = (l.words.items ≡ take l.at (slots_items l.closed.words)) × (vec_len l.words ≡ l.at) × (l.count ≤ vec_capacity l.words)
