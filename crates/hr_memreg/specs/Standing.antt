-- What stands in a registry in memory, and how an operation begins. (Our own.)
use Rattle.std.specs.Prelude.{◌≡◌, ℕ, List, take, Bool, true, false, Result, Ok, Err}
use Rattle.hr_base.specs.declared.memory.Memory.{Memory}
use Rattle.hr_adapter.specs.Content.{Content}
use Rattle.hr_adapter.specs.Plan.{fails_at, lands_at, moved_at}
use Rattle.hr_adapter.specs.declared.plan.Change.{Change}
use Rattle.hr_adapter.specs.declared.plan.Planned.{Planned}
use Rattle.hr_memreg.specs.Shown.{number_after}
use Rattle.hr_memreg.specs.declared.standing.Standing.{Standing}
use Rattle.hr_memreg.specs.declared.standing.Fate.{Fate}
use Rattle.hr_memreg.specs.declared.standing.Fate.TheVariants.{Done, Lost, Landed}

-- the changes of operation n are made; without memory for all of them, a front of them
abbrev pub MakesChanges : ℕ → List Change → Content → Content → Result Unit Memory → Type 0
MakesChanges n moves before after (Ok done) = after ≡ moved_at n moves before
MakesChanges n moves before after (Err memory) =
    (k : ℕ) × (after ≡ moved_at n (take k moves) before)

-- an operation begins: its changes are made, and it is counted, whether there is memory for them or
-- not
abbrev pub GoesOn : Standing → Standing → Result Unit Memory → Type 0
GoesOn before after result =
    MakesChanges (number_after before.operations) before.moves before.held after.held result
    × (after ≡ record before { held = after.held; operations = number_after before.operations })

-- what becomes of an operation that fails or not, and takes effect all the same or not
abbrev pub fate_of : Bool → Bool → Fate
fate_of false lands = Done
fate_of true false = Lost
fate_of true true = Landed

-- what becomes of operation n
abbrev pub fate_at : ℕ → List Planned → Fate
fate_at n failing = fate_of (fails_at n failing) (lands_at n failing)
