-- What the core does with one hook. (Our own.)
use Rattle.std.specs.Prelude.{ℕ, suc}
use Rattle.hr_event.specs.declared.told.Told.TheVariants as told
use Rattle.hr_event.specs.declared.view.Received.{Received}
use Rattle.hr_run.specs.Delivering.{Delivers}
use Rattle.hr_run.specs.State.{CoreState}

-- the hook at a place, from 0, was delivered, and this came of it
abbrev pub GivesHook : CoreState → ℕ → Received → CoreState → Type 0
GivesHook s place came t = Delivers s place (told.Heard (suc place) came) t
