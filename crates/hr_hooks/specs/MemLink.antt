-- A link in memory, and what one delivery by it does. (Our own.)
use Rattle.std.specs.Prelude.{◌≡◌, ℕ, List, [], ◌∷◌, ◌++◌, Contains, Result, Ok, Err}
use Rattle.hr_base.specs.declared.status.Hook.{Hook}
use Rattle.hr_cause.specs.Calls.{counted}
use Rattle.hr_event.specs.declared.view.Received.{Received}
use Rattle.hr_event.specs.declared.view.Received.TheVariants.{Raised}
use Rattle.hr_hooks.specs.declared.link.LinkFault.{LinkFault}

-- the hooks that it was handed, the numbers of the calls that fail, how many calls there were, and how
-- many faults
pub record LinkState : Type 0 where
  pub taken : List Hook
  pub failing : List ℕ
  pub calls : ℕ
  pub faults : ℕ

-- a delivery that doesn't fail
pub record TakesHook (before : LinkState) (hook : Hook) (answer : Received) (now : LinkState)
    : Type 0 where
  pub unplanned : ¬ Contains before.failing (counted before.calls)
  pub answer_is : answer ≡ Raised
  pub after : now ≡ record before { taken = before.taken ++ hook ∷ []; calls = counted before.calls }

-- one delivery: it fails by the list, or for want of memory, which no contract can rule out
abbrev pub DeliversTo : LinkState → Hook → Result Received LinkFault → LinkState → Type 0
DeliversTo before hook (Ok answer) now = TakesHook before hook answer now
DeliversTo before hook (Err fault) now =
    now ≡ record before { calls = counted before.calls; faults = counted before.faults }
