-- The registries of a script as its setup lines leave them, and their opening. (Our own.)
use Rattle.std.specs.Prelude.{◌-◌, ℕ, List, [], ◌∷◌, ◌++◌, map, slice_get, slice_set, Option, option_map, unwrap_or}
use Rattle.std.specs.List.{AllByRecursion}
use Rattle.hr_adapter.specs.Content.{Content}
use Rattle.hr_adapter.specs.declared.plan.Change.{Change}
use Rattle.hr_adapter.specs.declared.plan.Planned.{Planned}
use Rattle.hr_memreg.specs.Mem.{Mem, new_mem, with_failing, with_moves}
use Rattle.hr_opening.specs.Stored.{IsPlain}
use Rattle.hr_opening.specs.declared.setup.RegSetup.{RegSetup}

-- registries before they are opened, from number 1 on
abbrev pub Setups : Type 0
Setups = List RegSetup

-- a registry that holds nothing, and for which nothing is planned
abbrev pub no_setup : RegSetup
no_setup = record { content = []; failing = []; moves = [] }

-- eight of them
abbrev pub no_setups : Setups
no_setups = no_setup ∷ no_setup ∷ no_setup ∷ no_setup ∷ no_setup ∷ no_setup ∷ no_setup ∷ no_setup ∷ []

-- the registry of this number, from 1
abbrev pub setup_in : Setups → ℕ → RegSetup
setup_in setups reg = unwrap_or (slice_get setups (reg - 1)) no_setup

-- the registries with that of this number changed, where the change can be made
abbrev pub with_setup : Setups → ℕ → (RegSetup → Option RegSetup) → Option Setups
with_setup setups reg change =
    option_map (λ setup. slice_set setups (reg - 1) setup) (change (setup_in setups reg))

-- a registry with its content changed
abbrev pub with_content : (Content → Content) → RegSetup → RegSetup
with_content change setup = record setup { content = change setup.content }

-- a registry with one operation more that fails
abbrev pub with_fault : Planned → RegSetup → RegSetup
with_fault planned setup = record setup { failing = setup.failing ++ planned ∷ [] }

-- a registry with one change more that is made just before an operation
abbrev pub with_change : Change → RegSetup → RegSetup
with_change change setup = record setup { moves = setup.moves ++ change ∷ [] }

-- the registry that is opened: it holds its content, was asked for nothing, and goes by its plan
abbrev pub registry_of : RegSetup → Mem
registry_of setup = with_moves setup.moves (with_failing setup.failing (new_mem setup.content))

-- all of them, in order
abbrev pub registries_of : Setups → List Mem
registries_of setups = map registry_of setups

-- in each of them every manifest can be listed by an index
abbrev pub ArePlain : Setups → Type 0
ArePlain setups = AllByRecursion (λ setup. IsPlain setup.content) setups
