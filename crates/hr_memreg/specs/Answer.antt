-- What a registry in memory answers by its content, once an operation found it. (Our own.)
use Rattle.std.specs.Prelude.{◌≡◌, ◌<◌, ◌≤◌, ⊤, List, length, Option, Some, IfSome, option_map, Result, Ok, Err}
use Rattle.hr_base.specs.declared.limit.TheConstants.{MANIFEST_LIMIT}
use Rattle.hr_event.specs.declared.reference.Fetched.{Fetched}
use Rattle.hr_adapter.specs.declared.fault.RegFault.{RegFault}
use Rattle.hr_adapter.specs.declared.fault.RegFault.TheVariants as why
use Rattle.hr_adapter.specs.declared.registry.TheConstants.{LIST_LIMIT}

-- a list, whole, or its length where that is above the limit
abbrev pub GivesList : {T : Type 0} → List T → Result (List T) RegFault → Type 0
GivesList all (Ok given) = (given ≡ all) × (length given ≤ LIST_LIMIT)
GivesList all (Err why.Failed) = ⊥
GivesList all (Err (why.TooLong len)) = (LIST_LIMIT < len) × (length all ≡ len)
GivesList all (Err why.Memory) = ⊤

-- the manifest that is there, or its length where that is above the limit
abbrev pub GivesManifest : Option Fetched → Result (Option Fetched) RegFault → Type 0
GivesManifest there (Ok given) =
    (given ≡ there) × IfSome given (λ m. length m.bytes ≤ MANIFEST_LIMIT)
GivesManifest there (Err why.Failed) = ⊥
GivesManifest there (Err (why.TooLong len)) =
    (MANIFEST_LIMIT < len) × (option_map (λ m. length m.bytes) there ≡ Some len)
GivesManifest there (Err why.Memory) = ⊤
