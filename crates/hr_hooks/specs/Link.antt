-- What a link was handed, where it tells. (Our own.)
use Rattle.std.specs.Prelude.{◌≡◌, ⊤, List, ◌++◌, Option, Some, None}
use Rattle.hr_base.specs.declared.status.Hook.{Hook}

-- where the link tells what it was handed, these hooks went to its end
abbrev pub Delivers : Option (List Hook) → List Hook → Option (List Hook) → Type 0
Delivers (Some before) hooks (Some now) = now ≡ before ++ hooks
Delivers None hooks None = ⊤
Delivers (Some before) hooks None = ⊥
Delivers None hooks (Some now) = ⊥
