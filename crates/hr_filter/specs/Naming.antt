-- The names under which repositories go to a destination. (Our own, after Harbor's flattening.)
use Rattle.std.specs.Prelude.{◌-◌, ℕ, ℤ, pos, negsuc, min, List, ◌∷◌, ◌++◌, length, drop, Option, Some, None}
use Rattle.std.specs.List.{join_with_byte}
use Rattle.hr_base.specs.Bytes.{Text}
use Rattle.hr_name.specs.Name.{RepoName}
use Rattle.hr_pattern.specs.Component.{components}

-- the components without so many leading ones, but with the last
abbrev pub behind_leading : ℕ → List Text → List Text
behind_leading count parts = drop (min count (length parts - 1)) parts

-- the components that a count leaves: below 0 the last alone, else those behind so many leading
-- ones, but with the last
abbrev pub left_by : ℤ → List Text → List Text
left_by (pos count) parts = behind_leading count parts
left_by (negsuc count) parts = drop (length parts - 1) parts

-- the name of a repository at the destination: without a namespace its own, else the namespace,
-- `/` and what the count leaves of its components
abbrev pub destination_of : Option RepoName → ℤ → RepoName → RepoName
destination_of None count name = name
destination_of (Some namespace) count name =
    namespace ++ 47 ∷ join_with_byte 47 (left_by count (components name))
