-- The field lines with one name (RFC 9110, section 5.1).
use Rattle.std.specs.Prelude.{⊤, ◌≡◌, Bool, List, [], ◌∷◌, if◌then◌else◌, flat_map}
use Rattle.std.specs.Str.{str_eq_ignore_ascii_case}
use Rattle.hr_base.specs.Bytes.{Text}
use Rattle.hr_frame.specs.declared.head.Head.{Head}
use Rattle.hr_frame.specs.declared.named.Named.{Named}
use Rattle.hr_frame.specs.declared.named.Named.TheVariants.{Absent, One, Many}

-- whether the line has this name, in any case
abbrev pub is_named : Text → Head → Bool
is_named name head = str_eq_ignore_ascii_case head.name name

-- the line's value, where it has this name
abbrev pub named_value : Text → Head → List Text
named_value name head = if is_named name head then head.value ∷ [] else []

-- the values of the lines with this name, in their order
unfoldable pub values_named : Text → List Head → List Text
values_named name heads = flat_map (named_value name) heads

-- what was found is none, the one, or several values
abbrev pub IsNamed : List Text → Named → Type 0
IsNamed [] Absent = ⊤
IsNamed [] (One value) = ⊥
IsNamed [] Many = ⊥
IsNamed (value ∷ []) Absent = ⊥
IsNamed (value ∷ []) (One found) = found.now ≡ value
IsNamed (value ∷ []) Many = ⊥
IsNamed (value ∷ other ∷ values) Absent = ⊥
IsNamed (value ∷ other ∷ values) (One found) = ⊥
IsNamed (value ∷ other ∷ values) Many = ⊤
