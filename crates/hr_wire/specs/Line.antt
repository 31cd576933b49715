-- The field lines of requests and replies (RFC 9110, section 5).
use Rattle.std.specs.Prelude.{List, [], ◌∷◌, Option, Some, None}
use Rattle.hr_base.specs.Bytes.{Text}
use Rattle.hr_frame.specs.declared.head.Head.{Head}

-- the line of a name and a value
abbrev pub line : Text → Text → Head
line name value = record { name = name; value = value }

-- the value, where there is one alone
abbrev pub only : List Text → Option Text
only [] = None
only (value ∷ []) = Some value
only (value ∷ other ∷ values) = None
