-- A field line as a name and a value (RFC 9112, section 5).
use Rattle.hr_base.specs.Bytes.{Text}
use Rattle.hr_frame.specs.declared.head.Head.{Head}

-- its name, and its value without the blanks at its ends
abbrev pub pair_of : Head → Text × Text
pair_of head = (head.name, head.value)
