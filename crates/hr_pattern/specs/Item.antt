-- What the items of an expanded form cover. (Our own.)
use Rattle.std.specs.Prelude.{◌≡◌, ⊤, ℕ, Bool, true, false, ◌==◌, List, [], ◌∷◌}
use Rattle.hr_base.specs.Bytes.{Text}
use Rattle.hr_pattern.specs.declared.item.Item.{Item}
use Rattle.hr_pattern.specs.declared.item.Item.TheVariants.{Byte, Any, One}
use Rattle.hr_pattern.specs.Covers.{CoversInOrder}

-- Whether an item covers any run of bytes.
abbrev pub is_any : Item → Bool
is_any Any = true
is_any One = false
is_any (Byte byte) = false

-- Whether an item is a plain byte `/`.
abbrev pub is_slash : Item → Bool
is_slash (Byte byte) = byte == 47
is_slash Any = false
is_slash One = false

-- A plain byte meets itself alone, and One meets every byte.
abbrev pub MeetsByte : Item → ℕ → Type 0
MeetsByte (Byte byte) other = other ≡ byte
MeetsByte One other = ⊤
MeetsByte Any other = ⊥

-- The items of one component cover the bytes of one component.
abbrev pub CoversBytes : List Item → Text → Type 0
CoversBytes = CoversInOrder is_any MeetsByte

-- Whether a component covers any number of components: it is `**` and no more.
abbrev pub is_any_path : List Item → Bool
is_any_path (Any ∷ Any ∷ []) = true
is_any_path items = false

-- The components of a form cover those of a text.
abbrev pub CoversPath : List (List Item) → List Text → Type 0
CoversPath = CoversInOrder is_any_path CoversBytes
