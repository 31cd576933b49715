-- What the bytes of a name that were read so far leave open. (Our own.)
use Rattle.std.specs.Prelude.{◌↔◌, ◌==◌, if◌then◌else◌, ℕ, Bool, true, false, [], ◌∷◌, ◌++◌, codes, Option, Some, None, option_and_then}
use Rattle.hr_base.specs.Bytes.{Text}
use Rattle.hr_name.specs.Alphabet.{stands_in_run}
use Rattle.hr_name.specs.declared.place.Place.{Place}
use Rattle.hr_name.specs.declared.place.Place.TheVariants.{Start, Run, Dot, Underscore, Underscores, Dashes}
use Rattle.hr_name.specs.Front.{BeginsNone}
use Rattle.hr_name.specs.Name.{IsName}

-- two fronts of which the same continuations make a name
abbrev pub Alike : Text → Text → Type 0
Alike front other = (more : Text) → IsName (front ++ more) ↔ IsName (other ++ more)

-- a front whose reading stands at this place
abbrev pub front_of : Place → Text
front_of Start = []
front_of Run = codes "a"
front_of Dot = codes "a."
front_of Underscore = codes "a_"
front_of Underscores = codes "a__"
front_of Dashes = codes "a-"

-- the place is where one byte more leads, or no name goes on with that byte
abbrev pub Moves : Place → ℕ → Option Place → Type 0
Moves place byte (Some next) = Alike (front_of place ++ byte ∷ []) (front_of next)
Moves place byte None = BeginsNone IsName (front_of place ++ byte ∷ [])

-- the place behind a byte that doesn't stand in runs
abbrev pub behind : Place → ℕ → Option Place
behind Start byte = None
behind Run byte =
    if byte == 46 then Some Dot else
    if byte == 95 then Some Underscore else
    if byte == 45 then Some Dashes else
    if byte == 47 then Some Start else None
behind Dot byte = None
behind Underscore byte = if byte == 95 then Some Underscores else None
behind Underscores byte = None
behind Dashes byte = if byte == 45 then Some Dashes else None

-- the place behind a byte
unfoldable pub step : Place → ℕ → Option Place
step place byte = if stands_in_run byte then Some Run else behind place byte

-- the place behind a text
unfoldable pub reach : Place → Text → Option Place
reach place [] = Some place
reach place (byte ∷ text) = option_and_then (λ next. reach next text) (step place byte)

-- whether a name may end at the place
abbrev pub is_end : Option Place → Bool
is_end None = false
is_end (Some Start) = false
is_end (Some Run) = true
is_end (Some Dot) = false
is_end (Some Underscore) = false
is_end (Some Underscores) = false
is_end (Some Dashes) = false

-- whether a text of any length is a name: the grammar as a test that computes
abbrev pub is_name : Text → Bool
is_name text = is_end (reach Start text)
