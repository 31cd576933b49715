-- What contracts see of the seats of a shared board. (Our own.)
use Rattle.std.specs.Prelude.{ℕ, ◌+◌, ◌-◌, nat_eq, nat_le, Bool, false, ◌||◌, if◌then◌else◌, List, [], ◌∷◌, ◌++◌, map, None}
use Rattle.atomic_table.specs.Seated.{TableId}
use Rattle.hr_base.specs.declared.status.Status.{Status}
use Rattle.hr_base.specs.declared.status.Status.TheVariants.{Pending, Scheduled, Running, Stopped, Error, Success}
use Rattle.hr_base.specs.declared.status.Mark.TheVariants.{At}
use Rattle.hr_base.specs.Status.{word_of}
use Rattle.hr_board.specs.Past.{Past}
use Rattle.hr_board.specs.View.{View, Place, Word, Notes, opens_with}
use Rattle.hr_ruled.specs.declared.limit.TheConstants.{ALL_PARTS}
use Rattle.hr_ruled.specs.declared.rule.FinalMove.{FinalMove}
use Rattle.hr_ruled.specs.declared.rule.Role.{Role}
use Rattle.hr_ruled.specs.declared.rule.Role.TheVariants.{Lane, Queue, Control, Reader}
use Rattle.hr_ruled.specs.declared.rule.SeatView.{SeatView}

-- a board that has no name yet: the table of its words, and how many jobs it has
pub record Opened : Type 0 where
  pub table : TableId
  pub jobs : ℕ

-- the name of no board
abbrev pub no_table : TableId
no_table = record {
  words = 0;
  slots = 0;
  views_name = 0;
  atom = 0;
  block = 0;
  offset = 0;
  slot_names = [];
}

-- the word is that of this status
abbrev pub is_at : Word → Status → Bool
is_at word status = nat_eq word (word_of (At status))

-- a role allows the moves to a word
abbrev pub role_allows : Role → Word → Bool
role_allows Lane word = is_at word Running || (is_at word Error || is_at word Success)
role_allows Queue word = is_at word Pending || is_at word Scheduled
role_allows Control word = is_at word Stopped
role_allows Reader word = false

-- how many parts a seat of a role takes when it is split off
abbrev pub part_of_role : Role → ℕ
part_of_role Lane = 1
part_of_role Queue = 1
part_of_role Control = 1
part_of_role Reader = 0

-- own final moves as a board has them: each with its place and word
abbrev pub plain_finals : List FinalMove → Notes
plain_finals finals = map (λ final. (final.place, final.word)) finals

-- what a seat saw and did
abbrev pub past_of_seat : SeatView → Past
past_of_seat seat = record {
  notes = seat.notes;
  finals = plain_finals seat.finals;
  opens = seat.opens;
}

-- a seat at a board of so many jobs, as a board: it allows its role's moves, and tells no words
abbrev pub view_of_seat : ℕ → SeatView → View
view_of_seat jobs seat = record {
  jobs = jobs;
  allows = role_allows seat.role;
  words = None;
  notes = seat.notes;
  finals = plain_finals seat.finals;
  opens = seat.opens;
}

-- the first seat of a board: a reader that has all parts, and saw and did nothing
abbrev pub first_seat : SeatView
first_seat = record { role = Reader; parts = ALL_PARTS; notes = []; finals = []; opens = [] }

-- a seat that was joined to another: it has nothing any more
abbrev pub spent_seat : SeatView
spent_seat = record { role = Reader; parts = 0; notes = []; finals = []; opens = [] }

-- a seat after another of this role was split off it
abbrev pub seat_left : SeatView → Role → SeatView
seat_left seat role = record seat { parts = seat.parts - part_of_role role }

-- a seat of this role that was split off another: it knows what that one saw, and did nothing
abbrev pub seat_given : SeatView → Role → SeatView
seat_given seat role = record {
  role = role;
  parts = part_of_role role;
  notes = seat.notes;
  finals = [];
  opens = [];
}

-- a seat after another was joined to it: it has the parts of both, and knows what both saw and did
abbrev pub seats_joined : SeatView → SeatView → SeatView
seats_joined into seat = record into {
  parts = into.parts + seat.parts;
  notes = into.notes ++ seat.notes;
  finals = into.finals ++ seat.finals;
  opens = into.opens ++ seat.opens;
}

-- a seat after it saw this word at this place
abbrev pub seat_saw : SeatView → Place → Word → SeatView
seat_saw seat place word = record seat { notes = seat.notes ++ (place, word) ∷ [] }

-- own final moves of a role, with a move to this word at this place
abbrev pub final_moves_with : Role → List FinalMove → Place → Word → List FinalMove
final_moves_with role finals place to =
    if nat_le 4 to then finals ++ record { place = place; word = to; by = role } ∷ [] else finals

-- a seat after it moved the word at this place from one to another
abbrev pub seat_moved : SeatView → Place → Word → Word → SeatView
seat_moved seat place from to = record seat {
  notes = seat.notes ++ (place, to) ∷ [];
  finals = final_moves_with seat.role seat.finals place to;
  opens = opens_with seat.opens place from to;
}
