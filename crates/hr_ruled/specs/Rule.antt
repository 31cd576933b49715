-- The rule of a shared board: what holds of its words and of all its seats between any two atomic
-- steps, and what a step tells its seat. (Our own.)
use Rattle.std.specs.Prelude.{◌≡◌, ℕ, ◌+◌, ◌*◌, ◌≤◌, List, [], ◌∷◌, length, IsTrue, nat_eq, if◌then◌else◌, flat_map}
use Rattle.std.specs.List.{Contains}
use mathlib.Core.Option.{some}
use lib.ListN.{get_elem?}
use Rattle.atomic_table.specs.Table.{Step, Me}
use Rattle.hr_board.specs.Moves.{Below}
use Rattle.hr_board.specs.Past.{Past}
use Rattle.hr_board.specs.Plain.{IsLawful}
use Rattle.hr_board.specs.View.{Word, Noted}
use Rattle.hr_ruled.specs.Seats.{role_allows, plain_finals, past_of_seat, seat_saw, seat_moved}
use Rattle.hr_ruled.specs.declared.limit.TheConstants.{ALL_PARTS}
use Rattle.hr_ruled.specs.declared.rule.FinalMove.{FinalMove}
use Rattle.hr_ruled.specs.declared.rule.Role.TheVariants.{Reader}
use Rattle.hr_ruled.specs.declared.rule.SeatView.{SeatView}

-- what all seats together saw and did
abbrev pub together : List SeatView → Past
together seats = record {
  notes = flat_map (λ seat. seat.notes) seats;
  finals = flat_map (λ seat. plain_finals seat.finals) seats;
  opens = flat_map (λ seat. seat.opens) seats;
}

-- how many parts all seats together have
abbrev pub parts_of : List SeatView → ℕ
parts_of [] = 0
parts_of (seat ∷ seats) = seat.parts + parts_of seats

-- what holds of each seat: its own final moves were allowed, and without a part it may move nothing
-- and moved nothing
pub record IsSeat (seat : SeatView) : Type 0 where
  pub allowed : (final : FinalMove) → Contains seat.finals final
      → IsTrue (role_allows final.by final.word)
  pub role : seat.parts ≡ 0 → seat.role ≡ Reader
  pub finals : seat.parts ≡ 0 → seat.finals ≡ []
  pub opens : seat.parts ≡ 0 → seat.opens ≡ []

-- what holds between any two atomic steps of so many words and all seats that there ever were: what
-- the seats together saw and did agrees with the words as on a plain board, so that each final word
-- stands in just one seat's list of final moves
pub record IsRuled (count : ℕ) (words : List Word) (seats : List SeatView) : Type 0 where
  pub whole : length words ≡ count
  pub lawful : IsLawful words (together seats)
  pub parts : parts_of seats ≡ ALL_PARTS
  pub each : (id : ℕ) (seat : SeatView) → get_elem? seats id ≡ some seat → IsSeat seat

-- what the seat that has all parts knows of the words of so many jobs, at the end: all their moves
pub record IsClosed (jobs : ℕ) (words : List Word) (seat : SeatView) : Type 0 where
  -- four words for each job
  pub whole : length words ≡ 4 * jobs
  -- each final word stands once among the seat's final moves, and no other place does; so do the
  -- words that were opened among its opens
  pub lawful : IsLawful words (past_of_seat seat)
  -- each of these final moves was allowed to the role under which it was made
  pub allowed : IsSeat seat

-- the words of so many jobs, at the end, are those that some seat knows that has all parts
pub record HasClosed (jobs : ℕ) (words : List Word) : Type 0 where
  pub seat : SeatView
  pub closed : IsClosed jobs words seat

-- each earlier note of the step's seat at its place is below the word that it found
abbrev pub IsAbove : Step ℕ → Me ℕ SeatView → Word → Type 0
IsAbove step before found = (word : Word) → Noted before.0.notes step.word word → Below word found

-- what a look tells its seat: the word is that of a mark, above each earlier note, and noted
pub record LookTells (step : Step ℕ) (before : Me ℕ SeatView) (found : Word)
    (after : Me ℕ SeatView) : Type 0 where
  pub slots : after.1 ≡ before.1
  pub valid : found ≤ 6
  pub above : IsAbove step before found
  pub saw : after.0 ≡ seat_saw before.0 step.word found

-- what a move tells its seat: the word that it found is that of a mark, above each earlier note; it
-- moved that word where it is the one to be moved, and noted it where it is another
pub record MoveTells (step : Step ℕ) (before : Me ℕ SeatView) (found : Word)
    (after : Me ℕ SeatView) : Type 0 where
  pub slots : after.1 ≡ before.1
  pub valid : found ≤ 6
  pub above : IsAbove step before found
  pub noted : after.0 ≡ (if nat_eq found step.first
      then seat_moved before.0 step.word step.first step.second
      else seat_saw before.0 step.word found)
