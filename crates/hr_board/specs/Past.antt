-- What a board saw and did, which contracts alone see. (Our own.)
use Rattle.std.specs.Prelude.{List, [], ◌∷◌, ◌++◌}
use Rattle.hr_board.specs.View.{Place, Notes, finals_with, opens_with}
use Rattle.hr_board.specs.declared.trail.Note.{Note}
use Rattle.hr_board.specs.declared.trail.Note.TheVariants.{Saw, Moved}

-- the notes, own final moves and opens of a board, each in order
pub record Past : Type 0 where
  pub notes : Notes
  pub finals : Notes
  pub opens : List Place

-- the past of a board that saw and did nothing
abbrev pub no_past : Past
no_past = record { notes = []; finals = []; opens = [] }

-- a past with one thing more that the board saw or did
abbrev pub with_note : Past → Note → Past
with_note past (Saw place word) = record past { notes = past.notes ++ (place, word) ∷ [] }
with_note past (Moved place from to) = record {
  notes = past.notes ++ (place, to) ∷ [];
  finals = finals_with past.finals place to;
  opens = opens_with past.opens place from to;
}

-- a past with these things more, one after the other
abbrev pub past_after : Past → List Note → Past
past_after past [] = past
past_after past (note ∷ notes) = past_after (with_note past note) notes

-- the past of a board that saw and did these things, the oldest first
abbrev pub past_of : List Note → Past
past_of notes = past_after no_past notes
