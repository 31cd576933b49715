-- The plain board: what contracts see of it, and what holds of it at every moment. (Our own.)
use Rattle.std.specs.Prelude.{◌≡◌, ◌≢◌, ℕ, ◌+◌, ◌*◌, ◌/◌, ◌^◌, ◌<◌, ◌≤◌, ◌==◌, true, List, replicate, length, slice_index, Some}
use Rattle.std.specs.List.{count_by}
use Rattle.hr_board.specs.Moves.{Below}
use Rattle.hr_board.specs.Past.{Past, no_past}
use Rattle.hr_board.specs.View.{View, Place, Word, place_of, Noted}

-- its words, by place, and what it saw and did
pub record Plain : Type 0 where
  pub words : List Word
  pub past : Past

-- the plain board as a board: it tells its words, and allows every move
abbrev pub view_of : Plain → View
view_of board = record {
  jobs = length board.words / 4;
  allows = λ _. true;
  words = Some board.words;
  notes = board.past.notes;
  finals = board.past.finals;
  opens = board.past.opens;
}

-- the plain board of so many jobs before anything is done
abbrev pub new_board : ℕ → Plain
new_board jobs = record { words = replicate (4 * jobs) 0; past = no_past }

-- a place stands so often among own final moves, by its word
abbrev pub IsEnded : Word → ℕ → Type 0
IsEnded word times = (word < 4 → times ≡ 0) × (4 ≤ word → times ≡ 1)

-- a place stands so often among opens, by its word: a stopped one may have been opened or not
abbrev pub IsOpened : Word → ℕ → Type 0
IsOpened word times = (times ≤ 1) × (word ≡ 0 → times ≡ 0) × (word ≢ 0 → word ≢ 4 → times ≡ 1)

-- what holds of the words, notes, own final moves and opens at every moment
pub record IsLawful (words : List Word) (past : Past) : Type 0 where
  -- its jobs are numbered in 32 bits
  pub jobs_fit : length words / 4 < 2 ^ 32
  -- each word is that of a mark
  pub valid_word : (place : Place) → slice_index words place ≤ 6
  -- a later revision that is open has Error before it
  pub opened_after_error : (job rev : ℕ) → rev < 3
      → slice_index words (place_of job (rev + 1)) ≢ 0 → slice_index words (place_of job rev) ≡ 5
  -- the word is reached from each note of it, so that a final note is the word
  pub notes_below : (place : Place) (word : Word) → Noted past.notes place word
      → Below word (slice_index words place)
  -- each own final move is to a final word, and is the word
  pub final_moves : (place : Place) (word : Word) → Noted past.finals place word
      → (4 ≤ word) × (slice_index words place ≡ word)
  -- each final word stands once among the own final moves, and no other place does
  pub finals_once : (place : Place)
      → IsEnded (slice_index words place) (count_by (λ note. note.0 == place) past.finals)
  -- each word that is open stands once among the opens, and none that is Unopened
  pub opens_once : (place : Place)
      → IsOpened (slice_index words place) (count_by (λ opened. opened == place) past.opens)
