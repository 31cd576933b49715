-- What contracts see of a board of status words. (Our own.)
use Rattle.std.specs.Prelude.{◌≡◌, ℕ, ◌+◌, ◌-◌, ◌*◌, ◌≤◌, nat_eq, nat_le, Bool, ◌&&◌, if◌then◌else◌, List, [], ◌∷◌, ◌++◌, slice_index, slice_set, Option, IfSome}
use Rattle.std.specs.List.{Contains}
use Rattle.std.specs.Option.{option_map}
use Rattle.hr_base.specs.declared.status.Status.TheVariants.{Error}
use Rattle.hr_base.specs.declared.status.Mark.TheVariants.{Unopened, At}
use Rattle.hr_base.specs.Status.{word_of}
use Rattle.hr_board.specs.Moves.{Below}

-- where a word stands on a board, from 0: four places in a row for each job
abbrev pub Place : Type 0
Place = ℕ

-- a status word, a number from 0 to 6, which is that of a mark: the final ones are those from 4 on
abbrev pub Word : Type 0
Word = ℕ

-- places, each with the word that was seen or written there, in order
abbrev pub Notes : Type 0
Notes = List (Place × Word)

-- what contracts see of a board
pub record View : Type 0 where
  -- its jobs are those from 1 to this number
  pub jobs : ℕ
  -- it allows the moves to a word
  pub allows : Word → Bool
  -- its words, by place, where it tells them: other boards are shared, and know what they noted
  pub words : Option (List Word)
  -- each place and word that it saw, in order
  pub notes : Notes
  -- each place that it moved itself to a final word, with that word, in order
  pub finals : Notes
  -- each place that it moved itself from Unopened to Pending or Scheduled, in order
  pub opens : List Place

-- the place of a revision, 0 to 3, of a job
abbrev pub place_of : ℕ → ℕ → Place
place_of job rev = 4 * (job - 1) + rev

-- it saw this word at this place
abbrev pub Noted : Notes → Place → Word → Type 0
Noted notes place word = Contains notes (place, word)

-- the board may find this word at this place: it is the word there, where the board tells it, and
-- is reached from each that it noted there before
pub record Finds (view : View) (place : Place) (word : Word) : Type 0 where
  pub told : IfSome view.words (λ words. slice_index words place ≡ word)
  pub above : (m : Word) → Noted view.notes place m → Below m word

-- the board after it noted these places and words
abbrev pub noting : View → Notes → View
noting view more = record view { notes = view.notes ++ more }

-- own final moves, with a move to this word at this place
abbrev pub finals_with : Notes → Place → Word → Notes
finals_with finals place to = if nat_le 4 to then finals ++ (place, to) ∷ [] else finals

-- own opens, with a move from one word to another at this place
abbrev pub opens_with : List Place → Place → Word → Word → List Place
opens_with opens place from to = if nat_le to 2 && nat_eq from 0 then opens ++ place ∷ [] else opens

-- the board after its own move
abbrev pub moving : View → Place → Word → Word → View
moving view place from to = record view {
  words = option_map (λ words. slice_set words place to) view.words;
  notes = view.notes ++ (place, to) ∷ [];
  finals = finals_with view.finals place to;
  opens = opens_with view.opens place from to;
}

-- the board after any call: it has the same jobs and the same leave, and its notes are those before
-- and more
pub record Keeps (before after : View) : Type 0 where
  pub jobs : after.jobs ≡ before.jobs
  pub allows : after.allows ≡ before.allows
  pub more : Notes
  pub notes : after.notes ≡ before.notes ++ more

-- a later revision is opened only after a note that the one before it is at Error
abbrev pub OpensAfterError : View → ℕ → ℕ → Word → Type 0
OpensAfterError view job rev from =
    from ≡ word_of Unopened → 1 ≤ rev
    → Noted view.notes (place_of job (rev - 1)) (word_of (At Error))
