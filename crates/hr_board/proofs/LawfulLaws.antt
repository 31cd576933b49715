-- Laws of what holds of a board at every moment: a look keeps it, and a move does. They are for
-- boards whose words and past lie elsewhere than with a plain board.
use Rattle.std.proofs.Common.{◌≡◌, ℕ, ◌-◌, ◌<◌, ◌≤◌, List, length, get_or, set, refl, length-set}
use Rattle.hr_base.specs.declared.status.Mark.{Mark}
use Rattle.hr_base.specs.Status.{word_of}
use Rattle.hr_board.specs.Moves.{IsMove}
use Rattle.hr_board.specs.Past.{Past, with_note}
use Rattle.hr_board.specs.Plain.{IsLawful}
use Rattle.hr_board.specs.View.{Place, Word, place_of, Noted}
use Rattle.hr_board.specs.declared.trail.Note.TheVariants.{Saw, Moved}
use Rattle.hr_board.proofs.MovesLemmas.{steps-move}
use Rattle.hr_board.proofs.PlainLemmas.{lawful-saw, lawful-moved, moves-set}

-- a look keeps the law, where it notes the word that stands there
pub look-lawful : (words : List Word) (past : Past) (place : Place) → IsLawful words past
    → IsLawful words (with_note past (Saw place (get_or words place 0)))
look-lawful words past place lawful = lawful-saw words past place (get_or words place 0) lawful refl

-- a move keeps the law, where the word is the one that it moves from, and where a later revision is
-- opened only after a note that the one before it is at Error
pub move-lawful : (words : List Word) (past : Past) (job rev : ℕ) (from to : Mark) → IsLawful words past
    → place_of job rev < length words → rev ≤ 3 → IsMove from to
    → get_or words (place_of job rev) 0 ≡ word_of from
    → (word_of from ≡ 0 → 1 ≤ rev → Noted past.notes (place_of job (rev - 1)) 5)
    → IsLawful (set words (place_of job rev) (word_of to))
    (with_note past (Moved (place_of job rev) (word_of from) (word_of to)))
move-lawful words past job rev from to lawful within few moves is opens =
    lawful-moved words (set words (place_of job rev) (word_of to)) past job rev (word_of from) (word_of to) lawful
    (moves-set words (place_of job rev) (word_of to) within) (length-set _ _ _) (steps-move from to moves) few is opens
