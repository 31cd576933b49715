-- Lemmas on the words of specs/Past.antt.
use Rattle.std.proofs.Common.{◌≡◌, List, [], ◌∷◌, ◌++◌, refl, ap, ◌∙◌}
use Rattle.hr_board.specs.Past.{Past, no_past, with_note, past_after, past_of}
use Rattle.hr_board.specs.declared.trail.Note.{Note}

past_after-push : (past : Past) (notes : List Note) (note : Note)
    → past_after past (notes ++ note ∷ []) ≡ with_note (past_after past notes) note
past_after-push past [] note = refl
past_after-push past (n ∷ notes) note = past_after-push (with_note past n) notes note

-- what was seen and done, and one thing more at its end
pub past_of-push : (notes after : List Note) (note : Note) → after ≡ notes ++ note ∷ []
    → past_of after ≡ with_note (past_of notes) note
past_of-push notes after note is = ap past_of is ∙ past_after-push no_past notes note
