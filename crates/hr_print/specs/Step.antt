-- The words of what a step did. (Our own.)
use Rattle.std.specs.Prelude.{◌≢◌, ⊤, ℕ, [], ◌∷◌, ◌++◌, codes, Option, Some, None}
use Rattle.std.specs.Fmt.{decimal}
use Rattle.hr_base.specs.Bytes.{Text}
use Rattle.hr_digest.specs.Digest.{text_of_digest}
use Rattle.hr_digest.specs.declared.digest.Digest.{Digest}
use Rattle.hr_event.specs.declared.entry.How.{How}
use Rattle.hr_event.specs.declared.entry.How.TheVariants.{Put, Unsure, Same, Kept}
use Rattle.hr_event.specs.declared.entry.What.{What}
use Rattle.hr_event.specs.declared.entry.What.TheVariants as step

-- what a tag names at the destination, where it names something
abbrev pub found_text : Option Digest → Text
found_text None = codes "none"
found_text (Some digest) = text_of_digest digest

-- the length of a blob in bytes, where it is there
abbrev pub len_text : Option ℕ → Text
len_text None = codes "none"
len_text (Some len) = decimal len

-- how a tag came to show what it shows; of a put that failed the cause is told, and not this
abbrev pub how_text : How → Text
how_text Put = codes "put"
how_text Same = codes "same"
how_text Kept = codes "kept"
how_text Unsure = []

-- the entries by which a step is told. The begin of a revision and its end have answers of their
-- own; a put blob is told by the read of that blob; a tag whose put failed, and a revision that was
-- given up, are told by what ended them.
abbrev pub TellsStep : What → Type 0
TellsStep step.Began = ⊥
TellsStep (step.PutBlob digest sure) = ⊥
TellsStep (step.Show tag digest old how) = how ≢ Unsure
TellsStep (step.Ended status cause) = ⊥
TellsStep step.Dropped = ⊥
TellsStep _ = ⊤

-- what a step did, by the entry that tells it; nothing for an entry that tells no step
abbrev pub step_text : What → Text
step_text (step.ReadTag tag media bytes) = codes "read-tag " ++ tag
step_text (step.Looked tag found) = codes "looked " ++ tag ++ 32 ∷ found_text found
step_text (step.ReadChild digest media bytes) = codes "read-child " ++ text_of_digest digest
step_text (step.HasBlob digest len) =
    codes "has-blob " ++ text_of_digest digest ++ 32 ∷ len_text len
step_text (step.GotBlob digest len) = codes "copied " ++ text_of_digest digest ++ 32 ∷ decimal len
step_text (step.PutChild digest sure) = codes "put-child " ++ text_of_digest digest
step_text (step.Show tag digest old how) = codes "shown " ++ tag ++ 32 ∷ how_text how
step_text _ = []
