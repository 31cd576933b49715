-- The words of causes in answers. (Our own.)
use Rattle.std.specs.Prelude.{◌∷◌, ◌++◌, codes}
use Rattle.std.specs.Fmt.{decimal}
use Rattle.hr_base.specs.Bytes.{Text}
use Rattle.hr_digest.specs.Digest.{text_of_digest}
use Rattle.hr_event.specs.declared.cause.Cause.{Cause}
use Rattle.hr_event.specs.declared.cause.Cause.TheVariants as cause
use Rattle.hr_event.specs.declared.reference.Reference.{Reference}
use Rattle.hr_event.specs.declared.reference.Reference.TheVariants as by

-- a name for one manifest: the tag, or the text of the digest
abbrev pub reference_text : Reference → Text
reference_text (by.Tag tag) = tag
reference_text (by.Digest digest) = text_of_digest digest

-- why a revision ended with an error: a word, and behind it what there is to tell, each behind a
-- space
abbrev pub cause_text : Cause → Text
cause_text (cause.Fault reg before after) =
    codes "fault " ++ decimal reg.0 ++ 32 ∷ decimal before ++ 32 ∷ decimal after
cause_text (cause.Differs asked got) =
    codes "differs " ++ text_of_digest asked ++ 32 ∷ text_of_digest got
cause_text (cause.SizeDiffers digest said got) =
    codes "size " ++ text_of_digest digest ++ 32 ∷ decimal said ++ 32 ∷ decimal got
cause_text (cause.Gone reference) = codes "gone " ++ reference_text reference
cause_text (cause.Unreadable digest) = codes "unreadable " ++ text_of_digest digest
cause_text (cause.TooDeep digest) = codes "deep " ++ text_of_digest digest
cause_text (cause.TooMany count) = codes "many " ++ decimal count
cause_text (cause.TooLong len) = codes "long " ++ decimal len
cause_text cause.Memory = codes "memory"
