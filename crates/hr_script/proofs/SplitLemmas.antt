-- What a text is cut into at a byte.
use Rattle.std.proofs.Common.{◌≡◌, ◌<◌, ℕ, Bool, true, false, cond, List, [], ◌∷◌, length, Option, Some, None, IsSome, Bor, option_copied, refl, sym, ap, ◌∙◌, arith}
use Rattle.std.specs.Prelude.{◌==◌}
use Rattle.std.specs.List.{join_with_byte, onto_first}
use Rattle.std.proofs.lemmas.List.Splits.{join_with_byte-slice_split}
use Rattle.std.proofs.lemmas.Bool.{false≢true}
use Rattle.hr_base.specs.Bytes.{Text}
use Rattle.hr_text.specs.Cutting.{split_at_byte}
use Rattle.hr_script.specs.Text.{lines_of, without_last_empty, words_left, words_of}

-- a text is cut into one piece at least
pub split_some : (c : ℕ) (s : Text) → (piece : Text) × (pieces : List Text) × (split_at_byte c s ≡ piece ∷ pieces)
split_some c [] = ([], [], refl)
split_some c (b ∷ bs) =
    let ih = split_some c bs in
    step (b == c) ih.0 ih.1 (split_at_byte c bs) ih.2
  where
    step : (t : Bool) (piece : Text) (pieces more : List Text) → more ≡ piece ∷ pieces → (first : Text) × (others : List Text) × (cond t ([] ∷ more) (onto_first b more) ≡ first ∷ others)
    step true piece pieces more e = ([], more, refl)
    step false piece pieces more e = (b ∷ piece, pieces, ap (onto_first b) e)

-- a line feed ends a line
pub lines_found : (s : Text) (line rest : Text) → split_at_byte 10 s ≡ line ∷ split_at_byte 10 rest
    → lines_of s ≡ line ∷ lines_of rest
lines_found s line rest split =
    let more = split_some 10 rest in
    ap without_last_empty split
    ∙ ap (λ (l : List Text). without_last_empty (line ∷ l)) more.2
    ∙ goes_on line more.0 more.1
    ∙ ap (λ (l : List Text). line ∷ without_last_empty l) (sym more.2)
  where
    goes_on : (line next : Text) (more : List Text) → without_last_empty (line ∷ next ∷ more) ≡ line ∷ without_last_empty (next ∷ more)
    goes_on [] next more = refl
    goes_on (b ∷ bs) next more = refl

-- a text without a line feed is one line, if there is a text
pub lines_none : (s : Text) → 0 < length s → split_at_byte 10 s ≡ s ∷ [] → lines_of s ≡ s ∷ []
lines_none [] some split = absurd (omega arith)
lines_none (b ∷ bs) some split = ap without_last_empty split

-- ---- words

-- a text is one word or more, which with single spaces between them are the text
pub record HasWords (text : Text) : Type 0 where
  pub first : Text
  pub others : List Text
  pub split : words_of text ≡ first ∷ others
  pub whole : join_with_byte 32 (first ∷ others) ≡ text

pub has_words : (text : Text) → HasWords text
has_words text =
    let some = split_some 32 text in
    record {
      first = some.0;
      others = some.1;
      split = some.2;
      whole = ap (join_with_byte 32) (sym some.2) ∙ join_with_byte-slice_split 32 text;
    }

-- some word is left
pub record IsWordLeft (left : Option (Bor (Text))) : Type 0 where
  pub first : Text
  pub others : List Text
  pub split : words_left (option_copied left) ≡ first ∷ others

pub word_left : (left : Option (Bor (Text))) → IsSome left → IsWordLeft left
word_left None some = absurd (false≢true some)
word_left (Some text) some =
    let has = has_words text.now in
    record { first = has.first; others = has.others; split = has.split }
