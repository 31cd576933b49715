-- The lines of a text that were read so far.
use Rattle.std.proofs.Common.{◌≡◌, ◌+◌, ℕ, List, [], ◌∷◌, ◌++◌, length, Some, None, Ok, Err, refl, sym, subst, append_assoc, arith}
use Rattle.std.proofs.lemmas.List.{append-nil}
use Rattle.hr_base.specs.Bytes.{Text}
use Rattle.hr_script.specs.declared.line.Line.{Line}
use Rattle.hr_script.specs.declared.progress.Progress.{Progress}
use Rattle.hr_script.specs.declared.reading.Lines.{Lines}
use Rattle.hr_script.specs.declared.reading.Numbered.{Numbered}
use Rattle.hr_script.specs.declared.refusal.Why.{Why}
use Rattle.hr_script.specs.Line.{line_meaning}
use Rattle.hr_script.specs.Progress.{at_start, progress_after}
use Rattle.hr_script.specs.Reading.{AreRead, nothing, stopped, with_line}
use Rattle.hr_script.specs.Text.{lines_of}

-- some lines in front of what else is read
abbrev pub ahead : List Numbered → Lines → Lines
ahead lines rest = record { lines = lines ++ rest.lines; fault = rest.fault }

-- what is read of the texts that are left gives what is read of all of them
pub record WereRead (texts : List Text) (number : ℕ) (progress : Progress) (left : List Text) (lines : List Numbered) : Type 0 where
  pub whole : (rest : Lines) → AreRead (number + 1) progress left rest → AreRead 1 at_start texts (ahead lines rest)

pub none_read : (texts : List Text) → WereRead texts 0 at_start texts []
none_read texts = record { whole = λ rest h. h }

-- one text more was passed over
pub passed_over : (texts left behind : List Text) (number : ℕ) (progress : Progress) (lines : List Numbered) (text : Text) → WereRead texts number progress left lines → left ≡ text ∷ behind → line_meaning progress text (Ok None)
    → WereRead texts (number + 1) progress behind lines
passed_over texts left behind number progress lines text were cut is = record {
  whole = λ rest h. were.whole rest (subst (λ (l : List Text). AreRead (number + 1) progress l rest) (sym cut) (Ok None, is, h));
}

-- one line more was read
pub one_line : (texts left behind : List Text) (number : ℕ) (progress : Progress) (lines : List Numbered) (text : Text) (line : Line) → WereRead texts number progress left lines → left ≡ text ∷ behind → line_meaning progress text (Ok (Some line))
    → WereRead texts (number + 1) (progress_after progress line) behind (lines ++ record { number = number + 1; line = line } ∷ [])
one_line texts left behind number progress lines text line were cut is = record {
  whole = λ rest h.
      let next : AreRead (number + 1) progress left (with_line (number + 1) line rest) = subst (λ (l : List Text). AreRead (number + 1) progress l (with_line (number + 1) line rest)) (sym cut) (Ok (Some line), is, (rest, h, refl)) in
      subst (λ (l : List Numbered). AreRead 1 at_start texts (record { lines = l; fault = rest.fault })) (sym (append_assoc lines (record { number = number + 1; line = line } ∷ []) rest.lines)) (were.whole (with_line (number + 1) line rest) next);
}

-- the next text is a bad line
pub bad_line : (texts left behind : List Text) (number : ℕ) (progress : Progress) (lines : List Numbered) (text : Text) (why : Why) → WereRead texts number progress left lines → left ≡ text ∷ behind → line_meaning progress text (Err why)
    → AreRead 1 at_start texts (record { lines = lines; fault = Some (record { line = number + 1; why = why }) })
bad_line texts left behind number progress lines text why were cut is =
    let next : AreRead (number + 1) progress left (stopped (number + 1) why) = subst (λ (l : List Text). AreRead (number + 1) progress l (stopped (number + 1) why)) (sym cut) (Err why, is, refl) in
    subst (λ (l : List Numbered). AreRead 1 at_start texts (record { lines = l; fault = Some (record { line = number + 1; why = why }) })) (append-nil lines) (were.whole (stopped (number + 1) why) next)

-- no text is left
pub all_lines : (texts left : List Text) (number : ℕ) (progress : Progress) (lines : List Numbered) → WereRead texts number progress left lines → left ≡ []
    → AreRead 1 at_start texts (record { lines = lines; fault = None })
all_lines texts left number progress lines were none =
    let next : AreRead (number + 1) progress left nothing = subst (λ (l : List Text). AreRead (number + 1) progress l nothing) (sym none) refl in
    subst (λ (l : List Numbered). AreRead 1 at_start texts (record { lines = l; fault = None })) (append-nil lines) (were.whole nothing next)

pub lines_empty : (text : Text) → length text ≡ 0 → lines_of text ≡ []
lines_empty [] e = refl
lines_empty (b ∷ text) e = absurd (omega arith)
