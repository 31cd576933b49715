-- The lines of a script up to the first bad one. (Our own.)
use Rattle.std.specs.Prelude.{◌≡◌, ◌+◌, ℕ, List, [], ◌∷◌, Option, Some, None, Result, Ok, Err}
use Rattle.hr_base.specs.Bytes.{Text}
use Rattle.hr_script.specs.declared.line.Line.{Line}
use Rattle.hr_script.specs.declared.progress.Progress.{Progress}
use Rattle.hr_script.specs.declared.reading.Lines.{Lines}
use Rattle.hr_script.specs.declared.refusal.Why.{Why}
use Rattle.hr_script.specs.Line.{line_meaning}
use Rattle.hr_script.specs.Progress.{at_start, progress_after}
use Rattle.hr_script.specs.Text.{lines_of}

-- no line, and no fault
abbrev pub nothing : Lines
nothing = record { lines = []; fault = None }

-- the fault of the line with this number, and no line before it
abbrev pub stopped : ℕ → Why → Lines
stopped number why = record { lines = []; fault = Some (record { line = number; why = why }) }

-- the line with this number, and then the others
abbrev pub with_line : ℕ → Line → Lines → Lines
with_line number line rest = record {
  lines = record { number = number; line = line } ∷ rest.lines;
  fault = rest.fault;
}

-- what is read from the line with this number on, by what it means and by the lines behind it
abbrev pub GoesOn : (Progress → Lines → Type 0) → ℕ → Progress → Result (Option Line) Why → Lines → Type 0
GoesOn Behind number progress (Ok None) found = Behind progress found
GoesOn Behind number progress (Ok (Some line)) found =
    (rest : Lines) × Behind (progress_after progress line) rest
    × (found ≡ with_line number line rest)
GoesOn Behind number progress (Err why) found = found ≡ stopped number why

-- these lines, of which the first has this number, are read so behind the lines so far
abbrev pub AreRead : ℕ → Progress → List Text → Lines → Type 0
AreRead number progress [] found = found ≡ nothing
AreRead number progress (line ∷ lines) found =
    (meaning : Result (Option Line) Why) × line_meaning progress line meaning
    × GoesOn (λ later. AreRead (number + 1) later lines) number progress meaning found

-- the text is read so: its lines before the first bad one, each by its meaning and with its number
-- from 1, and that one, where there is one
abbrev pub IsReading : Text → Lines → Type 0
IsReading text found = AreRead 1 at_start (lines_of text) found
