-- What the lines of a script so far leave to those behind them. (Our own.)
use Rattle.std.specs.Prelude.{◌&&◌, ◌||◌, Bool, true, false}
use Rattle.hr_script.specs.declared.kind.Kind.{Kind}
use Rattle.hr_script.specs.declared.line.Line.{Line}
use Rattle.hr_script.specs.declared.line.Line.TheVariants.{Event}
use Rattle.hr_script.specs.declared.progress.Progress.{Progress}
use Rattle.hr_script.specs.Kind.{is_setup}

-- whether a line is an event
abbrev pub is_event : Line → Bool
is_event (Event event) = true
is_event _ = false

-- what stands before the first line
abbrev pub at_start : Progress
at_start = record { running = false }

-- what stands behind one line more
abbrev pub progress_after : Progress → Line → Progress
progress_after progress line = record { running = progress.running || is_event line }

-- whether a line of this kind may not stand there, since it sets something up behind an event
abbrev pub is_misplaced : Progress → Kind → Bool
is_misplaced progress kind = progress.running && is_setup kind
