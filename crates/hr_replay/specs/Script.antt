-- What a text stands for as a script, and why it is none. (Our own.)
use Rattle.std.specs.Prelude.{◌≡◌, ℕ, List, Some, None, Ok, Err}
use Rattle.hr_base.specs.Bytes.{ByteList}
use Rattle.hr_event.specs.declared.event.Event.{Event}
use Rattle.hr_opening.specs.Opening.{after_lines, events_in, jobs_said, jobs_unsaid}
use Rattle.hr_opening.specs.Setup.{Setups, no_setups}
use Rattle.hr_script.specs.Reading.{IsReading}
use Rattle.hr_script.specs.declared.reading.Lines.{Lines}
use Rattle.hr_script.specs.declared.refusal.Why.{Why}

-- the text is a script: its registries open so, these are its events, and there may be so many jobs
pub record IsScript (text : ByteList) (opens : Setups) (events : List Event) (jobs : ℕ) : Type 0
  where
    pub lines : Lines
    pub reading : IsReading text lines
    pub whole : lines.fault ≡ None
    pub opened : after_lines no_setups lines.lines ≡ Ok opens
    pub goes : events ≡ events_in lines.lines
    pub limits : jobs ≡ jobs_said jobs_unsaid lines.lines

-- the line with this number is the first that is bad, since a tag that it names isn't there
pub record LacksTag (text : ByteList) (number : ℕ) : Type 0 where
  pub lines : Lines
  pub reading : IsReading text lines
  pub lacks : after_lines no_setups lines.lines ≡ Err number

-- the line with this number is the first that is bad, by its words
pub record IsBad (text : ByteList) (number : ℕ) (why : Why) : Type 0 where
  pub lines : Lines
  pub reading : IsReading text lines
  pub fault : lines.fault ≡ Some (record { line = number; why = why })
  pub opens : Setups
  pub opened : after_lines no_setups lines.lines ≡ Ok opens
