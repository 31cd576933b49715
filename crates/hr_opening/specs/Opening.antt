-- What the lines of a script open. (Our own.)
use Rattle.std.specs.Prelude.{◌≡◌, ℕ, List, [], ◌∷◌, ◌++◌, Option, Some, None, option_map, Result, Ok, Err}
use Rattle.hr_base.specs.declared.number.RegNo.{RegNo}
use Rattle.hr_event.specs.declared.event.Event.{Event}
use Rattle.hr_adapter.specs.Content.{tag_at}
use Rattle.hr_adapter.specs.Put.{put_under}
use Rattle.hr_event.specs.declared.reference.Reference.TheVariants as by
use Rattle.hr_script.specs.declared.line.Line.{Line}
use Rattle.hr_script.specs.declared.line.Line.TheVariants as line
use Rattle.hr_script.specs.declared.reading.Numbered.{Numbered}
use Rattle.hr_opening.specs.Setup.{Setups, no_setups, registries_of, with_change, with_content, with_fault, with_setup}
use Rattle.hr_opening.specs.Stored.{children_of, with_broken, with_image, with_index, with_orphan}
use Rattle.hr_opening.specs.declared.opening.Opened.{Opened}
use Rattle.hr_opening.specs.declared.setup.RegSetup.{RegSetup}

-- the registry that a setup line names
abbrev pub registry_named : Line → Option RegNo
registry_named (line.Image reg repo tag layers) = Some reg
registry_named (line.Index reg repo tag children) = Some reg
registry_named (line.Orphan reg repo layers) = Some reg
registry_named (line.Manifest reg repo tag media text) = Some reg
registry_named (line.Break reg repo honest stored) = Some reg
registry_named (line.Fault lane reg op lands) = Some reg
registry_named (line.Change lane reg op repo tag to) = Some reg
registry_named (line.Jobs jobs) = None
registry_named (line.Event event) = None

-- a registry after a setup line that names it, where each tag is there to which the line leads
abbrev pub setup_after : Line → RegSetup → Option RegSetup
setup_after (line.Image reg repo tag layers) setup =
    Some (with_content (with_image repo tag layers) setup)
setup_after (line.Index reg repo tag children) setup = option_map
    (λ kids. with_content (with_index repo tag kids) setup) (children_of setup.content repo children)
setup_after (line.Orphan reg repo layers) setup =
    Some (with_content (with_orphan repo layers) setup)
setup_after (line.Manifest reg repo tag media text) setup =
    Some (with_content (put_under repo (by.Tag tag) media text) setup)
setup_after (line.Break reg repo honest stored) setup =
    Some (with_content (with_broken repo honest stored) setup)
setup_after (line.Fault lane reg op lands) setup =
    Some (with_fault (record { op = op; lands = lands }) setup)
setup_after (line.Change lane reg op repo tag to) setup = option_map
    (λ d. with_change (record { op = op; repo = repo; tag = tag; digest = d }) setup)
    (tag_at setup.content repo to)
setup_after (line.Jobs jobs) setup = Some setup
setup_after (line.Event event) setup = Some setup

-- the registries with that one changed which is named
abbrev pub where_named : Setups → (RegSetup → Option RegSetup) → Option RegNo → Option Setups
where_named setups change (Some reg) = with_setup setups reg.0 change
where_named setups change None = Some setups

-- the registries after a line, where each tag is there to which it leads
abbrev pub after_line : Setups → Line → Option Setups
after_line setups l = where_named setups (setup_after l) (registry_named l)

-- the registries after the lines behind one, or its number where it leads to a tag that isn't there
abbrev pub goes_on : (Setups → Result Setups ℕ) → ℕ → Option Setups → Result Setups ℕ
goes_on behind number None = Err number
goes_on behind number (Some setups) = behind setups

-- the registries after these lines, or the number of the first that leads to a tag that isn't there
abbrev pub after_lines : Setups → List Numbered → Result Setups ℕ
after_lines setups [] = Ok setups
after_lines setups (numbered ∷ rest) =
    goes_on (λ after. after_lines after rest) numbered.number (after_line setups numbered.line)

-- the events of a line
abbrev pub event_in : Line → List Event
event_in (line.Event event) = event ∷ []
event_in _ = []

-- the events among these lines, in order
abbrev pub events_in : List Numbered → List Event
events_in [] = []
events_in (numbered ∷ rest) = event_in numbered.line ++ events_in rest

-- how many jobs there may be where no line says so
abbrev pub jobs_unsaid : ℕ
jobs_unsaid = 16384

-- how many jobs there may be behind a line, where there might be so many before it
abbrev pub jobs_after : ℕ → Line → ℕ
jobs_after before (line.Jobs jobs) = jobs
jobs_after before _ = before

-- how many jobs there may be behind these lines: the last that says so counts
abbrev pub jobs_said : ℕ → List Numbered → ℕ
jobs_said before [] = before
jobs_said before (numbered ∷ rest) = jobs_said (jobs_after before numbered.line) rest

-- the lines open these registries, from number 1 on; these are their events, and there may be so
-- many jobs
pub record Opens (lines : List Numbered) (opened : Opened) : Type 0 where
  pub setups : Setups
  pub opens : after_lines no_setups lines ≡ Ok setups
  pub regs : opened.regs ≡ registries_of setups
  pub events : opened.events ≡ events_in lines
  pub jobs : opened.jobs ≡ jobs_said jobs_unsaid lines
