-- What is known of lines that were read. (Our own.)
use Rattle.std.specs.Prelude.{◌≡◌, ◌≤◌, ⊤, ℕ, List}
use Rattle.std.specs.List.{AllByRecursion}
use Rattle.hr_base.specs.declared.number.RegNo.{RegNo}
use Rattle.hr_event.specs.declared.event.Event.{Event}
use Rattle.hr_event.specs.declared.event.Event.TheVariants as event
use Rattle.hr_text.specs.Escaping.{IsUnescaped}
use Rattle.hr_script.specs.declared.line.Line.{Line}
use Rattle.hr_script.specs.declared.line.Line.TheVariants as line
use Rattle.hr_script.specs.declared.reading.Numbered.{Numbered}

-- the number of one of the eight registries
pub record IsNumbered (reg : RegNo) : Type 0 where
  pub some : 1 ≤ reg.0
  pub few : reg.0 ≤ 8

-- how many jobs there may be in a script
pub record IsJobLimit (jobs : ℕ) : Type 0 where
  pub some : 1 ≤ jobs
  pub few : jobs ≤ 262144

-- an event that a script may have
abbrev pub IsScripted : Event → Type 0
IsScripted (event.Trigger policy) = ⊤
IsScripted event.Take = ⊤
IsScripted (event.Step job) = ⊤
IsScripted (event.Settle job) = ⊤
IsScripted (event.Stop job) = ⊤
IsScripted (event.Deliver hook) = ⊤
IsScripted (event.Forge hook) = hook.rev ≤ 3
IsScripted (event.Wait seconds) = seconds ≤ 1000000000
IsScripted (event.Sweep keep) = ⊤
IsScripted event.Finish = ⊤
IsScripted (event.Tags reg) = IsNumbered reg
IsScripted (event.Row job) = ⊤
IsScripted (event.Exec exec) = ⊤
IsScripted (event.Word job rev) = rev ≤ 3
IsScripted (event.CauseOf job) = ⊤
IsScripted _ = ⊥

-- a line names one of the registries, the lane that there is, and a media type that stands in a
-- string of JSON as it is; it allows some jobs, and not too many; and its event is a script's
abbrev pub IsFit : Line → Type 0
IsFit (line.Image reg repo tag layers) = IsNumbered reg
IsFit (line.Index reg repo tag children) = IsNumbered reg
IsFit (line.Orphan reg repo layers) = IsNumbered reg
IsFit (line.Manifest reg repo tag media text) = IsNumbered reg × IsUnescaped media
IsFit (line.Break reg repo honest stored) = IsNumbered reg
IsFit (line.Fault lane reg op lands) = IsNumbered reg × (lane ≡ 0)
IsFit (line.Change lane reg op repo tag to) = IsNumbered reg × (lane ≡ 0)
IsFit (line.Jobs jobs) = IsJobLimit jobs
IsFit (line.Event event) = IsScripted event

-- each of these lines is fit
abbrev pub AreFit : List Numbered → Type 0
AreFit lines = AllByRecursion (λ numbered. IsFit numbered.line) lines

-- a line stores no bytes under the digest of others
abbrev pub KeepsHonest : Line → Type 0
KeepsHonest (line.Break reg repo honest stored) = ⊥
KeepsHonest _ = ⊤
