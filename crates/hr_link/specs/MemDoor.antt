-- A door in memory, and what one call of it does. (Our own.)
use Rattle.std.specs.Prelude.{◌≡◌, ◌≢◌, List, [], drop, Option, Some, None, Result, Ok, Err}
use Rattle.hr_base.specs.Bytes.{ByteList}
use Rattle.hr_cause.specs.MemSink.{SinkState}
use Rattle.hr_cause.specs.MemSource.{SourceState}
use Rattle.hr_link.specs.declared.fault.DialFault.{DialFault}
use Rattle.hr_link.specs.declared.fault.DialFault.TheVariants.{Failed, Memory}
use Rattle.hr_link.specs.declared.mem_link.MemLink.{MemLink}
use Rattle.hr_link.specs.declared.past_link.PastLink.{PastLink}
use Rattle.hr_link.specs.Link.{first_of}
use Rattle.hr_link.specs.MemLink.{IsNew}

-- what the links of the callers to come will give, and the links that were given back
pub record DoorState : Type 0 where
  pub coming : List ByteList
  pub given_back : List PastLink

-- a caller comes
pub record LetsIn (before : DoorState) (source : SourceState) (sink : SinkState) (now : DoorState)
    : Type 0 where
  pub some : before.coming ≢ []
  pub link : IsNew (first_of before.coming) source sink
  pub after : now ≡ record before { coming = drop 1 before.coming }

-- no caller will come any more
pub record IsOver (before now : DoorState) : Type 0 where
  pub none : before.coming ≡ []
  pub after : now ≡ before

-- one call: a caller comes as long as there are bytes to come, and it never fails
abbrev pub Accepts : DoorState → Result (Option MemLink) DialFault → DoorState → Type 0
Accepts before (Ok (Some link)) now = LetsIn before link.source link.sink now
Accepts before (Ok None) now = IsOver before now
Accepts before (Err Failed) now = ⊥
Accepts before (Err Memory) now = now ≡ before
