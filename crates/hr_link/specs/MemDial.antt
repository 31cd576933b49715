-- A dial in memory, and what one call of it does. (Our own.)
use Rattle.std.specs.Prelude.{◌≡◌, List, drop, Result, Ok, Err}
use Rattle.hr_base.specs.Bytes.{ByteList}
use Rattle.hr_cause.specs.Calls.{CallState, Fails, Passes}
use Rattle.hr_cause.specs.MemSink.{SinkState}
use Rattle.hr_cause.specs.MemSource.{SourceState}
use Rattle.hr_link.specs.declared.fault.DialFault.{DialFault}
use Rattle.hr_link.specs.declared.fault.DialFault.TheVariants.{Failed, Memory}
use Rattle.hr_link.specs.declared.mem_link.MemLink.{MemLink}
use Rattle.hr_link.specs.declared.past_link.PastLink.{PastLink}
use Rattle.hr_link.specs.Link.{first_of}
use Rattle.hr_link.specs.MemLink.{IsNew}

-- what the links to come will give, the links that were given back, and the calls that were made
pub record DialState : Type 0 where
  pub coming : List ByteList
  pub given_back : List PastLink
  pub calls : CallState

-- a call gives a link
pub record GivesNext (before : DialState) (source : SourceState) (sink : SinkState) (now : DialState)
    : Type 0 where
  pub calls : Passes before.calls now.calls
  pub link : IsNew (first_of before.coming) source sink
  pub after : now ≡ record before { coming = drop 1 before.coming; calls = now.calls }

-- a call gives no link, and counts
pub record GivesNone (Counts : CallState → CallState → Type 0) (before now : DialState) : Type 0 where
  pub calls : Counts before.calls now.calls
  pub after : now ≡ record before { calls = now.calls }

-- one call, which fails exactly by the list
abbrev pub Dials : DialState → Result MemLink DialFault → DialState → Type 0
Dials before (Ok link) now = GivesNext before link.source link.sink now
Dials before (Err Failed) now = GivesNone Fails before now
Dials before (Err Memory) now = GivesNone Passes before now
