-- Files in memory, and how their calls are counted. (Our own.)
use Rattle.std.specs.Prelude.{Option, Result, Ok, Err}
use Rattle.hr_base.specs.Bytes.{ByteList}
use Rattle.hr_cause.specs.Calls.{CallState, Fails, Passes}
use Rattle.hr_cause.specs.MemSink.{SinkState}
use Rattle.hr_tree.specs.declared.fault.TreeFault.{TreeFault}
use Rattle.hr_tree.specs.declared.fault.TreeFault.TheVariants.{Failed, TooLong, Memory}
use Rattle.hr_tree.specs.Tree.{Files}

-- the files, and the calls that were made
pub record TreeState : Type 0 where
  pub files : Files
  pub calls : CallState

-- the calls of a sink
abbrev pub calls_of : SinkState → CallState
calls_of sink = record { failing = sink.failing; calls = sink.calls; faults = sink.faults }

-- a call fails exactly by the list
abbrev pub Counts : CallState → Result (Option ByteList) TreeFault → CallState → Type 0
Counts before (Ok found) now = Passes before now
Counts before (Err (TooLong len)) now = Passes before now
Counts before (Err Memory) now = Passes before now
Counts before (Err Failed) now = Fails before now
