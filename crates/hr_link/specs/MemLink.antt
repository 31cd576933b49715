-- A link in memory, which is a source and a sink. (Our own.)
use Rattle.std.specs.Prelude.{◌≡◌, ◌+◌, ◌-◌, ◌^◌, ℕ, min, []}
use Rattle.hr_base.specs.Bytes.{ByteList}
use Rattle.hr_cause.specs.MemSink.{SinkState}
use Rattle.hr_cause.specs.MemSource.{SourceState}
use Rattle.hr_link.specs.declared.past_link.PastLink.{PastLink}

-- how often the two ends of a link failed together, where a count stays at its type's end
abbrev pub fault_count : SourceState → SinkState → ℕ
fault_count source sink = min (source.faults + sink.faults) (2 ^ 64 - 1)

-- what is known of a link that was given back
abbrev pub past_of : SourceState → SinkState → PastLink
past_of source sink = record { sent = sink.sent; faults = fault_count source sink }

-- the ends of a link that gives these bytes, at each read all that fits, and never fails
pub record IsNew (bytes : ByteList) (source : SourceState) (sink : SinkState) : Type 0 where
  pub from : source ≡ record { left = bytes; pieces = []; failing = []; calls = 0; faults = 0 }
  pub to : sink ≡ record { sent = []; failing = []; calls = 0; faults = 0 }
