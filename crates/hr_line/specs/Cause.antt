-- The cause that an error of a registry, a manifest or a walk is. (Our own.)
use Rattle.std.specs.Prelude.{ℕ}
use Rattle.hr_adapter.specs.declared.fault.RegFault.{RegFault}
use Rattle.hr_adapter.specs.declared.fault.RegFault.TheVariants as why
use Rattle.hr_base.specs.declared.number.RegNo.{RegNo}
use Rattle.hr_blob.specs.declared.outcome.Failing.{Failing}
use Rattle.hr_digest.specs.declared.digest.Digest.{Digest}
use Rattle.hr_event.specs.declared.cause.Cause.{Cause}
use Rattle.hr_event.specs.declared.cause.Cause.TheVariants as cause
use Rattle.hr_graph.specs.declared.need.WalkRefused.{WalkRefused}
use Rattle.hr_graph.specs.declared.need.WalkRefused.TheVariants as walk
use Rattle.hr_manifest.specs.declared.refusal.Unreadable.{Unreadable}
use Rattle.hr_manifest.specs.declared.refusal.Unreadable.TheVariants as form

-- a registry gave no answer, between two of its counts of faults
abbrev pub fault_cause : RegFault → RegNo → ℕ → ℕ → Cause
fault_cause why.Failed reg before after = cause.Fault reg before after
fault_cause (why.TooLong len) reg before after = cause.TooLong len
fault_cause why.Memory reg before after = cause.Memory

-- a call gave no answer, with the counts of faults around it
abbrev pub failing_cause : Failing → RegNo → Cause
failing_cause f reg = fault_cause f.fault reg f.before f.after

-- a manifest of this digest is not read
abbrev pub form_cause : Unreadable → Digest → Cause
form_cause (form.TooLong len) digest = cause.TooLong len
form_cause form.Media digest = cause.Unreadable digest
form_cause form.NotJson digest = cause.Unreadable digest
form_cause (form.Field name) digest = cause.Unreadable digest
form_cause (form.TooMany count) digest = cause.TooMany count
form_cause form.Memory digest = cause.Memory

-- a walk goes no further
abbrev pub walk_cause : WalkRefused → Cause
walk_cause (walk.TooDeep digest) = cause.TooDeep digest
walk_cause (walk.TooMany count) = cause.TooMany count
walk_cause (walk.SizeDiffers digest said got) = cause.SizeDiffers digest said got
walk_cause walk.Memory = cause.Memory
