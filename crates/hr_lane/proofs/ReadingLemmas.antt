-- A manifest is read as the clauses of its reading say.
use Rattle.std.proofs.Common.{◌≡◌}
use Rattle.std.specs.Prelude.{◌≢◌, Result, Ok, Err, IfOk, IfErr}
use Rattle.hr_event.specs.declared.reference.Fetched.{Fetched}
use Rattle.hr_manifest.specs.Manifest.{Parts}
use Rattle.hr_manifest.specs.Reading.{Reads, Refuses}
use Rattle.hr_manifest.specs.declared.refusal.Unreadable.{Unreadable}
use Rattle.hr_line.specs.Line.{IsReading}

pub reading_is : (m : Fetched) (read : Result Parts Unreadable)
    → IfOk read (λ parts. Reads m.media m.bytes parts.children)
    → IfOk read (λ parts. (parts.media ≡ m.media) × (parts.bytes ≡ m.bytes))
    → IfErr read (λ why. why ≢ Unreadable.Memory → Refuses m.media m.bytes why)
    → IsReading m read
reading_is m (Ok parts) reads kept refused = (kept.0, kept.1, reads)
reading_is m (Err why) reads kept refused = refused
