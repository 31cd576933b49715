use Rattle.std.proofs.Common.{◌≡◌, take, map}
use Rattle.httparse.specs.Spans.{header_bytes}
use Rattle.hr_head.specs.Field.{pair_of}
use Rattle.hr_head.proofs.field.fields_of.Given as goal

-- the spans so far were copied
abbrev pub invariant-loop-span : goal.invariant-loop-span
invariant-loop-span l = map pair_of l.heads ≡ map (header_bytes l.buf) (take l.span-index l.spans)
