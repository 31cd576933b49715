-- A blob that is being written, as a registry in memory keeps it. (Our own.)
use Rattle.std.specs.Prelude.{Some}
use Rattle.hr_adapter.specs.Reg.{Writing}
use Rattle.hr_memreg.specs.declared.writing.Begun.{Begun}

-- a writing as contracts see it
abbrev pub writing_of : Begun → Writing
writing_of w = record {
  repo = w.repo;
  bytes = w.bytes.items;
  broken = w.broken;
  operation = Some w.number;
}
