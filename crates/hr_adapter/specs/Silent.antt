-- A registry that tells nothing. (Our own, for tests.)
use Rattle.std.specs.Prelude.{None, [], false}
use Rattle.hr_adapter.specs.Reg.{Reg}

-- a connection that tells nothing, before its first call
abbrev pub untold : Reg
untold = record {
  told = None;
  coming = None;
  ever = [];
  faults = 0;
  quiet = false;
  sure = false;
  plan = None;
  reading = None;
  writing = None;
}
