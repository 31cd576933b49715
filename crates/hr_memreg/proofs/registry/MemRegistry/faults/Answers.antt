use Rattle.std.proofs.Common.{subst}
use Rattle.std.specs.Option.{option_map}
use Rattle.hr_adapter.specs.Reg.{IsSound}
use Rattle.hr_memreg.specs.Begun.{writing_of}
use Rattle.hr_memreg.specs.Mem.{Mem, seen_of}
use Rattle.hr_memreg.specs.Shown.{rows_ever}
use Rattle.hr_memreg.proofs.SeenLemmas.{is_sound}
use Rattle.hr_memreg.proofs.registry.MemRegistry.faults.Goals as goal

pub returns-clause-sound : goal.returns-clause-sound
returns-clause-sound c =
    let registry = c.self.inside in
    let seen : Mem = record {
      content = registry.standing.held;
      ever = rows_ever registry.trace.items;
      plan = record {
        operations = registry.standing.operations;
        failing = registry.failing;
        moves = registry.standing.moves;
      };
      faults = registry.faults;
      reading = registry.reading;
      writing = option_map writing_of registry.writing;
    } in
    subst (λ (m : Mem). IsSound (seen_of m)) c.self.view_is (is_sound seen c.self.invariant)
