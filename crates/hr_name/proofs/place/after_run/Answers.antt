use Rattle.std.proofs.Common.{ap, arith}
use Rattle.std.specs.Prelude.{Some}
use Rattle.hr_name.specs.declared.place.Place.TheVariants.{Start, Run}
use Rattle.hr_name.specs.Place.{behind}
use Rattle.hr_name.proofs.ReachLemmas.{moves_behind, moves_none}
use Rattle.hr_name.proofs.place.after_run.Goals as goal

pub returns-in-47 : goal.returns-in-47
returns-in-47 c = moves_behind Run c.args.byte (Some Start) c.requires (ap (behind Run) c.in-47.is)

pub returns-in_default : goal.returns-in_default
returns-in_default c = moves_none c.args.byte c.requires (omega arith) (omega arith) (omega arith) (omega arith)
