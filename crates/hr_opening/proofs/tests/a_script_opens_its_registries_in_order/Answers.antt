use Rattle.std.proofs.Common.{rules}
use Rattle.hr_opening.proofs.FitLaws.{reading_fit}
use Rattle.hr_opening.proofs.tests.a_script_opens_its_registries_in_order.Goals as goal

pub open_script-requires : goal.open_script-requires
open_script-requires g c = search (rules, reading_fit, c.in_ok-read.ensures.ok)
