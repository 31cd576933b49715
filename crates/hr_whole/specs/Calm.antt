-- The two ends of a revision, where no plan changes them. (Our own.)
use Rattle.std.specs.Prelude.{◌≡◌, IsTrue, Contains, Some}
use Rattle.hr_adapter.specs.Content.{Content, Honest}
use Rattle.hr_adapter.specs.Reg.{Reg}
use Rattle.hr_line.specs.State.{Link, State, link_at}
use Rattle.hr_line.specs.declared.held.Admitted.{Admitted}

-- the source of a revision was opened quiet with the content c, and its destination with the content
-- o, where everything stood under its own digest; both tell
pub record IsCalm (opened : State) (a : Admitted) (c o : Content) : Type 0 where
  pub source : Reg
  pub from : link_at opened.sources a.spec.src ≡ Some source
  pub quiet : IsTrue source.quiet
  pub told : source.told ≡ Some c
  pub dest : Link
  pub within : Contains opened.dests dest
  pub named : dest.reg ≡ a.spec.dst
  pub still : IsTrue dest.seen.quiet
  pub tells : dest.seen.told ≡ Some o
  pub honest : Honest o
