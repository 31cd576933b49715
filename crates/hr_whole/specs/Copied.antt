-- When a task can be copied, and how its revision then ends. (Our own.)
use Rattle.std.specs.Prelude.{◌≡◌, IsTrue, List, Option, Some, None, IfSome}
use Rattle.std.specs.List.{AllByRecursion}
use Rattle.hr_base.specs.declared.status.Status.{Status}
use Rattle.hr_base.specs.declared.status.Status.TheVariants.{Error, Success}
use Rattle.hr_event.specs.declared.cause.Cause.{Cause}
use Rattle.hr_event.specs.declared.entry.Entry.{Entry}
use Rattle.hr_adapter.specs.Content.{Content, Honest}
use Rattle.hr_adapter.specs.Reg.{Reg}
use Rattle.hr_journal.specs.Origin.{AllTell, OneText}
use Rattle.hr_line.specs.Finals.{IsFinished}
use Rattle.hr_line.specs.Orderly.{placement}
use Rattle.hr_line.specs.Sources.{origin}
use Rattle.hr_line.specs.State.{State, link_at}
use Rattle.hr_line.specs.declared.held.Admitted.{Admitted}
use Rattle.hr_whole.specs.Calm.{IsCalm}
use Rattle.hr_whole.specs.Whole.{TagIsWhole}

-- a task can be copied: its two ends were opened calm, everything stands at the source under its own
-- digest, and each of its tags is whole there
pub record CanBeCopied (opened : State) (a : Admitted) (c o : Content) : Type 0 where
  pub calm : IsCalm opened a c o
  pub honest : Honest c
  pub tags : AllByRecursion (TagIsWhole c a.spec.from) a.spec.tags

-- neither connection of a revision has failed
pub record NoneFailed (t : State) (a : Admitted) : Type 0 where
  pub source : IfSome (link_at t.sources a.spec.src) (λ f. f.faults ≡ 0)
  pub dest : IfSome (link_at t.dests a.spec.dst) (λ p. p.faults ≡ 0)

-- a connection has not failed, and can't
pub record IsUnfailing (reg : Reg) : Type 0 where
  pub sure : IsTrue reg.sure
  pub none : reg.faults ≡ 0

-- both connections of a revision have not failed, and can't
pub record BothUnfailing (s : State) (a : Admitted) : Type 0 where
  pub source : Reg
  pub from : link_at s.sources a.spec.src ≡ Some source
  pub can_read : IsUnfailing source
  pub dest : Reg
  pub to : link_at s.dests a.spec.dst ≡ Some dest
  pub can_write : IsUnfailing dest

-- all that is written to the destination of a revision comes from sources that tell, and no digest
-- stands for two texts of them and of what the destination was opened with
pub record NoTwoTexts (t : State) (a : Admitted) (o : Content) : Type 0 where
  pub tell : AllTell (placement a.spec.dst t.admitted) (origin t.sources t.admitted) t.log
  pub once : OneText o (origin t.sources t.admitted)

-- a revision ended with success, where each of its tags was finished, or by want of memory
abbrev pub EndsWell : Admitted → List Entry → Status → Option Cause → Type 0
EndsWell a log status None = (status ≡ Success) × AllByRecursion (IsFinished a log) a.spec.tags
EndsWell a log status (Some why) = (status ≡ Error) × (why ≡ Cause.Memory)
