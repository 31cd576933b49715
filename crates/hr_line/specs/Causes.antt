-- That the cause of each error goes on being shown. (Our own.)
use Rattle.std.specs.Prelude.{◌≡◌, ⊤, ℕ, Some, IfSome}
use Rattle.std.specs.List.{AllByRecursion}
use Rattle.hr_event.specs.declared.cause.Cause.{Cause}
use Rattle.hr_event.specs.declared.entry.What.{What}
use Rattle.hr_event.specs.declared.entry.What.TheVariants as what
use Rattle.hr_adapter.specs.Reg.{Reg}
use Rattle.hr_line.specs.Evidence.{IsShown}
use Rattle.hr_line.specs.Kept.{WorkSeen}
use Rattle.hr_line.specs.Orderly.{admitted_at}
use Rattle.hr_line.specs.State.{State, held_at, link_at}
use Rattle.hr_line.specs.declared.held.Admitted.{Admitted}

-- the journal and the two connections of a revision, as they are now, show the cause by which it
-- ended
abbrev pub IsCauseShown : State → Admitted → Cause → Type 0
IsCauseShown s a why = (source dest : Reg) → link_at s.sources a.spec.src ≡ Some source
    → link_at s.dests a.spec.dst ≡ Some dest → IsShown a s.log source dest why

-- so they do where an entry says that it ended by a cause
abbrev pub SaysCause : State → Admitted → What → Type 0
SaysCause s a (what.Ended status (Some why)) = IsCauseShown s a why
SaysCause s a _ = ⊤

-- the cause of each error that the journal has is shown, and all that the walk of a revision which
-- is held has open or finished was read or found by it
pub record AreCausesShown (s : State) : Type 0 where
  pub logged : AllByRecursion (λ e. IfSome (admitted_at s.admitted e.job.0 e.rev)
      (λ a. SaysCause s a e.what)) s.log
  pub held : (job : ℕ) → IfSome (held_at s.held job) (λ h. IfSome h.work (WorkSeen h.by s.log))
