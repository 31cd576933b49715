-- An admission to a lane, with what it does to the word of the revision. (Our own.)
use Rattle.std.specs.Prelude.{◌≡◌, ℕ, if◌then◌else◌, nat_eq, List, IsSome}
use Rattle.hr_base.specs.Status.{word_of}
use Rattle.hr_base.specs.declared.status.Mark.{Mark}
use Rattle.hr_base.specs.declared.status.Mark.TheVariants.{At}
use Rattle.hr_base.specs.declared.status.Status.TheVariants.{Pending, Running, Scheduled}
use Rattle.hr_event.specs.declared.task.TaskSpec.{TaskSpec}
use Rattle.hr_event.specs.declared.task.Turn.{Turn}
use Rattle.hr_board.specs.View.{Noted, View, place_of}
use Rattle.hr_line.specs.Admission.{Begins}
use Rattle.hr_line.specs.Orderly.{IsNew, admitted_at}
use Rattle.hr_line.specs.State.{State}
use Rattle.hr_line.specs.declared.answer.Admit.{Admit}
use Rattle.hr_line.specs.declared.answer.Admit.TheVariants as admit
use Rattle.hr_line.specs.declared.held.Admitted.{Admitted}
use Rattle.hr_lane.specs.Word.{FindsOther, MovesMark}

-- the revision of a turn, with what is copied
abbrev pub by_turn : Turn → TaskSpec → Admitted
by_turn turn spec = record { job = turn.job; rev = turn.rev; spec = spec }

-- the mark at which a revision waits for its turn
abbrev pub waiting : ℕ → Mark
waiting rev = if nat_eq rev 0 then At Pending else At Scheduled

-- the board noted each revision that was admitted at Running, as the move that begins one does
abbrev pub AreNoted : List Admitted → View → Type 0
AreNoted all view = (job rev : ℕ) → IsSome (admitted_at all job rev)
    → Noted view.notes (place_of job rev) (word_of (At Running))

-- one admission, by its answer: a revision is begun only where its word waits for its turn, and was
-- not admitted before; else all is as it was
abbrev pub AdmitsWord : State → State → Admitted → View → View → Admit → Type 0
AdmitsWord s t a v w admit.Began = Begins s t a × IsNew s.admitted a
    × MovesMark v w (place_of a.job.0 a.rev) (waiting a.rev) (At Running)
AdmitsWord s t a v w (admit.Lost mark) =
    (t ≡ s) × FindsOther v w (place_of a.job.0 a.rev) (waiting a.rev) mark
AdmitsWord s t a v w admit.Memory = (t ≡ s) × (w ≡ v)
