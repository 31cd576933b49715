-- What an admission to a lane does, by its answer. (Our own.)
use Rattle.std.specs.Prelude.{◌≡◌, ◌∷◌, Some, None}
use Rattle.hr_base.specs.declared.status.Status.TheVariants.{Running}
use Rattle.hr_event.specs.declared.entry.What.TheVariants as what
use Rattle.hr_line.specs.Line.{entry_of}
use Rattle.hr_line.specs.State.{HeldAfter, State}
use Rattle.hr_line.specs.Step.{hook_of}
use Rattle.hr_line.specs.declared.answer.Admit.{Admit}
use Rattle.hr_line.specs.declared.answer.Admit.TheVariants as admit
use Rattle.hr_line.specs.declared.held.Admitted.{Admitted}
use Rattle.hr_line.specs.declared.held.Held.{Held}

-- a revision that is held, and none of whose tags is read
abbrev pub held_first : Admitted → Held
held_first a = record { by = a; next = 0; work = None }

-- the revision is begun: its entry, its hook and its place among those that are held
pub record Begins (s t : State) (a : Admitted) : Type 0 where
  pub sources : t.sources ≡ s.sources
  pub dests : t.dests ≡ s.dests
  pub log : t.log ≡ entry_of a what.Began ∷ s.log
  pub hooks : t.hooks ≡ hook_of a Running ∷ s.hooks
  pub admitted : t.admitted ≡ a ∷ s.admitted
  pub held : HeldAfter a.job.0 (Some (held_first a)) s.held t.held

-- an admission, by its answer: where none is begun, all is as it was
abbrev pub Admits : State → State → Admitted → Admit → Type 0
Admits s t a admit.Began = Begins s t a
Admits s t a (admit.Lost mark) = t ≡ s
Admits s t a admit.Memory = t ≡ s
