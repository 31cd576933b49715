-- That a lane is in order: what it holds and what it wrote is of revisions that were admitted to it.
-- (Our own.)
use Rattle.std.specs.Prelude.{◌≡◌, ◌&&◌, ℕ, nat_eq, if◌then◌else◌, List, [], ◌∷◌, Option, Some, None, IfSome, IsSome, option_and_then}
use Rattle.std.specs.List.{AllByRecursion}
use Rattle.hr_base.specs.declared.number.RegNo.{RegNo}
use Rattle.hr_name.specs.Name.{RepoName}
use Rattle.hr_journal.specs.Says.{Placement}
use Rattle.hr_line.specs.State.{State, held_at}
use Rattle.hr_line.specs.declared.held.Admitted.{Admitted}
use Rattle.hr_line.specs.declared.held.Held.{Held}

-- the revision of a job that was admitted, both by their numbers
abbrev pub admitted_at : List Admitted → ℕ → ℕ → Option Admitted
admitted_at [] job rev = None
admitted_at (a ∷ more) job rev =
    if nat_eq a.job.0 job && nat_eq a.rev rev then Some a else admitted_at more job rev

-- a revision was not admitted before
abbrev pub IsNew : List Admitted → Admitted → Type 0
IsNew admitted a = admitted_at admitted a.job.0 a.rev ≡ None

-- the repository that a revision writes at a registry, where that is its destination
abbrev pub place_at : RegNo → Admitted → Option RepoName
place_at reg a = if nat_eq a.spec.dst.0 reg.0 then Some a.spec.to else None

-- which repository of a registry each revision that was admitted writes
abbrev pub placement : RegNo → List Admitted → Placement
placement reg admitted job rev = option_and_then (place_at reg) (admitted_at admitted job rev)

-- a revision that is held stands under its job, and was admitted
pub record IsHeldAs (all : List Admitted) (key : ℕ) (h : Held) : Type 0 where
  pub job : h.by.job.0 ≡ key
  pub admitted : admitted_at all h.by.job.0 h.by.rev ≡ Some h.by

-- all that is held was admitted, and each entry is of a revision that was
pub record IsOrderly (s : State) : Type 0 where
  pub held : (job : ℕ) → IfSome (held_at s.held job) (IsHeldAs s.admitted job)
  pub logged : AllByRecursion (λ e. IsSome (admitted_at s.admitted e.job.0 e.rev)) s.log
