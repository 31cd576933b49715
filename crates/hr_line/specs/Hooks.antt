-- Which hooks a lane has given: one of each revision that began, and one of each that ended. (Our
-- own, after Harbor's job service.)
use Rattle.std.specs.Prelude.{◌≡◌, ℕ, Option, Some, None}
use Rattle.std.specs.List.{filter_map}
use Rattle.hr_base.specs.declared.number.JobNo.{JobNo}
use Rattle.hr_base.specs.declared.status.Hook.{Hook}
use Rattle.hr_base.specs.declared.status.Status.TheVariants.{Running}
use Rattle.hr_event.specs.declared.entry.What.{What}
use Rattle.hr_event.specs.declared.entry.What.TheVariants as what
use Rattle.hr_line.specs.State.{State}

-- the hook that goes with what an entry of a revision says
abbrev pub hook_from : JobNo → ℕ → What → Option Hook
hook_from job rev what.Began = Some (record { job = job; rev = rev; status = Running })
hook_from job rev (what.Ended status cause) =
    Some (record { job = job; rev = rev; status = status })
hook_from job rev _ = None

-- the hooks are those that go with the entries, in their order
abbrev pub HooksTell : State → Type 0
HooksTell s = s.hooks ≡ filter_map (λ e. hook_from e.job e.rev e.what) s.log
