-- A lane as contracts see it: its connections, its journal and its hooks, both newest first, the
-- revisions that were admitted to it, and those that it holds. (Our own.)
use Rattle.std.specs.Prelude.{◌≡◌, ℕ, if◌then◌else◌, nat_eq, List, [], ◌∷◌, Option, Some, None, map}
use Rattle.std.specs.List.{AllByRecursion}
use Rattle.hr_base.specs.declared.number.RegNo.{RegNo}
use Rattle.hr_base.specs.declared.status.Hook.{Hook}
use Rattle.hr_event.specs.declared.entry.Entry.{Entry}
use Rattle.hr_adapter.specs.Reg.{IsSound, Reg}
use Rattle.hr_line.specs.declared.held.Admitted.{Admitted}
use Rattle.hr_line.specs.declared.held.Held.{Held}

-- a connection by the number of its registry
pub record Link : Type 0 where
  pub reg : RegNo
  pub seen : Reg

-- a lane at a moment
pub record State : Type 0 where
  -- the connections that are read from
  pub sources : List Link
  -- the connections that are written to
  pub dests : List Link
  pub log : List Entry
  pub hooks : List Hook
  pub admitted : List Admitted
  pub held : List Held

-- the connection to a registry
abbrev pub link_at : List Link → RegNo → Option Reg
link_at [] reg = None
link_at (l ∷ more) reg = if nat_eq l.reg.0 reg.0 then Some l.seen else link_at more reg

-- each of these connections is as every one is at every moment
abbrev pub AreSound : List Link → Type 0
AreSound links = AllByRecursion (λ (l : Link). IsSound l.seen) links

-- the connections after that to one registry did something
abbrev pub with_link : List Link → RegNo → Reg → List Link
with_link links reg seen =
    map {A = Link} (λ l. if nat_eq l.reg.0 reg.0 then record l { seen = seen } else l) links

-- the revision of a job that is held
abbrev pub held_at : List Held → ℕ → Option Held
held_at [] job = None
held_at (h ∷ more) job = if nat_eq h.by.job.0 job then Some h else held_at more job

-- of the revisions that are held, that of one job is now this one, or none; the others stay
abbrev pub HeldAfter : ℕ → Option Held → List Held → List Held → Type 0
HeldAfter job now before after =
    (other : ℕ) → held_at after other ≡ (if nat_eq other job then now else held_at before other)
