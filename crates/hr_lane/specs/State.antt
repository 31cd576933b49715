-- A lane as contracts see it, and what holds of it at every moment. (Our own.)
use Rattle.std.specs.Prelude.{◌≡◌, ◌≤◌, ℕ, List, [], length, IfSome, IsSome}
use Rattle.std.specs.List.{AllByRecursion}
use Rattle.hr_base.specs.declared.limit.TheConstants.{PIECE}
use Rattle.hr_base.specs.declared.status.Hook.{Hook}
use Rattle.hr_event.specs.declared.entry.Entry.{Entry}
use Rattle.hr_adapter.specs.Reg.{IsSound}
use Rattle.hr_line.specs.State.{Link, State, held_at, link_at}
use Rattle.hr_line.specs.declared.held.Admitted.{Admitted}
use Rattle.hr_line.specs.declared.held.Held.{Held}
use Rattle.hr_lane.specs.Conn.{AreDistinct}
use Rattle.hr_lane.specs.Line.{IsLive}

-- a lane by its parts
abbrev pub state_of : List Link → List Link → List Entry → List Hook → List Admitted → List Held
    → State
state_of sources dests log hooks admitted held = record {
  sources = sources;
  dests = dests;
  log = log;
  hooks = hooks;
  admitted = admitted;
  held = held;
}

-- a lane that has written these entries and hooks, and nothing else
abbrev pub written : List Entry → List Hook → State
written log hooks = state_of [] [] log hooks [] []

-- a lane before its first admission
abbrev pub new_lane : List Link → List Link → State
new_lane sources dests = state_of sources dests [] [] [] []

-- a revision that is held can be stepped: its word stands on a board, its task has its two
-- connections, and its walk, where it has one, goes on
pub record CanStep (s : State) (h : Held) : Type 0 where
  pub job : 1 ≤ h.by.job.0
  pub rev : h.by.rev ≤ 3
  pub source : IsSome (link_at s.sources h.by.spec.src)
  pub dest : IsSome (link_at s.dests h.by.spec.dst)
  pub live : IfSome h.work IsLive

-- connections are to different registries, and each is sound
pub record AreInOrder (links : List Link) : Type 0 where
  pub distinct : AreDistinct links
  pub sound : AllByRecursion (λ l. IsSound l.seen) links

-- what holds of a lane at every moment: what it holds can be stepped, there is room for the last
-- entry and the last hook of each, and, once one was admitted, there is a buffer
pub record IsReady (s : State) (entries hooks buffer : ℕ) : Type 0 where
  pub sources : AreInOrder s.sources
  pub dests : AreInOrder s.dests
  pub each : (job : ℕ) → IfSome (held_at s.held job) (CanStep s)
  pub entries_fit : length s.held ≤ entries
  pub hooks_fit : length s.held ≤ hooks
  pub buffer_full : (job : ℕ) → IsSome (held_at s.held job) → buffer ≡ PIECE
