-- What the store is given: hooks, which are delivered or forged, and sweeps; and how time passes.
-- (Our own, after Harbor's task manager.)
use Rattle.std.specs.Prelude.{◌≡◌, ◌≤◌, ℕ, suc, Some, None}
use Rattle.hr_base.specs.Moment.{later_by}
use Rattle.hr_base.specs.declared.status.Hook.{Hook}
use Rattle.hr_event.specs.declared.told.Told.{Told}
use Rattle.hr_event.specs.declared.told.Told.TheVariants as told
use Rattle.hr_event.specs.declared.view.Received.{Received}
use Rattle.hr_board.specs.Plain.{view_of}
use Rattle.hr_store.specs.Receiving.{ReceivesHook}
use Rattle.hr_store.specs.Sweeping.{SweepsEnded}
use Rattle.hr_run.specs.State.{CoreState, hook_at, with_mark}
use Rattle.hr_run.specs.Triggering.{moment_of}

-- ---- hooks are delivered

-- the hook at a place, from 0, was delivered
pub record Delivers (s : CoreState) (place : ℕ) (answer : Told) (t : CoreState) : Type 0 where
  pub hook : Hook
  pub there : hook_at s.hooks (suc place) ≡ Some hook
  pub came : Received
  pub receives : ReceivesHook s.store (view_of s.board) hook came t.store (view_of t.board)
  pub marks : t.delivered ≡ with_mark s.delivered place
  pub tells : answer ≡ told.Heard (suc place) came
  pub after : t ≡ record s { board = t.board; store = t.store; delivered = t.delivered }

-- there is no hook of this number
pub record FindsNoHook (s : CoreState) (number : ℕ) (answer : Told) (t : CoreState) : Type 0 where
  pub none : hook_at s.hooks number ≡ None
  pub tells : answer ≡ told.NoHook number
  pub same : t ≡ s

-- a hook that nobody emitted was delivered
pub record Forges (s : CoreState) (hook : Hook) (answer : Told) (t : CoreState) : Type 0 where
  pub small : hook.rev ≤ 3
  pub came : Received
  pub receives : ReceivesHook s.store (view_of s.board) hook came t.store (view_of t.board)
  pub tells : answer ≡ told.Heard 0 came
  pub after : t ≡ record s { board = t.board; store = t.store }

-- ---- time and sweeps

-- so many seconds passed
pub record Waits (s : CoreState) (seconds : ℕ) (answer : Told) (t : CoreState) : Type 0 where
  pub now : t.now ≡ later_by s.now seconds
  pub tells : answer ≡ told.Now (moment_of t)
  pub after : t ≡ record s { now = t.now }

-- the ended executions of each policy were dropped but the newest ones
pub record Sweeps (s : CoreState) (keep : ℕ) (answer : Told) (t : CoreState) : Type 0 where
  pub count : ℕ
  pub sweeps : SweepsEnded s.store keep count t.store
  pub tells : answer ≡ told.Swept count
  pub after : t ≡ record s { store = t.store }
