-- What receiving a hook does. (Our own.)
use Rattle.std.specs.Prelude.{◌≡◌, ℕ, nat_le, nat_lt, Bool, true, false, ◌&&◌, [], ◌∷◌, Some, None, IsSome}
use Rattle.hr_base.specs.declared.status.Hook.{Hook}
use Rattle.hr_base.specs.declared.status.Mark.{Mark}
use Rattle.hr_base.specs.Status.{Covers, word_of}
use Rattle.hr_board.specs.View.{Finds, View, noting, place_of}
use Rattle.hr_event.specs.declared.view.Received.{Received}
use Rattle.hr_event.specs.declared.view.Received.TheVariants.{Raised, Known, Unconfirmed, Unknown, Swept}
use Rattle.hr_store.specs.Row.{RowState, RoseIf, with_hook}
use Rattle.hr_store.specs.Store.{StoreState, execs_hearing, row_of_job}

-- a job of this number was made
abbrev pub was_made : StoreState → ℕ → Bool
was_made store job = nat_lt 0 job && nat_le job store.jobs

-- the board's look at the word of a hook found this mark
pub record FindsWord (board : View) (hook : Hook) (mark : Mark) (after : View) : Type 0 where
  pub finds : Finds board (place_of hook.job.0 hook.rev) (word_of mark)
  pub after_is : after ≡ noting board ((place_of hook.job.0 hook.rev, word_of mark) ∷ [])

-- the row of its job receives the hook, which the word found covers
pub record TakesHook (store : StoreState) (board : View) (hook : Hook) (raised : Bool)
    (after : StoreState) (board_after : View) : Type 0 where
  pub row : RowState
  pub there : row_of_job hook.job.0 store.kept ≡ Some row
  pub mark : Mark
  pub found : FindsWord board hook mark board_after
  pub covered : Covers mark hook.status
  pub after_is : after ≡ record store { kept = execs_hearing hook store.kept }
  pub rose : RoseIf raised row.received (with_hook row.received hook)

-- the word found does not cover the hook, which changes nothing
pub record LeavesHook (store : StoreState) (board : View) (hook : Hook) (mark : Mark)
    (after : StoreState) (board_after : View) : Type 0 where
  pub there : IsSome (row_of_job hook.job.0 store.kept)
  pub found : FindsWord board hook mark board_after
  pub uncovered : ¬ Covers mark hook.status
  pub after_is : after ≡ store

-- what becomes of a hook: its job was never made, or was swept; the board does not confirm it; or its
-- row receives it, and rises by it or not
abbrev pub ReceivesHook : StoreState → View → Hook → Received → StoreState → View → Type 0
ReceivesHook store board hook Unknown after board_after =
    (was_made store hook.job.0 ≡ false) × (after ≡ store) × (board_after ≡ board)
ReceivesHook store board hook Swept after board_after =
    (was_made store hook.job.0 ≡ true) × (row_of_job hook.job.0 store.kept ≡ None)
    × (after ≡ store) × (board_after ≡ board)
ReceivesHook store board hook (Unconfirmed mark) after board_after =
    LeavesHook store board hook mark after board_after
ReceivesHook store board hook Raised after board_after =
    TakesHook store board hook true after board_after
ReceivesHook store board hook Known after board_after =
    TakesHook store board hook false after board_after
