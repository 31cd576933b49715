-- The moves of a status word, and what is reached by them. (Our own.)
use Rattle.std.specs.Prelude.{◌≡◌, ◌≢◌, ⊤, ℕ, ◌≤◌}
use Rattle.hr_base.specs.declared.status.Status.TheVariants.{Pending, Scheduled, Running, Stopped, Error, Success}
use Rattle.hr_base.specs.declared.status.Mark.{Mark}
use Rattle.hr_base.specs.declared.status.Mark.TheVariants.{Unopened, At}

-- a word may move from one mark to another
abbrev pub IsMove : Mark → Mark → Type 0
IsMove Unopened (At Pending) = ⊤
IsMove Unopened (At Scheduled) = ⊤
IsMove Unopened (At Stopped) = ⊤
IsMove (At Pending) (At Running) = ⊤
IsMove (At Pending) (At Stopped) = ⊤
IsMove (At Scheduled) (At Running) = ⊤
IsMove (At Scheduled) (At Stopped) = ⊤
IsMove (At Running) (At Stopped) = ⊤
IsMove (At Running) (At Error) = ⊤
IsMove (At Running) (At Success) = ⊤
IsMove from to = ⊥

-- a mark is reached from another by moves, none included
pub data IsReached (from : Mark) : Mark → Type 0 where
  at_once : IsReached from from
  by_move : (mark to : Mark) → IsReached from mark → IsMove mark to → IsReached from to

-- a word is reached from another: it is no lower, it is not Scheduled after Pending, and after a
-- final one it is the same
abbrev pub Below : ℕ → ℕ → Type 0
Below m n = (m ≤ n) × (m ≡ 1 → n ≢ 2) × (4 ≤ m → n ≡ m)
