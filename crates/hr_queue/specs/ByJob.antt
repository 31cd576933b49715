-- The turns that are out, by job number. (Our own.)
use Rattle.std.specs.Prelude.{◌≡◌, ℕ, ◌<◌, nat_lt, cond, suc, List, [], ◌∷◌, slice_get, Some}
use Rattle.std.specs.List.{AllByRecursion, Contains, insert, remove}
use Rattle.hr_base.specs.declared.number.JobNo.{JobNo}
use Rattle.hr_event.specs.declared.task.Turn.{Turn}

-- each of the turns is of a greater job
abbrev pub AllAbove : ℕ → List Turn → Type 0
AllAbove job turns = AllByRecursion (λ t. job < t.job.0) turns

-- the turns stand by job number, and none is of the same job as another
abbrev pub IsRising : List Turn → Type 0
IsRising [] = Unit {0}
IsRising (t ∷ ts) = AllAbove t.job.0 ts × IsRising ts

-- how many turns at the front are of lower jobs: the place of a job among turns by job number
abbrev pub rank : ℕ → List Turn → ℕ
rank job [] = 0
rank job (t ∷ ts) = cond (nat_lt t.job.0 job) (suc (rank job ts)) 0

-- turns by job number, with one more
abbrev pub with_turn : List Turn → Turn → List Turn
with_turn turns t = insert turns (rank t.job.0 turns) t

-- turns by job number, without that of this job
abbrev pub without_job : List Turn → ℕ → List Turn
without_job turns job = remove turns (rank job turns)

-- the turn of this job and revision is out, and is this one
pub record IsOut (out : List Turn) (turn held : Turn) : Type 0 where
  pub there : slice_get out (rank turn.job.0 out) ≡ Some held
  pub job : held.job ≡ turn.job
  pub rev : held.rev ≡ turn.rev

-- no turn of this job and revision is out
abbrev pub NotOut : List Turn → Turn → Type 0
NotOut out turn = (held : Turn) → IsOut out turn held → ⊥

-- no turn of this job is out
abbrev pub NoneOut : List Turn → JobNo → Type 0
NoneOut out job = (t : Turn) → Contains out t → t.job ≡ job → ⊥
