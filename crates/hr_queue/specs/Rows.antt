-- Rows of the jobs that were added, by job number, some of whose turns are out. (Our own.)
use Rattle.std.specs.Prelude.{◌≡◌, ℕ, ◌<◌, ◌≤◌, nat_eq, nat_lt, Bool, ◌&&◌, true, false, cond, suc, List, [], ◌∷◌, length, slice_get, Some}
use Rattle.std.specs.List.{AllByRecursion, count_by}
use Rattle.std.specs.List.Sorted.{IsPermutation}
use Rattle.std.specs.declared.cmp.Reverse.{Reverse}
use Rattle.hr_base.specs.declared.number.JobNo.{JobNo}
use Rattle.hr_event.specs.declared.task.Turn.{Turn}
use Rattle.hr_queue.specs.declared.rows.Row.{Row}
use Rattle.hr_queue.specs.declared.rows.Side.{Side}
use Rattle.hr_queue.specs.declared.rows.Side.TheVariants as side

-- whether a turn is out
abbrev pub is_out : Side → Bool
is_out side.In = false
is_out side.Back = false
is_out side.Out = true

-- whether a job is a candidate for the least one that is out
abbrev pub is_candidate : Side → Bool
is_candidate side.In = false
is_candidate side.Back = true
is_candidate side.Out = true

-- the turns that are out
abbrev pub outs : List Row → List Turn
outs [] = []
outs (r ∷ rs) = cond (is_out r.side) (r.turn ∷ outs rs) (outs rs)

-- each of the rows is of a greater job
abbrev pub RowsAbove : ℕ → List Row → Type 0
RowsAbove job rows = AllByRecursion (λ r. job < r.turn.job.0) rows

-- the rows stand by job number, and no job has two
abbrev pub AreByJob : List Row → Type 0
AreByJob [] = Unit {0}
AreByJob (r ∷ rs) = RowsAbove r.turn.job.0 rs × AreByJob rs

-- how many rows at the front are of lower jobs
abbrev pub row_rank : ℕ → List Row → ℕ
row_rank job [] = 0
row_rank job (r ∷ rs) = cond (nat_lt r.turn.job.0 job) (suc (row_rank job rs)) 0

-- how many rows a job has
abbrev pub times_row : List Row → ℕ → ℕ
times_row rows job = count_by (λ r. nat_eq r.turn.job.0 job) rows

-- how many rows of a job say that it is a candidate
abbrev pub times_said : List Row → ℕ → ℕ
times_said rows job = count_by (λ r. is_candidate r.side && nat_eq r.turn.job.0 job) rows

-- how often a job is among the candidates
abbrev pub times_candidate : List (Reverse JobNo) → ℕ → ℕ
times_candidate candidates job = count_by (λ c. nat_eq c.0.0 job) candidates

-- this row stands at this place, and is that of the job
pub record IsRow (rows : List Row) (at : ℕ) (job : JobNo) (row : Row) : Type 0 where
  pub there : slice_get rows at ≡ Some row
  pub is : row.turn.job ≡ job

-- both have rows of the same jobs
pub record SameJobs (rows after : List Row) : Type 0 where
  pub len : length after ≡ length rows
  pub each : (job : ℕ) → times_row after job ≡ times_row rows job

-- a job that is no candidate yet becomes one
abbrev pub Offers : Side → JobNo → List (Reverse JobNo) → List (Reverse JobNo) → Type 0
Offers side.In job candidates after = IsPermutation (record { 0 = job } ∷ candidates) after
Offers side.Back job candidates after = after ≡ candidates
Offers side.Out job candidates after = after ≡ candidates

-- the rows stand by job number, and the candidates, so many, are those that they say
pub record AreCandidates (rows : List Row) (candidates : List (Reverse JobNo)) (len : ℕ)
    : Type 0 where
  pub by_job : AreByJob rows
  pub each : (job : ℕ) → times_candidate candidates job ≡ times_said rows job
  pub count : len ≡ count_by (λ r. is_candidate r.side) rows

-- what the rows from one on say of the first candidate, by the side of that one
abbrev pub LeadsBy : Side → Type 0 → Type 0
LeadsBy side.In rest = rest
LeadsBy side.Back rest = ⊥
LeadsBy side.Out rest = Unit {0}

-- the first candidate is out, where there is one
abbrev pub LeadsOut : List Row → Type 0
LeadsOut [] = Unit {0}
LeadsOut (r ∷ rs) = LeadsBy r.side (LeadsOut rs)

-- what contracts see of the turns that are out: the rows, and for how many there is room
pub record Rows : Type 0 where
  pub rows : List Row
  pub room : ℕ

-- so many rows are within the room, and there are places for as many rows and as many candidates
pub record HasPlaces (rows room row_places candidate_places : ℕ) : Type 0 where
  pub within : rows ≤ room
  pub row_room : room ≤ row_places
  pub candidate_room : room ≤ candidate_places
