-- How many more steps a revision that is held goes on for, at most. (Our own.)
use Rattle.std.specs.Prelude.{ℕ, ◌+◌, ◌*◌, ◌-◌, Bool, true, false, length, Option, Some, None, IfSome}
use Rattle.hr_graph.specs.Sound.{IsSound}
use Rattle.hr_graph.specs.Walk.{left_of}
use Rattle.hr_graph.specs.declared.opened.TheConstants.{PAIR_LIMIT}
use Rattle.hr_line.specs.State.{State, held_at}
use Rattle.hr_line.specs.declared.held.Held.{Held}
use Rattle.hr_line.specs.declared.held.Work.{Work}

-- one until the destination was looked at
abbrev pub look_left : Bool → ℕ
look_left true = 0
look_left false = 1

-- how many more steps a tag takes at most: one that was not read yet, as many as any walk and a look
-- take, and one for the reading
abbrev pub work_left : Option Work → ℕ
work_left None = 2 * PAIR_LIMIT + 2
work_left (Some w) = left_of w.walk + look_left w.looked

-- how many more steps a revision goes on for at most: those for the tag that comes next, and as many
-- as a tag can take for each that is not finished
abbrev pub steps_left : Held → ℕ
steps_left h = (length h.by.spec.tags - h.next) * (2 * PAIR_LIMIT + 3) + work_left h.work

-- the same of a job, where a revision of it is held
abbrev pub held_left : Option Held → ℕ
held_left None = 0
held_left (Some h) = steps_left h

-- the same of a job of a lane
abbrev pub job_left : State → ℕ → ℕ
job_left s job = held_left (held_at s.held job)

-- the walk of a revision that is held, where it is at work on a tag, is as walks are at every moment
abbrev pub HasSoundWalk : Held → Type 0
HasSoundWalk h = IfSome h.work (λ w. IsSound w.walk)
