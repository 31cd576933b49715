-- The statuses of a task's revision, after those of Harbor's job service.
use Rattle.std.specs.Prelude.{◌≡◌, ◌<◌, ◌⊎◌, ℕ}
use Rattle.hr_base.specs.declared.status.Status.{Status}
use Rattle.hr_base.specs.declared.status.Status.TheVariants.{Pending, Scheduled, Running, Stopped, Error, Success}
use Rattle.hr_base.specs.declared.status.Mark.{Mark}
use Rattle.hr_base.specs.declared.status.Mark.TheVariants.{Unopened, At}

-- how far along a status is: the three that end a revision are equally far
abbrev pub code_of : Status → ℕ
code_of Pending = 0
code_of Scheduled = 1
code_of Running = 2
code_of Stopped = 3
code_of Error = 3
code_of Success = 3

-- nothing follows it in its revision
abbrev pub IsFinal : Status → Type 0
IsFinal status = code_of status ≡ 3

-- the word by which a board keeps a mark, from 0 to 6
abbrev pub word_of : Mark → ℕ
word_of Unopened = 0
word_of (At Pending) = 1
word_of (At Scheduled) = 2
word_of (At Running) = 3
word_of (At Stopped) = 4
word_of (At Error) = 5
word_of (At Success) = 6

-- a revision whose word has this mark reached this status, or went past it: the mark is that status,
-- or one of a greater code
abbrev pub Covers : Mark → Status → Type 0
Covers Unopened status = ⊥
Covers (At known) status = (known ≡ status) ⊎ (code_of status < code_of known)
