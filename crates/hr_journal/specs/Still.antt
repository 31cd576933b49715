-- Which entries of a journal put, read or say something. (Our own.)
use Rattle.std.specs.Prelude.{⊤}
use Rattle.hr_event.specs.declared.entry.How.TheVariants.{Put, Unsure}
use Rattle.hr_event.specs.declared.entry.What.{What}
use Rattle.hr_event.specs.declared.entry.What.TheVariants.{Began, ReadTag, ReadChild, GotBlob, Show, Ended, Dropped}

-- an entry by which no tag was put
abbrev pub PutsNoTag : What → Type 0
PutsNoTag (Show tag d old Put) = ⊥
PutsNoTag (Show tag d old Unsure) = ⊥
PutsNoTag _ = ⊤

-- an entry that says nothing of the destination, and did nothing there: a tag was read, or the
-- revision began, ended or was given up
abbrev pub IsStill : What → Type 0
IsStill Began = ⊤
IsStill (ReadTag tag media bytes) = ⊤
IsStill (Ended status cause) = ⊤
IsStill Dropped = ⊤
IsStill _ = ⊥

-- an entry by which nothing was read at the source
abbrev pub ReadsNothing : What → Type 0
ReadsNothing (ReadTag tag media bytes) = ⊥
ReadsNothing (ReadChild d media bytes) = ⊥
ReadsNothing (GotBlob d len) = ⊥
ReadsNothing _ = ⊤
