-- What a lane read, as the sources of its revisions have it. (Our own, over OCI Distribution 1.1,
-- "Pull".)
use Rattle.std.specs.Prelude.{List, Option, option_map, option_and_then}
use Rattle.hr_name.specs.Name.{RepoName}
use Rattle.hr_adapter.specs.Reg.{Reg}
use Rattle.hr_journal.specs.Origin.{Origin, Source, WereThere}
use Rattle.hr_line.specs.Orderly.{admitted_at}
use Rattle.hr_line.specs.State.{Link, State, link_at}
use Rattle.hr_line.specs.declared.held.Admitted.{Admitted}

-- a source that tells, for one that reads this repository of it
abbrev pub source_seen : RepoName → Reg → Option Source
source_seen from reg = option_map (λ c. record { content = c; ever = reg.ever; repo = from }) reg.told

-- the source of a revision, where it tells
abbrev pub source_of : List Link → Admitted → Option Source
source_of sources a = option_and_then (source_seen a.spec.from) (link_at sources a.spec.src)

-- the source of each revision that was admitted, where it tells
abbrev pub origin : List Link → List Admitted → Origin
origin sources admitted job rev = option_and_then (source_of sources) (admitted_at admitted job rev)

-- all that the journal says was read is what the sources have
abbrev pub AreSourced : State → Type 0
AreSourced s = WereThere (origin s.sources s.admitted) s.log
