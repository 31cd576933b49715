-- A lane from its opening on: which revisions are admitted to it and which steps it does, one after
-- the other. (Our own.)
use Rattle.std.specs.Prelude.{◌≡◌, ◌≢◌, ⊤, ℕ, IsTrue, List, [], ◌∷◌, Contains, Some, None, nat_eq}
use Rattle.std.specs.List.{filter}
use Rattle.hr_base.specs.declared.number.JobNo.{JobNo}
use Rattle.hr_base.specs.declared.number.RegNo.{RegNo}
use Rattle.hr_digest.specs.declared.digest.Digest.{Digest}
use Rattle.hr_name.specs.Name.{RepoName}
use Rattle.hr_name.specs.Tag.{TagName}
use Rattle.hr_event.specs.declared.entry.Entry.{Entry}
use Rattle.hr_adapter.specs.Content.{Content, Honest, tag_at}
use Rattle.hr_adapter.specs.Reg.{Reg}
use Rattle.hr_journal.specs.Promise.{WasPut}
use Rattle.hr_journal.specs.Says.{Placement}
use Rattle.hr_journal.specs.Shown.{IsComplete}
use Rattle.hr_line.specs.Admission.{Admits}
use Rattle.hr_line.specs.Orderly.{IsNew}
use Rattle.hr_line.specs.State.{AreSound, Link, State, held_at, link_at}
use Rattle.hr_line.specs.Step.{Step}
use Rattle.hr_line.specs.declared.answer.Admit.{Admit}
use Rattle.hr_line.specs.declared.answer.Stepped.{Stepped}
use Rattle.hr_line.specs.declared.held.Admitted.{Admitted}

-- no registry has two of these connections
abbrev pub AreApart : List Link → Type 0
AreApart [] = ⊤
AreApart (l ∷ more) = (link_at more l.reg ≡ None) × AreApart more

-- nothing was admitted yet
pub record IsOpening (s : State) : Type 0 where
  pub log : s.log ≡ []
  pub hooks : s.hooks ≡ []
  pub admitted : s.admitted ≡ []
  pub held : s.held ≡ []
  pub apart : AreApart s.dests

-- what a lane was asked for, and its answer
pub data Call : Type 0 where
  admit : Admitted → Admit → Call
  step : JobNo → Stepped → Call

-- one call: each revision of a job is admitted once
abbrev pub Happens : Call → State → State → Type 0
Happens (Call.admit a answer) s t = IsNew s.admitted a × Admits s t a answer
Happens (Call.step job answer) s t = Step s t job answer

-- calls one after the other, the newest first, where each connection is at every moment as every one
-- is
abbrev pub Runs : List Call → State → State → Type 0
Runs [] s t = t ≡ s
Runs (call ∷ before) s t = (mid : State) × Runs before s mid × AreSound mid.sources × AreSound mid.dests
    × Happens call mid t

-- the entries of one job
abbrev pub entries_of : ℕ → List Entry → List Entry
entries_of job log = filter (λ e. nat_eq e.job.0 job) log

-- what the lane has of every other job stays
pub record OthersStay (s t : State) (job : ℕ) : Type 0 where
  pub held : (other : ℕ) → other ≢ job → held_at t.held other ≡ held_at s.held other
  pub logged : (other : ℕ) → other ≢ job → entries_of other t.log ≡ entries_of other s.log
  pub admitted : t.admitted ≡ s.admitted

-- a destination as it was opened, where everything stood under its own digest, and no change was
-- planned, and as a lane has it now: its contents then and now
pub record IsDestination (opened : List Link) (t : State) (reg : RegNo) (o c : Content)
    : Type 0 where
  pub first : Link
  pub within : Contains opened first
  pub named : first.reg ≡ reg
  pub quiet : IsTrue first.seen.quiet
  pub told : first.seen.told ≡ Some o
  pub honest : Honest o
  pub now : Reg
  pub there : link_at t.dests reg ≡ Some now
  pub tells : now.told ≡ Some c

-- each tag that was put, and names that manifest still, names one whose graph is there
abbrev pub AreComplete : Placement → List Entry → Content → Type 0
AreComplete to log c = (repo : RepoName) (tag : TagName) (d : Digest)
    → tag_at c repo tag ≡ Some d → WasPut to log repo tag d → IsComplete c repo d
