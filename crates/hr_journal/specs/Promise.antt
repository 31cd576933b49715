-- What operators rest on: each tag that was put names a manifest that was read at the source, whose
-- whole graph stands at the destination. (Our own.)
use Rattle.std.specs.Prelude.{◌≡◌, ◌⊎◌, List, Contains, Option, Some}
use Rattle.hr_digest.specs.declared.digest.Digest.{Digest}
use Rattle.hr_name.specs.Name.{RepoName}
use Rattle.hr_name.specs.Tag.{TagName}
use Rattle.hr_event.specs.declared.entry.Entry.{Entry}
use Rattle.hr_event.specs.declared.entry.How.{How}
use Rattle.hr_event.specs.declared.entry.How.TheVariants.{Put, Unsure}
use Rattle.hr_event.specs.declared.entry.What.TheVariants.{Show}
use Rattle.hr_adapter.specs.Content.{Content, Honest, tag_at}
use Rattle.hr_journal.specs.Graph.{StandsWhole}
use Rattle.hr_journal.specs.Puts.{Puts}
use Rattle.hr_journal.specs.OneEach.{OneEach}
use Rattle.hr_journal.specs.Says.{Placement, placed}

-- a tag was put, or may have been
abbrev pub IsPut : How → Type 0
IsPut how = (how ≡ Put) ⊎ (how ≡ Unsure)

-- the journal says that a tag of a repository was put to name a digest
pub record WasPut (to : Placement) (log : List Entry) (repo : RepoName) (tag : TagName)
    (d : Digest) : Type 0 where
  pub entry : Entry
  pub old : Option Digest
  pub how : How
  pub logged : Contains log entry
  pub place : placed to entry ≡ Some repo
  pub says : entry.what ≡ Show tag d old how
  pub put : IsPut how

-- each tag that was put, and names that manifest still, names one whose graph stands there whole
abbrev pub TagsStandWhole : Placement → List Entry → Content → Type 0
TagsStandWhole to log c = (repo : RepoName) (tag : TagName) (d : Digest)
    → tag_at c repo tag ≡ Some d → WasPut to log repo tag d → StandsWhole c repo d

-- what holds of a destination that opened with the content o: its content is what the journal
-- leaves of that, and, where no digest stands for two contents, the tags that were put are whole
pub record Promise (to : Placement) (o : Content) (log : List Entry) (c : Content) : Type 0 where
  pub puts : Puts to o log c
  pub honest : Honest c
  pub whole : OneEach to o log → TagsStandWhole to log c
