-- What a source lists for a policy, and how it came about: its repositories were listed, then the
-- tags of each that meets all filters on names, in order. (Our own.)
use Rattle.std.specs.Prelude.{◌≡◌, ℕ, List, [], ◌∷◌, ◌++◌, map, flat_map, Result, Ok, Err}
use Rattle.hr_name.specs.Name.{RepoName}
use Rattle.hr_adapter.specs.Calls.{ListsRepos, ListsTags}
use Rattle.hr_adapter.specs.Content.{Content}
use Rattle.hr_adapter.specs.Listing.{repos_of, tags_of}
use Rattle.hr_adapter.specs.Reg.{IsSound, Reg}
use Rattle.hr_adapter.specs.declared.fault.RegFault.{RegFault}
use Rattle.hr_adapter.specs.declared.fault.RegFault.TheVariants as fault
use Rattle.hr_adapter.specs.declared.listed.Tagged.{Tagged}
use Rattle.hr_filter.specs.declared.filter.Filter.{Filter}
use Rattle.hr_filter.specs.declared.listed.Listed.{Listed}
use Rattle.hr_plan.specs.Naming.{MeetsNames}
use Rattle.hr_plan.specs.declared.refusal.PlanRefused.{PlanRefused}
use Rattle.hr_plan.specs.declared.refusal.PlanRefused.TheVariants as why

-- ---- what is listed

-- a tag of a repository as a listing has it
abbrev pub listed_as : RepoName → Tagged → Listed
listed_as repo tagged = record { repo = repo; tag = tagged.tag; labels = tagged.labels }

-- the tags of a repository as a listing has them
abbrev pub listed_in : RepoName → List Tagged → List Listed
listed_in repo tags = map (listed_as repo) tags

-- all tags of these repositories of a content
abbrev pub listed_under : Content → List RepoName → List Listed
listed_under c repos = flat_map (λ repo. listed_in repo (tags_of c repo)) repos

-- all tags of a content
abbrev pub listing_of : Content → List Listed
listing_of c = listed_under c (repos_of c)

-- ---- calls

-- the source was asked for its repositories
pub record AsksRepos (before after : Reg) (result : Result (List RepoName) RegFault) : Type 0 where
  pub sound : IsSound before
  pub call : ListsRepos before after result

-- the source was asked for the tags of a repository
pub record AsksTags (repo : RepoName) (before after : Reg) (result : Result (List Tagged) RegFault)
    : Type 0 where
  pub sound : IsSound before
  pub call : ListsTags repo before after result

-- why there is no plan where a call answered that, between two counts of faults
abbrev pub refused_by : RegFault → ℕ → ℕ → PlanRefused
refused_by fault.Failed before after = PlanRefused.Fault before after
refused_by (fault.TooLong len) before after = PlanRefused.TooLong len
refused_by fault.Memory before after = PlanRefused.Memory

-- there is no plan by what a call answered between two states: a fault is told with the counts of
-- faults just before the call and just after
abbrev pub Refuses : (RegFault → Type 0) → Reg → Reg → PlanRefused → Type 0
Refuses Answers before after (why.Fault low high) =
    Answers RegFault.Failed × (low ≡ before.faults) × (high ≡ after.faults)
Refuses Answers before after (why.TooLong len) = Answers (RegFault.TooLong len)
Refuses Answers before after (why.Dest repo) = ⊥
Refuses Answers before after why.Memory = Answers RegFault.Memory

-- ---- one repository

-- a repository was gone through: where it meets all filters on names, its tags were listed and
-- stand at the end of the listing; where it doesn't, nothing was asked
pub data Visits (filters : List Filter) (repo : RepoName) (before after : Reg)
    (listing made : List Listed) : Type 0 where
  passed : (MeetsNames filters repo → ⊥) → after ≡ before → made ≡ listing
      → Visits filters repo before after listing made
  asked : (tags : List Tagged) → MeetsNames filters repo → AsksTags repo before after (Ok tags)
      → made ≡ listing ++ listed_in repo tags → Visits filters repo before after listing made

-- a repository that meets all filters on names was not gone through: its tags were not listed, or
-- there was no room for them
pub data Halts (filters : List Filter) (repo : RepoName) (before after : Reg) (why : PlanRefused)
    : Type 0 where
  failed : MeetsNames filters repo
      → Refuses (λ fault. AsksTags repo before after (Err fault)) before after why
      → Halts filters repo before after why
  unkept : (tags : List Tagged) → MeetsNames filters repo → AsksTags repo before after (Ok tags)
      → why ≡ PlanRefused.Memory → Halts filters repo before after why

-- ---- all repositories

-- these repositories were gone through, in order
pub data Goes (filters : List Filter) (before : Reg)
    : List RepoName → Reg → List Listed → Type 0 where
  none : {names : List RepoName} {after : Reg} {made : List Listed} → names ≡ [] → after ≡ before
      → made ≡ [] → Goes filters before names after made
  more : {names : List RepoName} {after : Reg} {made : List Listed} (front : List RepoName)
      (repo : RepoName) (mid : Reg) (listing : List Listed) → names ≡ front ++ repo ∷ []
      → Goes filters before front mid listing → Visits filters repo mid after listing made
      → Goes filters before names after made

-- the repositories were listed, and those of a front gone through
pub record Reaches (filters : List Filter) (before : Reg) (front rest : List RepoName) (after : Reg)
    (listing : List Listed) : Type 0 where
  pub first : Reg
  pub asks : AsksRepos before first (Ok (front ++ rest))
  pub goes : Goes filters first front after listing

-- the source was listed to its end
pub record Lists (filters : List Filter) (before after : Reg) (listing : List Listed) : Type 0 where
  pub names : List RepoName
  pub reaches : Reaches filters before names [] after listing

-- the source was not listed to its end, or there was no room for what came of it
pub data Breaks (filters : List Filter) (before after : Reg) (why : PlanRefused) : Type 0 where
  at_repos : Refuses (λ fault. AsksRepos before after (Err fault)) before after why
      → Breaks filters before after why
  at_tags : (front rest : List RepoName) (repo : RepoName) (mid : Reg) (listing : List Listed)
      → Reaches filters before front (repo ∷ rest) mid listing → Halts filters repo mid after why
      → Breaks filters before after why
  no_room : (listing : List Listed) → Lists filters before after listing
      → why ≡ PlanRefused.Memory → Breaks filters before after why
