-- Which repositories a policy asks for their tags. (Our own, after Harbor's.)
use Rattle.std.specs.Prelude.{⊤, List, All}
use Rattle.hr_name.specs.Name.{RepoName}
use Rattle.hr_pattern.specs.Form.{Fits}
use Rattle.hr_filter.specs.Filter.{Decorated}
use Rattle.hr_filter.specs.declared.filter.Filter.{Filter}
use Rattle.hr_filter.specs.declared.filter.Filter.TheVariants.{Name, Tag, Label, Resource}

-- a repository meets a filter, as far as its name decides that
abbrev pub MeetsName : RepoName → Filter → Type 0
MeetsName repo (Name pattern decoration) = Decorated decoration (Fits pattern repo)
MeetsName repo (Tag pattern decoration) = ⊤
MeetsName repo (Label labels decoration) = ⊤
MeetsName repo Resource = ⊤

-- a repository meets each filter on names
abbrev pub MeetsNames : List Filter → RepoName → Type 0
MeetsNames filters repo = All (MeetsName repo) filters
