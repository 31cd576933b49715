-- What the filters of a policy select. (Our own, after Harbor's.)
use Rattle.std.specs.Prelude.{⊤, Bool, not, All, Contains}
use Rattle.hr_pattern.specs.Form.{Fits}
use Rattle.hr_filter.specs.declared.filter.Decoration.{Decoration}
use Rattle.hr_filter.specs.declared.filter.Decoration.TheVariants.{Matches, Excludes}
use Rattle.hr_filter.specs.declared.filter.Filter.{Filter}
use Rattle.hr_filter.specs.declared.filter.Filter.TheVariants.{Name, Tag, Label, Resource}
use Rattle.hr_filter.specs.declared.listed.Listed.{Listed}

-- a test as a filter is decorated: its answer, or the opposite
abbrev pub selects : Decoration → Bool → Bool
selects Matches holds = holds
selects Excludes holds = not holds

-- a fact as a filter is decorated: it holds, or it doesn't
abbrev pub Decorated : Decoration → Type 0 → Type 0
Decorated Matches Fact = Fact
Decorated Excludes Fact = ¬ Fact

-- a listed tag meets a filter: the name of its repository fits the pattern, or the tag does, or it
-- has all the labels; or for Excludes the opposite
abbrev pub Meets : Listed → Filter → Type 0
Meets listed (Name pattern decoration) = Decorated decoration (Fits pattern listed.repo)
Meets listed (Tag pattern decoration) = Decorated decoration (Fits pattern listed.tag)
Meets listed (Label labels decoration) = Decorated decoration (All (Contains listed.labels) labels)
Meets listed Resource = ⊤
