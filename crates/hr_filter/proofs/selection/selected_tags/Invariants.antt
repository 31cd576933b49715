-- The set has what was selected of the listing so far.
use Rattle.std.proofs.Common.{◌↔◌, IsTrue, take}
use Rattle.std.specs.BTreeSet.{contains}
use Rattle.hr_filter.specs.Selection.{IsSelected, RepoTag, repo_tag_cmp}
use Rattle.hr_filter.proofs.selection.selected_tags.Given as goal

abbrev pub invariant-loop-listed : goal.invariant-loop-listed
invariant-loop-listed l =
    (tag : RepoTag) → IsTrue (contains repo_tag_cmp l.selected tag) ↔ IsSelected l.filters (take l.listed-index l.listing) tag
