use Rattle.std.proofs.Common.{◌∙◌, ap}
use Rattle.std.specs.Map.{lookup}
use Rattle.std.specs.BTreeMap.{is_at}
use Rattle.std.specs.Cmp.Lexicographic.{slice_cmp}
use Rattle.std.specs.Ordering.{nat_cmp}
use Rattle.hr_adapter.specs.Content.{repo_at}
use Rattle.hr_memreg.proofs.held.Held.repository.Goals as goal

pub returns : goal.returns
unfolding repo_at
returns c = c.get.ensures.value ∙ ap (lookup (is_at (slice_cmp nat_cmp c.args.repo.now))) c.self.view_is
