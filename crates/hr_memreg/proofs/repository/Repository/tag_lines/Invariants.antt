use Rattle.std.proofs.Common.{◌≡◌, ◌++◌}
use Rattle.std.specs.List.{filter_map}
use Rattle.hr_memreg.specs.Listed.{tag_line}
use Rattle.hr_memreg.proofs.repository.Repository.tag_lines.Given as goal

abbrev pub invariant-loop-tag : goal.invariant-loop-tag
invariant-loop-tag l = l.lines ++ filter_map (tag_line l.self) l.tag-iterator ≡ filter_map (tag_line l.self) l.self.tags
