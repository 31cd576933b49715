use Rattle.std.proofs.Common.{sym, ap, ◌∙◌}
use Rattle.std.specs.List.{join_with_byte}
use Rattle.hr_pattern.specs.Component.{components}
use Rattle.hr_filter.proofs.NamingLemmas.{all_leading, left_by_negative}
use Rattle.hr_filter.proofs.naming.left_of.Goals as goal

pub returns-then-count-lt0-clause-left : goal.returns-then-count-lt0-clause-left
returns-then-count-lt0-clause-left c =
    c.behind_leading.ensures.left
    ∙ ap (join_with_byte 47)
    (all_leading c.args.name.now ∙ sym (left_by_negative c.args.count (components c.args.name.now) c.ranges.count.sfits c.if-count-lt0.true))
