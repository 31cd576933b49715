use Rattle.std.proofs.Common.{◌++◌, List, refl, sym, ap, ◌∙◌, arith}
use Rattle.std.specs.Option.{option_copied}
use Rattle.std.proofs.lemmas.List.Sums.{prefix_len-le-length}
use Rattle.hr_filter.specs.declared.listed.Pick.{Pick}
use Rattle.hr_filter.specs.Grouping.{grouped}
use Rattle.hr_filter.proofs.GroupLemmas.{first_tag, group_more, some_together}
use Rattle.hr_filter.proofs.grouping.group.Goals as goal

pub split_at-requires : goal.split_at-requires
split_at-requires c = rw c.count_under.ensures (prefix_len-le-length _ _)

pub loop-repo-smaller : goal.loop-repo-smaller
loop-repo-smaller c =
    let tag = c.in-Some.field-0.now in
    let cut = first_tag c.loop-repo.left.now tag (sym c.first.ensures.value ∙ ap option_copied c.in-Some.is) in
    let some = some_together c.loop-repo.left.now tag.0 tag c.count_under.result cut refl c.count_under.ensures in
    let less = c.split_at.ensures.back_len in
    omega (arith, some, less)

pub loop-repo-preserved : goal.loop-repo-preserved
loop-repo-preserved c =
    let tag = c.in-Some.field-0.now in
    let cut = first_tag c.loop-repo.left.now tag (sym c.first.ensures.value ∙ ap option_copied c.in-Some.is) in
    ap (λ (picks : List Pick). picks ++ grouped c.split_at.result.1.now) c.in_ok-push.ensures.ok
    ∙ group_more c.loop-repo.picks c.args.tags.now c.loop-repo.left.now c.split_at.result.0.now c.split_at.result.1.now tag.0 tag
    (record { repo = c.in_ok-copy.field-0; tags = c.in_ok-tags_of.field-0 }) c.count_under.result
    c.loop-repo.invariant cut refl c.count_under.ensures c.split_at.ensures.front c.split_at.ensures.back
    c.in_ok-copy.ensures c.in_ok-tags_of.ensures
