use Rattle.std.proofs.Common.{◌∙◌, ap}
use Rattle.std.specs.Option.{option_and_then, option_flatten}
use Rattle.std.specs.Map.{lookup}
use Rattle.std.specs.BTreeMap.{is_at}
use Rattle.std.specs.Cmp.Lexicographic.{slice_cmp}
use Rattle.std.specs.Ordering.{nat_cmp}
use Rattle.hr_adapter.specs.Content.{Repo, target_at}
use Rattle.hr_memreg.proofs.held.Held.named.Goals as goal

pub returns-in-Some : goal.returns-in-Some
unfolding target_at
returns-in-Some c =
    c.named.ensures
    ∙ ap (λ held. option_flatten
    (option_and_then (λ (held : Repo). lookup (is_at (slice_cmp nat_cmp c.args.tag.now)) held.tags) held)) c.in-Some.ensures

pub returns-in-None : goal.returns-in-None
unfolding target_at
returns-in-None c =
    ap (λ held. option_flatten
    (option_and_then (λ (held : Repo). lookup (is_at (slice_cmp nat_cmp c.args.tag.now)) held.tags) held)) c.in-None.ensures
