use Rattle.std.proofs.Common.{◌≡◌, ◌≤◌, arith, sym, ◌∙◌, ap}
use Rattle.std.specs.Prelude.{Some}
use Rattle.std.specs.Option.{option_copied}
use Rattle.std.specs.Map.{lookup}
use Rattle.hr_digest.specs.Order.{digest_eq}
use Rattle.hr_graph.specs.declared.opened.Finished.{Finished}
use Rattle.hr_graph.specs.declared.opened.TheConstants.{DEPTH_LIMIT}
use Rattle.hr_graph.proofs.ListLemmas.{known_holds}
use Rattle.hr_graph.proofs.opened.height_above.Goals as goal

pub overflow_add-result : goal.overflow_add-result
overflow_add-result c =
    let is : lookup (digest_eq c.args.child.now.digest) c.args.manifests.now.entries ≡ Some c.in-Some.done.now =
    sym c.get.ensures.value ∙ ap option_copied c.in-Some.is in
    let low : c.in-Some.done.now.height ≤ DEPTH_LIMIT =
    known_holds (digest_eq c.args.child.now.digest) (λ (f : Finished). f.height ≤ DEPTH_LIMIT) c.args.manifests.now.entries c.in-Some.done.now c.requires.low is in
    omega (arith, low)
