use Rattle.std.proofs.Common.{◌∙◌, ◌++◌, ◌∷◌, [], ap, sym, reverse}
use Rattle.hr_graph.specs.Meeting.{moved_to}
use Rattle.hr_graph.proofs.StepLemmas.{begin_keeps}
use Rattle.hr_graph.proofs.walk.Walk.begin.Goals as goal

pub invariant_of-result : goal.invariant_of-result
invariant_of-result c =
    begin_keeps c.args.root c.args.manifest c.requires _ (c.deref.ensures.value ∙ c.in_ok-push.ensures.items ∙ ap (λ l. l ++ record { digest = c.args.root; manifest = c.args.manifest; level = 0; next = 0 } ∷ []) c.new-opened.ensures.items)
    _ _ c.with_hasher-blobs.ensures.empty c.with_hasher-manifests.ensures.empty _ c.next_in.ensures c.in_ok-next.next c.move_to.new.opened.items
    c.in_ok-next.was (c.move_to.ensures ∙ ap (λ l. moved_to c.in_ok-next.next.at (reverse l)) (sym c.deref.ensures.value))
