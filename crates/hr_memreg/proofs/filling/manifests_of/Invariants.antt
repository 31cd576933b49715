use Rattle.std.proofs.Common.{◌≡◌, [], map}
use Rattle.std.specs.Vec.Iter.{into_iter_items}
use Rattle.hr_digest.specs.Order.{digest_cmp}
use Rattle.hr_memreg.specs.Listed.{put_all, manifest_entry}
use Rattle.hr_memreg.proofs.filling.manifests_of.Given as goal

abbrev pub invariant-loop-manifest : goal.invariant-loop-manifest
invariant-loop-manifest l =
    put_all digest_cmp l.kept.entries (map manifest_entry (into_iter_items l.manifest-iterator)) ≡ put_all
    digest_cmp [] (map manifest_entry l.fn.manifests)
