use Rattle.std.proofs.Common.{◌≡◌, [], map}
use Rattle.std.specs.Vec.Iter.{into_iter_items}
use Rattle.hr_digest.specs.Order.{digest_cmp}
use Rattle.hr_memreg.specs.Listed.{put_all, blob_entry}
use Rattle.hr_memreg.proofs.filling.blobs_of.Given as goal

abbrev pub invariant-loop-blob : goal.invariant-loop-blob
invariant-loop-blob l =
    put_all digest_cmp l.kept.entries (map blob_entry (into_iter_items l.blob-iterator)) ≡ put_all digest_cmp []
    (map blob_entry l.fn.blobs)
