-- Equality and order of digests, for maps that are keyed by them. (The order is our own.)
use Rattle.std.specs.Prelude.{◌≡◌, Bool, nat_eq}
use Rattle.std.specs.Cmp.{IsEquivalence, IsPartialOrder, IsTotalOrder, nat_cmp_total, on_equiv, on_po, on_total}
use Rattle.std.specs.Cmp.Lexicographic.{lists_total, nat_list_eq_equiv, pointwise, slice_cmp, texts_po, texts_ties}
use Rattle.std.specs.Ordering.{as_partial_cmp, eq_by_cmp, nat_cmp}
use Rattle.std.specs.declared.cmp.Ordering.{Ordering}
use Rattle.hr_base.specs.Bytes.{ByteList}
use Rattle.hr_digest.specs.declared.digest.Digest.{Digest}
use Rattle.hr_digest.specs.declared.digest.Digest.TheVariants.{Sha256}

-- the bytes of a digest's hash
abbrev pub hash_of : Digest → ByteList
hash_of (Sha256 hash) = hash

-- whether two digests have the same hash
abbrev pub digest_eq : Digest → Digest → Bool
digest_eq a b = pointwise nat_eq (hash_of a) (hash_of b)

-- digests are in the order of the bytes of their hashes
abbrev pub digest_cmp : Digest → Digest → Ordering
digest_cmp a b = slice_cmp nat_cmp (hash_of a) (hash_of b)

-- equality of digests is an equivalence
pub digests_equal : IsEquivalence digest_eq
digests_equal = on_equiv hash_of nat_list_eq_equiv

-- the order of digests is total
pub digests_ordered : IsTotalOrder digest_cmp
digests_ordered = on_total hash_of (lists_total nat_cmp_total)

-- the order of digests is one that goes with their equality
pub digests_partly : IsPartialOrder digest_eq (as_partial_cmp digest_cmp)
digests_partly = on_po hash_of texts_po

-- digests that the order ties are the equal ones
pub digests_tie : (a b : Digest) → digest_eq a b ≡ eq_by_cmp digest_cmp a b
digests_tie a b = texts_ties (hash_of a) (hash_of b)
