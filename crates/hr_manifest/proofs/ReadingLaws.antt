-- Laws of what is read as a manifest, for lemmas of the crates above; they are contracts in
-- src/law.rt too.
use Rattle.std.proofs.Common.{◌≡◌, ◌<◌, ◌≤◌, ◌⊎◌, inl, inr, ◌||◌, Bool, true, false, ℕ, List, length, arith, refl, sym}
use Rattle.std.specs.Cmp.Lexicographic.{bytes_decides}
use Rattle.std.specs.Prelude.{Some, None, if◌then◌else◌}
use Rattle.hr_base.specs.Bytes.{ByteList, Media}
use Rattle.hr_base.specs.declared.limit.TheConstants.{MANIFEST_LIMIT}
use Rattle.hr_manifest.specs.declared.child.Child.{Child}
use Rattle.hr_manifest.specs.declared.manifest.TheConstants.{CHILD_LIMIT}
use Rattle.hr_manifest.specs.declared.media.TheConstants.{DOCKER_IMAGE, DOCKER_INDEX, OCI_IMAGE, OCI_INDEX}
use Rattle.hr_manifest.specs.Reading.{IsManifestMedia, Reads, Refuses, is_image, is_index}
use Rattle.hr_manifest.specs.declared.refusal.Unreadable.TheVariants.{TooLong}
use Rattle.hr_manifest.proofs.LongLemmas as long
use Rattle.hr_manifest.proofs.ReadingLemmas as lemma

-- What bytes list depends on them alone, whatever the media type under which they are read.
pub reads_once : (media other : Media) (bytes : ByteList) (children more : List Child)
    → Reads media bytes children → Reads other bytes more → children ≡ more
reads_once = lemma.reads-once

-- What is read has at most as many bytes as a manifest may have.
pub reads_short : (media : Media) (bytes : ByteList) (children : List Child) → Reads media bytes children
    → length bytes ≤ MANIFEST_LIMIT
reads_short = lemma.reads-short

-- What is read lists at most as many children as a manifest may list.
pub reads_few : (media : Media) (bytes : ByteList) (children : List Child) → Reads media bytes children
    → length children ≤ CHILD_LIMIT
reads_few = lemma.reads-few

-- A manifest is refused as too long only by the number of its bytes, which are more than it may have.
pub refuses_long : (media : Media) (bytes : ByteList) (len : ℕ) → Refuses media bytes (TooLong len)
    → (len ≡ length bytes) × (MANIFEST_LIMIT < len)
refuses_long = long.refuses-long

-- ---- the media type

one_of : (a b : Bool) → (a || b) ≡ true → (a ≡ true) ⊎ (b ≡ true)
one_of true b is = inl refl
one_of false b is = inr is

form_cases : {F : Type 0} (image index : Bool) (a b form : F)
    → (if image then Some a else if index then Some b else None) ≡ Some form
    → (image ≡ true) ⊎ (index ≡ true)
form_cases true index a b form is = inl refl
form_cases false true a b form is = inr refl
form_cases false false a b form is = cc

by_form : (media : Media) → (is_image media ≡ true) ⊎ (is_index media ≡ true) → IsManifestMedia media
by_form media is = elim is [
  | inl image ↦ elim (one_of _ _ image) [
    | inl same ↦ (0, omega arith, sym ((bytes_decides media OCI_IMAGE.now).0 same))
    | inr same ↦ (1, omega arith, sym ((bytes_decides media DOCKER_IMAGE.now).0 same))
  ]
  | inr index ↦ elim (one_of _ _ index) [
    | inl same ↦ (2, omega arith, sym ((bytes_decides media OCI_INDEX.now).0 same))
    | inr same ↦ (3, omega arith, sym ((bytes_decides media DOCKER_INDEX.now).0 same))
  ]
]

-- A manifest is read under one of four media types.
pub reads_media : (media : Media) (bytes : ByteList) (children : List Child) → Reads media bytes children
    → IsManifestMedia media
reads_media media bytes children reads =
    let listed = lemma.reads-listed media bytes children reads in
    by_form media (form_cases (is_image media) (is_index media) _ _ listed.form listed.form-is)
