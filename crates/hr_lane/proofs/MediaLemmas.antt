-- The media type of a manifest that was read is one of four, which a header can carry.
use Rattle.std.proofs.Common.{refl, subst, zero, suc, ℕ, List, arith}
use Rattle.std.proofs.lemmas.List.Sums.{AllPass-from_list_all}
use Rattle.hr_adapter.specs.Media.{FitsHeader, is_header_byte}
use Rattle.hr_manifest.specs.Reading.{IsManifestMedia, Reads}
use Rattle.hr_manifest.specs.declared.child.Child.{Child}
use Rattle.hr_manifest.specs.declared.media.TheConstants.{DOCKER_IMAGE, DOCKER_INDEX, OCI_IMAGE, OCI_INDEX}
use Rattle.hr_manifest.proofs.ReadingLaws.{reads_media}

oci_image_fits : FitsHeader OCI_IMAGE.now
oci_image_fits = record {
  some = λ none. cc;
  each = AllPass-from_list_all is_header_byte OCI_IMAGE.now refl;
  short = omega arith;
}

docker_image_fits : FitsHeader DOCKER_IMAGE.now
docker_image_fits = record {
  some = λ none. cc;
  each = AllPass-from_list_all is_header_byte DOCKER_IMAGE.now refl;
  short = omega arith;
}

oci_index_fits : FitsHeader OCI_INDEX.now
oci_index_fits = record {
  some = λ none. cc;
  each = AllPass-from_list_all is_header_byte OCI_INDEX.now refl;
  short = omega arith;
}

docker_index_fits : FitsHeader DOCKER_INDEX.now
docker_index_fits = record {
  some = λ none. cc;
  each = AllPass-from_list_all is_header_byte DOCKER_INDEX.now refl;
  short = omega arith;
}

manifest_fits : (media : List ℕ) → IsManifestMedia media → FitsHeader media
manifest_fits media (zero, within, is) = subst FitsHeader is oci_image_fits
manifest_fits media (suc zero, within, is) = subst FitsHeader is docker_image_fits
manifest_fits media (suc (suc zero), within, is) = subst FitsHeader is oci_index_fits
manifest_fits media (suc (suc (suc zero)), within, is) = subst FitsHeader is docker_index_fits
manifest_fits media (suc (suc (suc (suc k))), within, is) = absurd (omega (arith, within))

pub read_fits : (media bytes : List ℕ) (kids : List Child) → Reads media bytes kids → FitsHeader media
read_fits media bytes kids reads = manifest_fits media (reads_media media bytes kids reads)
