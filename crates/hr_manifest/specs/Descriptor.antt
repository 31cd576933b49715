-- What a descriptor says of a child (OCI Image 1.1, "OCI Content Descriptors"), and the members of
-- JSON objects.
use Rattle.std.specs.Prelude.{◌^◌, ◌==◌, ◌&&◌, ℕ, nat_lt, Bool, List, length, drop, codes, Option, Some, None, is_some, option_and_then, Result, Ok, if◌then◌else◌}
use Rattle.std.specs.Result.{result_ok}
use Rattle.std.specs.Str.{bytes_eq}
use Rattle.hex.specs.Hex.{decode_of}
use Rattle.serde_json.specs.Data.{Data}
use Rattle.serde_json.specs.Find.{as_number, as_object, as_str, as_u64, get}
use Rattle.hr_base.specs.Bytes.{Media, Text}
use Rattle.hr_json.specs.Node.{items_in}
use Rattle.hr_digest.specs.Digest.{text_of_digest}
use Rattle.hr_digest.specs.declared.digest.Digest.{Digest}
use Rattle.hr_digest.specs.declared.digest.Digest.TheVariants.{Sha256}
use Rattle.hr_manifest.specs.declared.child.Child.{Child}
use Rattle.hr_manifest.specs.declared.child.ChildKind.{ChildKind}
use Rattle.hr_manifest.specs.declared.child.ChildKind.TheVariants as kind
use Rattle.hr_manifest.specs.declared.descriptor.Role.{Role}
use Rattle.hr_manifest.specs.declared.descriptor.Role.TheVariants as role
use Rattle.hr_manifest.specs.declared.media.TheConstants.{FOREIGN_LAYER}
use Rattle.hr_manifest.specs.declared.refusal.ManifestKey.TheVariants as key
use Rattle.hr_manifest.specs.declared.refusal.Unreadable.{Unreadable}
use Rattle.hr_manifest.specs.Step.{◌>>=◌, field}

-- An object has a member of this name, which may be null.
abbrev pub has : Text → Data → Bool
has name value = is_some (get name value)

-- The text of the member of this name, where it is one.
abbrev pub text_at : Text → Data → Option Text
text_at name value = option_and_then as_str (get name value)

-- A value, where it is an object.
abbrev pub object_in : Data → Option Data
object_in value = if is_some (as_object value) then Some value else None

-- The object of this name, where the member is one.
abbrev pub object_at : Text → Data → Option Data
object_at name value = option_and_then object_in (get name value)

-- The whole number of this name, where the member is one below 2^64.
abbrev pub number_at : Text → Data → Option ℕ
number_at name value = option_and_then as_u64 (option_and_then as_number (get name value))

-- The items of the list of this name, where the member is a list.
abbrev pub items_at : Text → Data → Option (List Data)
items_at name value = option_and_then items_in (get name value)

-- The digest of which this is the text, where there is one.
abbrev pub digest_in : Text → Option Digest
digest_in text = option_and_then (λ hash. if length hash == 32 && bytes_eq (text_of_digest (Sha256 hash)) text then Some (Sha256 hash) else None)
    (result_ok (decode_of (drop 7 text)))

-- A length in bytes, where it is below 2^63.
abbrev pub size_in : ℕ → Option ℕ
size_in size = if nat_lt size (2 ^ 63) then Some size else None

-- The media type of a layer that registries don't keep.
abbrev pub is_foreign : Media → Bool
is_foreign media = bytes_eq media FOREIGN_LAYER.now

-- What a descriptor leads to, by its role and its media type.
abbrev pub kind_of : Role → Media → ChildKind
kind_of role.Config media = kind.Blob
kind_of role.Layer media = if is_foreign media then kind.Foreign else kind.Blob
kind_of role.Manifest media = kind.Manifest

-- The child of which a descriptor in this role speaks, or its first fault (OCI Image 1.1, "OCI
-- Content Descriptors").
abbrev pub child_of : Role → Data → Result Child Unreadable
child_of place value = do
  media ← field key.ChildMedia (text_at (codes "mediaType") value)
  digest ← field key.ChildDigest (option_and_then digest_in (text_at (codes "digest") value))
  size ← field key.ChildSize (option_and_then size_in (number_at (codes "size") value))
  Ok (record { kind = kind_of place media; digest = digest; size = size; media = media })
