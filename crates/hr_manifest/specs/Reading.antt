-- Which bytes are read as a manifest, and what it lists (OCI Image 1.1, "OCI Image Manifest
-- Specification" and "OCI Image Index Specification"). The order of the tests is our own.
use Rattle.std.specs.Prelude.{◌≡◌, ℕ, ◌+◌, ◌==◌, ◌||◌, nat_le, Bool, false, not, List, [], ◌∷◌, Contains, length, map, codes, Option, Some, None, option_and_then, Result, Ok, Err, if◌then◌else◌, ⊤}
use Rattle.std.specs.Option.{ok_or, option_map_or}
use Rattle.std.specs.Str.{bytes_eq}
use Rattle.serde_json.specs.Data.{Data}
use Rattle.hr_json.specs.Doc.{document_of}
use Rattle.hr_base.specs.Bytes.{ByteList, Media}
use Rattle.hr_base.specs.declared.limit.TheConstants.{MANIFEST_LIMIT}
use Rattle.hr_manifest.specs.declared.manifest.TheConstants.{CHILD_LIMIT}
use Rattle.hr_manifest.specs.declared.media.TheConstants.{DOCKER_IMAGE, DOCKER_INDEX, OCI_IMAGE, OCI_INDEX}
use Rattle.hr_manifest.specs.declared.child.Child.{Child}
use Rattle.hr_manifest.specs.declared.descriptor.Role.TheVariants as role
use Rattle.hr_manifest.specs.declared.form.Form.{Form}
use Rattle.hr_manifest.specs.declared.form.Form.TheVariants.{Image, Index}
use Rattle.hr_manifest.specs.declared.refusal.ManifestKey.TheVariants as key
use Rattle.hr_manifest.specs.declared.refusal.Unreadable.{Unreadable}
use Rattle.hr_manifest.specs.declared.refusal.Unreadable.TheVariants as fault
use Rattle.hr_manifest.specs.Descriptor.{child_of, has, items_at, number_at, object_at, object_in, text_at}
use Rattle.hr_manifest.specs.Step.{◌>>=◌, ◌>>◌, check, each, field}

-- The media type of an image, of OCI or of Docker.
abbrev pub is_image : Media → Bool
is_image media = bytes_eq media OCI_IMAGE.now || bytes_eq media DOCKER_IMAGE.now

-- The media type of an index, of OCI or of Docker.
abbrev pub is_index : Media → Bool
is_index media = bytes_eq media OCI_INDEX.now || bytes_eq media DOCKER_INDEX.now

-- The form of a manifest under a media type, where it is one of the four that are read.
abbrev pub form_of : Media → Option Form
form_of media = if is_image media then Some Image else if is_index media then Some Index else None

-- A media type under which manifests are read: four are.
abbrev pub IsManifestMedia : Media → Type 0
IsManifestMedia media =
    Contains (OCI_IMAGE.now ∷ DOCKER_IMAGE.now ∷ OCI_INDEX.now ∷ DOCKER_INDEX.now ∷ []) media

-- At most so many children are read.
abbrev pub within : ℕ → Result ⊤ Unreadable
within count = check (nat_le count CHILD_LIMIT) (fault.TooMany count)

-- The children of a value, as an image or as an index: first the members that must be there or
-- must not be, then the number of children, then each of them.
abbrev pub listed : Form → Data → Result (List Child) Unreadable
listed Image value = do
  check (not (has (codes "manifests") value)) (fault.Field key.Manifests)
  config ← field key.Config (object_at (codes "config") value)
  layers ← field key.Layers (items_at (codes "layers") value)
  within (length layers + 1)
  first ← child_of role.Config config
  rest ← each (map (child_of role.Layer) layers)
  Ok (first ∷ rest)
listed Index value = do
  check (not (has (codes "config") value)) (fault.Field key.Config)
  check (not (has (codes "layers") value)) (fault.Field key.Layers)
  manifests ← field key.Manifests (items_at (codes "manifests") value)
  within (length manifests)
  each (map (child_of role.Manifest) manifests)

-- The member `schemaVersion` is the number 2.
abbrev pub says_two : Data → Bool
says_two value = option_map_or (λ n. n == 2) (number_at (codes "schemaVersion") value) false

-- The member `mediaType` is this media type, where it is there.
abbrev pub says_media : Media → Data → Bool
says_media media value = not (has (codes "mediaType") value) || option_map_or (λ text. bytes_eq text media) (text_at (codes "mediaType") value) false

-- What some bytes list under a media type, or the first of the tests that fails.
abbrev pub reading_of : Media → ByteList → Result (List Child) Unreadable
reading_of media bytes = do
  check (nat_le (length bytes) MANIFEST_LIMIT) (fault.TooLong (length bytes))
  form ← ok_or (form_of media) fault.Media
  value ← ok_or (option_and_then object_in (document_of bytes)) fault.NotJson
  check (says_two value) (fault.Field key.SchemaVersion)
  check (says_media media value) (fault.Field key.MediaType)
  listed form value

-- Under this media type these bytes are read, and list these children in order.
abbrev pub Reads : Media → ByteList → List Child → Type 0
Reads media bytes children = reading_of media bytes ≡ Ok children

-- Under this media type these bytes are refused for this first fault.
abbrev pub Refuses : Media → ByteList → Unreadable → Type 0
Refuses media bytes why = reading_of media bytes ≡ Err why
