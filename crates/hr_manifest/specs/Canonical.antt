-- The canonical texts of images and indexes (OCI Image 1.1, "Image Manifest Specification" and
-- "Image Index Specification"): one line of JSON without spaces, with the members in this order.
-- (The order and the spacing are our own.)
use Rattle.std.specs.Prelude.{ℕ, List, ◌∷◌, ◌++◌, length, map, codes}
use Rattle.std.specs.List.{join_with_byte}
use Rattle.std.specs.Fmt.{decimal}
use Rattle.hr_base.specs.Bytes.{ByteList, Media, Text}
use Rattle.hr_digest.specs.Digest.{digest_of, text_of_digest}
use Rattle.hr_digest.specs.declared.digest.Digest.{Digest}
use Rattle.hr_manifest.specs.declared.child.Child.{Child}
use Rattle.hr_manifest.specs.declared.child.ChildKind.TheVariants.{Blob}
use Rattle.hr_manifest.specs.declared.media.TheConstants.{OCI_CONFIG, OCI_IMAGE, OCI_INDEX, OCI_LAYER}

-- The media type of an image (OCI Image 1.1, "OCI Image Media Types").
abbrev pub image_media : Media
image_media = OCI_IMAGE.now

-- The media type of an index (OCI Image 1.1, "OCI Image Media Types").
abbrev pub index_media : Media
index_media = OCI_INDEX.now

-- Some content under a media type, as a child that is a blob.
abbrev pub blob_of : Media → ByteList → Child
blob_of media content =
    record { kind = Blob; digest = digest_of content; size = length content; media = media }

-- Some content as the config of an image.
abbrev pub config_of : ByteList → Child
config_of content = blob_of OCI_CONFIG.now content

-- Some content as a layer of an image.
abbrev pub layer_of : ByteList → Child
layer_of content = blob_of OCI_LAYER.now content

-- The children of an image with this config and these layers: the config, and then the layers.
abbrev pub image_children : ByteList → List ByteList → List Child
image_children config layers = config_of config ∷ map layer_of layers

-- The text of a descriptor with this media type, digest and size (OCI Image 1.1, "OCI Content
-- Descriptors").
abbrev pub descriptor_with : Media → Digest → ℕ → Text
descriptor_with media digest size = codes "{\"mediaType\":\"" ++ media
    ++ codes "\",\"digest\":\"" ++ text_of_digest digest
    ++ codes "\",\"size\":" ++ decimal size ++ codes "}"

-- The text of the descriptor of a child, whose kind is not written.
abbrev pub descriptor : Child → Text
descriptor child = descriptor_with child.media child.digest child.size

-- The texts of the descriptors of children, with commas between them.
abbrev pub descriptors : List Child → Text
descriptors children = join_with_byte 44 (map descriptor children)

-- The text of the manifest of an image with this config and these layers, in order.
abbrev pub image_text : ByteList → List ByteList → Text
image_text config layers =
    codes "{\"schemaVersion\":2,\"mediaType\":\"application/vnd.oci.image.manifest.v1+json\""
    ++ codes ",\"config\":" ++ descriptor (config_of config)
    ++ codes ",\"layers\":[" ++ descriptors (map layer_of layers) ++ codes "]}"

-- The text of the index of these children, in order.
abbrev pub index_text : List Child → Text
index_text children =
    codes "{\"schemaVersion\":2,\"mediaType\":\"application/vnd.oci.image.index.v1+json\""
    ++ codes ",\"manifests\":[" ++ descriptors children ++ codes "]}"
