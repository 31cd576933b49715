-- What the setup lines of a script store in a content. (Our own, over OCI Image 1.1.)
use Rattle.std.specs.Prelude.{List, [], ◌∷◌, codes, length, Option, Some, IfSome, option_map, option_and_then}
use Rattle.hr_base.specs.Bytes.{ByteList}
use Rattle.hr_digest.specs.Digest.{digest_of}
use Rattle.hr_digest.specs.declared.digest.Digest.{Digest}
use Rattle.hr_name.specs.Name.{RepoName}
use Rattle.hr_name.specs.Tag.{TagName}
use Rattle.hr_event.specs.declared.reference.Reference.TheVariants as by
use Rattle.hr_manifest.specs.Canonical.{image_media, image_text, index_media, index_text}
use Rattle.hr_manifest.specs.declared.child.Child.{Child}
use Rattle.hr_manifest.specs.declared.child.ChildKind.TheVariants as kind
use Rattle.hr_text.specs.Escaping.{IsUnescaped}
use Rattle.hr_adapter.specs.Content.{Content, manifest_at, tag_at, with_blob, with_manifest}
use Rattle.hr_adapter.specs.Put.{as_manifest, put_under}

-- the config of every image of a script
abbrev pub config_text : ByteList
config_text = codes "{}"

-- the content with each of these blobs under its digest
abbrev pub with_blobs : Content → RepoName → List ByteList → Content
with_blobs c repo [] = c
with_blobs c repo (bytes ∷ blobs) = with_blobs (with_blob c repo (digest_of bytes) bytes) repo blobs

-- the content with an image: its config, its layers, its manifest and its tag
abbrev pub with_image : RepoName → TagName → List ByteList → Content → Content
with_image repo tag layers c =
    put_under repo (by.Tag tag) image_media (image_text config_text layers)
    (with_blobs c repo (config_text ∷ layers))

-- the content with the manifest of an image alone
abbrev pub with_orphan : RepoName → List ByteList → Content → Content
with_orphan repo layers c = with_manifest c repo (digest_of (image_text config_text layers))
    (as_manifest image_media (image_text config_text layers))

-- the content with some bytes under the digest of others, whether a blob is there or not
abbrev pub with_broken : RepoName → ByteList → ByteList → Content → Content
with_broken repo honest stored c = with_blob c repo (digest_of honest) stored

-- the manifest that a tag leads to, as a child
abbrev pub child_of : Content → RepoName → TagName → Option Child
child_of c repo tag = option_and_then (λ d. option_map
    (λ m. record { kind = kind.Manifest; digest = d; size = length m.bytes; media = m.media })
    (manifest_at c repo d)) (tag_at c repo tag)

-- the manifests that these tags lead to, where each leads to one
abbrev pub children_of : Content → RepoName → List TagName → Option (List Child)
children_of c repo [] = Some []
children_of c repo (tag ∷ tags) = option_and_then
    (λ child. option_map (λ children. child ∷ children) (children_of c repo tags))
    (child_of c repo tag)

-- the content with an index of these children, and its tag
abbrev pub with_index : RepoName → TagName → List Child → Content → Content
with_index repo tag children c =
    put_under repo (by.Tag tag) index_media (index_text children) c

-- each manifest has a media type that stands in a string of JSON as it is
abbrev pub IsPlain : Content → Type 0
IsPlain c = (repo : RepoName) (d : Digest) → IfSome (manifest_at c repo d) (λ m. IsUnescaped m.media)
