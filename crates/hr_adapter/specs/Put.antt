-- What putting a manifest does to the content of a registry (OCI Distribution 1.1, "Pushing
-- Manifests").
use Rattle.std.specs.Prelude.{◌≡◌, ⊤}
use Rattle.hr_base.specs.Bytes.{ByteList, Media}
use Rattle.hr_digest.specs.Digest.{digest_of}
use Rattle.hr_digest.specs.declared.digest.Digest.{Digest}
use Rattle.hr_name.specs.Name.{RepoName}
use Rattle.hr_event.specs.declared.reference.Fetched.{Fetched}
use Rattle.hr_event.specs.declared.reference.Reference.{Reference}
use Rattle.hr_event.specs.declared.reference.Reference.TheVariants as by
use Rattle.hr_adapter.specs.Content.{Content, with_manifest, with_tag}

-- a digest is that of these bytes
abbrev pub Has : Digest → ByteList → Type 0
Has d bytes = digest_of bytes ≡ d

-- a digest, where the manifest is put under one, is that of its bytes
abbrev pub IsOwn : Reference → ByteList → Type 0
IsOwn (by.Tag tag) bytes = ⊤
IsOwn (by.Digest d) bytes = Has d bytes

-- a manifest of a media type and of these bytes, as a registry keeps it
abbrev pub as_manifest : Media → ByteList → Fetched
as_manifest media bytes = record { media = media; bytes = bytes }

-- where a manifest stands that is put under a reference
abbrev pub stands_under : Reference → ByteList → Digest
stands_under (by.Tag tag) bytes = digest_of bytes
stands_under (by.Digest d) bytes = d

-- the content with the manifest under its digest, and all tags as before
abbrev pub manifest_alone : RepoName → Reference → Media → ByteList → Content → Content
manifest_alone repo reference media bytes c =
    with_manifest c repo (stands_under reference bytes) (as_manifest media bytes)

-- the content after a manifest was put under a reference: it stands under its digest, and the tag,
-- where it was put under one, names it
abbrev pub put_under : RepoName → Reference → Media → ByteList → Content → Content
put_under repo (by.Tag tag) media bytes c =
    with_tag (with_manifest c repo (digest_of bytes) (as_manifest media bytes)) repo tag (digest_of bytes)
put_under repo (by.Digest d) media bytes c = with_manifest c repo d (as_manifest media bytes)
