-- What a registry holds: repositories, each with blobs and manifests under their digests and with
-- tags that name manifests (OCI Distribution 1.1, "Definitions").
use Rattle.std.specs.Prelude.{◌≡◌, List, [], Option, Some, IfSome, IsSome, option_map, option_and_then, unwrap_or}
use Rattle.std.specs.Option.{option_flatten}
use Rattle.std.specs.Map.{lookup}
use Rattle.std.specs.BTreeMap.{insert_entry, is_at}
use Rattle.std.specs.Cmp.Lexicographic.{slice_cmp}
use Rattle.std.specs.Ordering.{nat_cmp}
use Rattle.hr_base.specs.Bytes.{ByteList, Text}
use Rattle.hr_digest.specs.Digest.{digest_of}
use Rattle.hr_digest.specs.Order.{digest_cmp}
use Rattle.hr_digest.specs.declared.digest.Digest.{Digest}
use Rattle.hr_name.specs.Name.{RepoName}
use Rattle.hr_name.specs.Tag.{TagName}
use Rattle.hr_event.specs.declared.reference.Fetched.{Fetched}
use Rattle.hr_event.specs.declared.reference.Reference.{Reference}
use Rattle.hr_event.specs.declared.reference.Reference.TheVariants as by

-- a text that a registry keeps beside a tag (our own)
abbrev pub Label : Type 0
Label = Text

-- the labels of one tag
abbrev pub Labels : Type 0
Labels = List Label

-- the digest that a tag names; none where what stands there is no digest
abbrev pub Target : Type 0
Target = Option Digest

-- a repository: finite maps, each seen as its entries in the order of the keys. Labels may stand
-- without their tag
pub record Repo : Type 0 where
  pub blobs : List (Digest × ByteList)
  pub manifests : List (Digest × Fetched)
  pub tags : List (TagName × Target)
  pub labels : List (TagName × Labels)

-- repositories by their names, in byte order
abbrev pub Content : Type 0
Content = List (RepoName × Repo)

-- a repository that holds nothing
abbrev pub empty_repo : Repo
empty_repo = record { blobs = []; manifests = []; tags = []; labels = [] }

-- the repository of a name
unfoldable pub repo_at : Content → RepoName → Option Repo
repo_at c repo = lookup (is_at (slice_cmp nat_cmp repo)) c

-- the bytes of the blob that a repository has under a digest
unfoldable pub blob_at : Content → RepoName → Digest → Option ByteList
blob_at c repo d = option_and_then (λ held. lookup (is_at (digest_cmp d)) held.blobs) (repo_at c repo)

-- the manifest, media type and bytes, that a repository has under a digest
unfoldable pub manifest_at : Content → RepoName → Digest → Option Fetched
manifest_at c repo d = option_and_then (λ held. lookup (is_at (digest_cmp d)) held.manifests) (repo_at c repo)

-- what stands in a repository under a tag
unfoldable pub target_at : Content → RepoName → TagName → Option Target
target_at c repo tag = option_and_then (λ held. lookup (is_at (slice_cmp nat_cmp tag)) held.tags) (repo_at c repo)

-- the digest that a tag names, whether its manifest stands there or not
abbrev pub tag_at : Content → RepoName → TagName → Option Digest
tag_at c repo tag = option_flatten (target_at c repo tag)

-- the content with the repository of a name changed, which holds nothing before where it is new
abbrev pub with_repo : Content → RepoName → (Repo → Repo) → Content
with_repo c repo change = insert_entry (slice_cmp nat_cmp) c repo (change (unwrap_or (repo_at c repo) empty_repo))

-- the content with a blob under a digest
unfoldable pub with_blob : Content → RepoName → Digest → ByteList → Content
with_blob c repo d bytes = with_repo c repo
    (λ held. record held { blobs = insert_entry digest_cmp held.blobs d bytes })

-- the content with a manifest under a digest
unfoldable pub with_manifest : Content → RepoName → Digest → Fetched → Content
with_manifest c repo d stored = with_repo c repo
    (λ held. record held { manifests = insert_entry digest_cmp held.manifests d stored })

-- the content with a tag naming a digest, where the labels of the tag stay
unfoldable pub with_tag : Content → RepoName → TagName → Digest → Content
with_tag c repo tag d = with_repo c repo
    (λ held. record held { tags = insert_entry (slice_cmp nat_cmp) held.tags tag (Some d) })

-- the manifest that a reference leads to: a tag leads to one that stands there
abbrev pub fetch_at : Content → RepoName → Reference → Option Fetched
fetch_at c repo (by.Tag tag) = option_and_then (manifest_at c repo) (tag_at c repo tag)
fetch_at c repo (by.Digest d) = manifest_at c repo d

-- the digest of the manifest that a reference leads to
abbrev pub head_at : Content → RepoName → Reference → Option Digest
head_at c repo (by.Tag tag) =
    option_and_then (λ d. option_map (λ _. d) (manifest_at c repo d)) (tag_at c repo tag)
head_at c repo (by.Digest d) = option_map (λ _. d) (manifest_at c repo d)

-- every blob and manifest stands under its own digest, and every tag names a manifest that is there
pub record Honest (c : Content) : Type 0 where
  pub blobs : (repo : RepoName) (d : Digest) → IfSome (blob_at c repo d) (λ bytes. digest_of bytes ≡ d)
  pub manifests : (repo : RepoName) (d : Digest)
      → IfSome (manifest_at c repo d) (λ stored. digest_of stored.bytes ≡ d)
  pub tags : (repo : RepoName) (tag : TagName)
      → IfSome (target_at c repo tag) (λ target. IsSome (option_and_then (manifest_at c repo) target))
