-- The content of a registry as plain lists. (Our own.)
use Rattle.std.specs.Prelude.{List, [], ◌∷◌, map, Option, Some, option_map}
use Rattle.std.specs.List.{filter_map}
use Rattle.std.specs.BTreeMap.{insert_entry}
use Rattle.std.specs.Cmp.Lexicographic.{slice_cmp}
use Rattle.std.specs.Ordering.{nat_cmp}
use Rattle.std.specs.declared.cmp.Ordering.{Ordering}
use Rattle.hr_base.specs.Bytes.{ByteList}
use Rattle.hr_digest.specs.Order.{digest_cmp}
use Rattle.hr_digest.specs.declared.digest.Digest.{Digest}
use Rattle.hr_event.specs.declared.reference.Fetched.{Fetched}
use Rattle.hr_name.specs.Name.{RepoName}
use Rattle.hr_name.specs.Tag.{TagName}
use Rattle.hr_adapter.specs.Content.{Content as Held, Labels, Repo, Target}
use Rattle.hr_adapter.specs.Listing.{labels_in}
use Rattle.hr_memreg.specs.declared.content.BlobAt.{BlobAt}
use Rattle.hr_memreg.specs.declared.content.ManifestAt.{ManifestAt}
use Rattle.hr_memreg.specs.declared.content.TagAt.{TagAt}
use Rattle.hr_memreg.specs.declared.content.RepoContent.{RepoContent}
use Rattle.hr_memreg.specs.declared.content.Content.{Content}

-- ---- lists that are put into maps

-- entries after more of them were put one after another: of two with one key the last counts
abbrev pub put_all : {K X : Type 0} → (K → K → Ordering) → List (K × X) → List (K × X)
    → List (K × X)
put_all cmp entries [] = entries
put_all cmp entries (e ∷ more) = put_all cmp (insert_entry cmp entries e.0 e.1) more

-- a blob of a list as an entry of the blobs of a repository
abbrev pub blob_entry : BlobAt → Digest × ByteList
blob_entry blob = (blob.digest, blob.bytes)

-- a manifest of a list as an entry of the manifests of a repository
abbrev pub manifest_entry : ManifestAt → Digest × Fetched
manifest_entry manifest =
    (manifest.digest, record { media = manifest.media; bytes = manifest.bytes })

-- a tag of a list as an entry of the tags of a repository
abbrev pub target_entry : TagAt → TagName × Target
target_entry tagged = (tagged.tag, Some tagged.digest)

-- a tag of a list as an entry of the labels of a repository
abbrev pub labels_entry : TagAt → TagName × Labels
labels_entry tagged = (tagged.tag, tagged.labels)

-- the repository that lists say
abbrev pub repo_of : RepoContent → Repo
repo_of repo = record {
  blobs = put_all digest_cmp [] (map blob_entry repo.blobs);
  manifests = put_all digest_cmp [] (map manifest_entry repo.manifests);
  tags = put_all (slice_cmp nat_cmp) [] (map target_entry repo.tags);
  labels = put_all (slice_cmp nat_cmp) [] (map labels_entry repo.tags);
}

-- a repository of a list as an entry of a content
abbrev pub repo_entry : RepoContent → RepoName × Repo
repo_entry repo = (repo.name, repo_of repo)

-- the content that lists say
abbrev pub content_of : Content → Held
content_of content = put_all (slice_cmp nat_cmp) [] (map repo_entry content.repos)

-- ---- maps as lists

-- an entry of the blobs of a repository as a blob of a list
abbrev pub blob_line : Digest × ByteList → BlobAt
blob_line e = record { digest = e.0; bytes = e.1 }

-- an entry of the manifests of a repository as a manifest of a list
abbrev pub manifest_line : Digest × Fetched → ManifestAt
manifest_line e = record { digest = e.0; media = e.1.media; bytes = e.1.bytes }

-- an entry of the tags of a repository as a tag of a list, with its labels, where it names a digest
abbrev pub tag_line : Repo → TagName × Target → Option TagAt
tag_line held e =
    option_map (λ d. record { tag = e.0; digest = d; labels = labels_in held e.0 }) e.1

-- a repository as its lists, in the order of the keys
abbrev pub repo_line : RepoName × Repo → RepoContent
repo_line e = record {
  name = e.0;
  blobs = map blob_line e.1.blobs;
  manifests = map manifest_line e.1.manifests;
  tags = filter_map (tag_line e.1) e.1.tags;
}

-- a content as its lists, in the order of the keys
abbrev pub lines_of : Held → Content
lines_of held = record { repos = map repo_line held }
