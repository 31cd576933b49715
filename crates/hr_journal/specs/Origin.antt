-- What was read for a journal, as the source had it, where that tells. (Our own, over OCI
-- Distribution 1.1, "Pull".)
use Rattle.std.specs.Prelude.{◌≡◌, ⊤, ℕ, List, length, take, Contains, Option, Some, None, IfSome, IsSome}
use Rattle.std.specs.List.{AllByRecursion}
use Rattle.hr_base.specs.Bytes.{ByteList, Media}
use Rattle.hr_digest.specs.Digest.{digest_of}
use Rattle.hr_digest.specs.declared.digest.Digest.{Digest}
use Rattle.hr_name.specs.Name.{RepoName}
use Rattle.hr_name.specs.Tag.{TagName}
use Rattle.hr_event.specs.declared.entry.Entry.{Entry}
use Rattle.hr_event.specs.declared.entry.What.{What}
use Rattle.hr_event.specs.declared.entry.What.TheVariants.{ReadTag, ReadChild, GotBlob}
use Rattle.hr_adapter.specs.Content.{Content, blob_at, manifest_at}
use Rattle.hr_adapter.specs.Put.{Has, as_manifest}
use Rattle.hr_adapter.specs.Reg.{Retagged, Row}
use Rattle.hr_journal.specs.Says.{Placement, placed}

-- where a revision reads: the content of a source that tells, every manifest that a tag of it ever
-- showed, and the repository
pub record Source : Type 0 where
  pub content : Content
  pub ever : List Row
  pub repo : RepoName

-- where each revision of a job reads, both by their numbers; none where that source tells nothing
abbrev pub Origin : Type 0
Origin = ℕ → ℕ → Option Source

-- a manifest was read under a tag: the source showed it there, and has it under some digest
pub record ShowedManifest (s : Source) (tag : TagName) (media : Media) (bytes : ByteList)
    : Type 0 where
  pub shown : Contains s.ever (record { repo = s.repo; tag = tag; media = media; bytes = bytes })
  pub digest : Digest
  pub there : manifest_at s.content s.repo digest ≡ Some (as_manifest media bytes)

-- a blob of this length was read: the source has one of it under the digest, which is its own
pub record HadBlob (s : Source) (d : Digest) (len : ℕ) : Type 0 where
  pub bytes : ByteList
  pub there : blob_at s.content s.repo d ≡ Some bytes
  pub own : Has d bytes
  pub long : length bytes ≡ len

-- what an entry says was read is what the source has
abbrev pub WasThere : Source → What → Type 0
WasThere s (ReadTag tag media bytes) = ShowedManifest s tag media bytes
WasThere s (ReadChild d media bytes) =
    manifest_at s.content s.repo d ≡ Some (as_manifest media bytes)
WasThere s (GotBlob d len) = HadBlob s d len
WasThere s _ = ⊤

-- all that the entries of a journal say was read is what its source has, where that tells
abbrev pub WereThere : Origin → List Entry → Type 0
WereThere from log =
    AllByRecursion (λ e. IfSome (from e.job.0 e.rev) (λ s. WasThere s e.what)) log

-- bytes that a content has, as a blob or as a manifest
pub data Holds (c : Content) (bytes : ByteList) : Type 0 where
  blob : (repo : RepoName) (d : Digest) → blob_at c repo d ≡ Some bytes → Holds c bytes
  manifest : (repo : RepoName) (d : Digest) (media : Media)
      → manifest_at c repo d ≡ Some (as_manifest media bytes) → Holds c bytes

-- bytes that the opening of the destination, or a source, has
pub data IsText (o : Content) (from : Origin) (bytes : ByteList) : Type 0 where
  opened : Holds o bytes → IsText o from bytes
  source : (job rev : ℕ) (s : Source) → from job rev ≡ Some s → Holds s.content bytes
      → IsText o from bytes

-- a text of the registries has this digest, and this length
pub record HasText (o : Content) (from : Origin) (d : Digest) (len : ℕ) : Type 0 where
  pub bytes : ByteList
  pub own : Has d bytes
  pub text : IsText o from bytes
  pub long : length bytes ≡ len

-- nobody put two texts with one digest into these registries
abbrev pub OneText : Content → Origin → Type 0
OneText o from =
    (a b : ByteList) → IsText o from a → IsText o from b → digest_of a ≡ digest_of b → a ≡ b

-- every entry of this destination has a source that tells
abbrev pub AllTell : Placement → Origin → List Entry → Type 0
AllTell to from log =
    (e : Entry) → Contains log e → IsSome (placed to e) → IsSome (from e.job.0 e.rev)

-- the second source is the first one later on: tags may have been moved, and more rows may have
-- been shown
pub record IsLater (s t : Source) : Type 0 where
  pub moved : Retagged s.content t.content
  pub grew : take (length s.ever) t.ever ≡ s.ever
  pub place : t.repo ≡ s.repo

-- where a source tells now, it told before, and is that one later on
abbrev pub ToldBefore : Option Source → Option Source → Type 0
ToldBefore (Some s) (Some t) = IsLater s t
ToldBefore None (Some t) = ⊥
ToldBefore _ None = ⊤

-- the sources of all entries of a journal told before what they tell now
abbrev pub AllToldBefore : Origin → Origin → List Entry → Type 0
AllToldBefore from later log =
    (e : Entry) → Contains log e → ToldBefore (from e.job.0 e.rev) (later e.job.0 e.rev)
