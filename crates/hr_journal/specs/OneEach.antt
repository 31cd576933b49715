-- No digest stands for two contents: which can't be, as long as nobody finds two texts with one
-- hash. (Our own.)
use Rattle.std.specs.Prelude.{◌≡◌, ℕ, List, length, Contains, Some, IsSome, option_map}
use Rattle.hr_base.specs.Bytes.{ByteList, Media}
use Rattle.hr_digest.specs.declared.digest.Digest.{Digest}
use Rattle.hr_name.specs.Name.{RepoName}
use Rattle.hr_name.specs.Tag.{TagName}
use Rattle.hr_event.specs.declared.entry.Entry.{Entry}
use Rattle.hr_event.specs.declared.entry.What.TheVariants.{ReadTag, ReadChild, HasBlob, GotBlob}
use Rattle.hr_adapter.specs.Content.{Content, blob_at, manifest_at}
use Rattle.hr_adapter.specs.Put.{Has}
use Rattle.hr_journal.specs.Says.{Placement, placed}

-- these bytes stand for a digest: as a manifest of the opening, or as one that was read for this
-- destination
pub data Means (to : Placement) (o : Content) (log : List Entry) (d : Digest) (bytes : ByteList)
    : Type 0 where
  opened : (repo : RepoName) (media : Media)
      → manifest_at o repo d ≡ Some (record { media = media; bytes = bytes })
      → Means to o log d bytes
  tagged : (e : Entry) (tag : TagName) (media : Media) → Contains log e → IsSome (placed to e)
      → e.what ≡ ReadTag tag media bytes → Has d bytes → Means to o log d bytes
  child : (e : Entry) (media : Media) → Contains log e → IsSome (placed to e)
      → e.what ≡ ReadChild d media bytes → Means to o log d bytes

-- the blob of a digest has this length: in the opening, or as it was found or read
pub data Measures (to : Placement) (o : Content) (log : List Entry) (d : Digest) (len : ℕ)
    : Type 0 where
  opened : (repo : RepoName) → option_map length (blob_at o repo d) ≡ Some len
      → Measures to o log d len
  found : (e : Entry) → Contains log e → IsSome (placed to e) → e.what ≡ HasBlob d (Some len)
      → Measures to o log d len
  got : (e : Entry) → Contains log e → IsSome (placed to e) → e.what ≡ GotBlob d len
      → Measures to o log d len

-- each digest stands for the bytes of one manifest, and for one length of a blob
pub record OneEach (to : Placement) (o : Content) (log : List Entry) : Type 0 where
  pub manifests : (d : Digest) (a b : ByteList) → Means to o log d a → Means to o log d b → a ≡ b
  pub blobs : (d : Digest) (m n : ℕ) → Measures to o log d m → Measures to o log d n → m ≡ n
