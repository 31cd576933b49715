-- What the entries of a journal say of the destination, and do to its content: each says what was
-- true at its moment. (Our own, over OCI Distribution 1.1, "Push".)
use Rattle.std.specs.Prelude.{◌≡◌, ◌≢◌, ◌⊎◌, ℕ, Bool, true, false, List, [], ◌∷◌, length, Option, Some, None, option_map}
use Rattle.hr_base.specs.Bytes.{ByteList}
use Rattle.hr_digest.specs.declared.digest.Digest.{Digest}
use Rattle.hr_name.specs.Name.{RepoName}
use Rattle.hr_name.specs.Tag.{TagName}
use Rattle.hr_event.specs.declared.reference.Fetched.{Fetched}
use Rattle.hr_event.specs.declared.entry.Entry.{Entry}
use Rattle.hr_event.specs.declared.entry.How.{How}
use Rattle.hr_event.specs.declared.entry.How.TheVariants.{Put, Unsure, Same, Kept}
use Rattle.hr_event.specs.declared.entry.What.{What}
use Rattle.hr_event.specs.declared.entry.What.TheVariants.{Looked, ReadChild, HasBlob, GotBlob, PutBlob, PutChild, Show}
use Rattle.hr_manifest.specs.Reading.{Reads}
use Rattle.hr_manifest.specs.declared.child.Child.{Child}
use Rattle.hr_adapter.specs.Content.{Content, blob_at, head_at, with_blob, with_manifest, with_tag}
use Rattle.hr_adapter.specs.Put.{Has}
use Rattle.hr_event.specs.declared.reference.Reference.TheVariants as by
use Rattle.hr_journal.specs.Says.{Placement, placed, last, read_under, child_read, blob_read}

-- the content after a put that is sure, or that may have failed
abbrev pub MaybePut : Bool → Content → Content → Content → Type 0
MaybePut true before after put = after ≡ put
MaybePut false before after put = (after ≡ before) ⊎ (after ≡ put)

-- an entry put a blob: its bytes have the digest, and the length that was read just before
pub record PutsBlob (repo : RepoName) (e : Entry) (d : Digest) (sure : Bool)
    (older : List Entry) (b c : Content) : Type 0 where
  pub bytes : ByteList
  pub own : Has d bytes
  pub got : last (blob_read d) e.job.0 e.rev older ≡ Some (length bytes)
  pub does : MaybePut sure b c (with_blob b repo d bytes)

-- an entry put a child manifest: the one that was read last under the digest, which is readable
pub record PutsChild (repo : RepoName) (e : Entry) (d : Digest) (sure : Bool)
    (older : List Entry) (b c : Content) : Type 0 where
  pub stored : Fetched
  pub kids : List Child
  pub own : Has d stored.bytes
  pub reads : Reads stored.media stored.bytes kids
  pub read : last (child_read d) e.job.0 e.rev older ≡ Some stored
  pub does : MaybePut sure b c (with_manifest b repo d stored)

-- the content after a tag was finished, by how that came out: both the manifest and the tag were
-- put, or one or none of them may have been, or none was
abbrev pub MaybePutTag : How → Content → Content → Content → Content → Type 0
MaybePutTag Put before after alone both = after ≡ both
MaybePutTag Unsure before after alone both = (after ≡ before) ⊎ ((after ≡ alone) ⊎ (after ≡ both))
MaybePutTag Same before after alone both = after ≡ before
MaybePutTag Kept before after alone both = after ≡ before

-- an entry put a manifest under a tag: the one that was read last under the tag, which is readable;
-- the look just before found what the tag named, which was not this digest
pub record PutsTag (repo : RepoName) (e : Entry) (tag : TagName) (d : Digest)
    (old : Option Digest) (how : How) (older : List Entry) (b c : Content) : Type 0 where
  pub stored : Fetched
  pub kids : List Child
  pub own : Has d stored.bytes
  pub reads : Reads stored.media stored.bytes kids
  pub read : last (read_under tag) e.job.0 e.rev older ≡ Some stored
  pub looked : old ≡ head_at b repo (by.Tag tag)
  pub other : old ≢ Some d
  pub does : MaybePutTag how b c (with_manifest b repo d stored)
      (with_tag (with_manifest b repo d stored) repo tag d)

-- how a tag is left: it names this digest already; or it does not, and what it names is kept
abbrev pub IsLeft : How → Digest → Option Digest → Type 0
IsLeft Put d old = ⊥
IsLeft Unsure d old = ⊥
IsLeft Same d old = old ≡ Some d
IsLeft Kept d old = old ≢ Some d

-- an entry left a tag as it was: for the manifest that was read last under it, which is readable;
-- the look just before found what the tag names in the repository
pub record LeavesTag (repo : RepoName) (e : Entry) (tag : TagName) (d : Digest)
    (old : Option Digest) (how : How) (older : List Entry) (b c : Content) : Type 0 where
  pub stored : Fetched
  pub kids : List Child
  pub own : Has d stored.bytes
  pub reads : Reads stored.media stored.bytes kids
  pub read : last (read_under tag) e.job.0 e.rev older ≡ Some stored
  pub looked : old ≡ head_at b repo (by.Tag tag)
  pub left : IsLeft how d old
  pub same : c ≡ b

-- the destination was asked what a tag names: what was found is what it showed at that moment
pub record LooksAtTag (repo : RepoName) (tag : TagName) (found : Option Digest) (b c : Content)
    : Type 0 where
  pub looked : found ≡ head_at b repo (by.Tag tag)
  pub same : c ≡ b

-- the destination was asked for a blob: what was found is the length that it had at that moment
pub record LooksForBlob (repo : RepoName) (d : Digest) (len : Option ℕ) (b c : Content)
    : Type 0 where
  pub found : len ≡ option_map length (blob_at b repo d)
  pub same : c ≡ b

-- a child manifest was read: its bytes have the digest
pub record ReadsChild (d : Digest) (bytes : ByteList) (b c : Content) : Type 0 where
  pub own : Has d bytes
  pub same : c ≡ b

-- a blob was read: its bytes have the digest and that length
pub record GetsBlob (d : Digest) (len : ℕ) (b c : Content) : Type 0 where
  pub bytes : ByteList
  pub own : Has d bytes
  pub long : length bytes ≡ len
  pub same : c ≡ b

-- what an entry of this kind says, which is true of its repository at the destination, and what it
-- did to the content
abbrev pub DoesAs : What → RepoName → Entry → List Entry → Content → Content → Type 0
DoesAs (Looked tag found) repo e older b c = LooksAtTag repo tag found b c
DoesAs (HasBlob d len) repo e older b c = LooksForBlob repo d len b c
DoesAs (ReadChild d media bytes) repo e older b c = ReadsChild d bytes b c
DoesAs (GotBlob d len) repo e older b c = GetsBlob d len b c
DoesAs (PutBlob d sure) repo e older b c = PutsBlob repo e d sure older b c
DoesAs (PutChild d sure) repo e older b c = PutsChild repo e d sure older b c
DoesAs (Show t d old Put) repo e older b c = PutsTag repo e t d old Put older b c
DoesAs (Show t d old Unsure) repo e older b c = PutsTag repo e t d old Unsure older b c
DoesAs (Show t d old Same) repo e older b c = LeavesTag repo e t d old Same older b c
DoesAs (Show t d old Kept) repo e older b c = LeavesTag repo e t d old Kept older b c
DoesAs _ repo e older b c = c ≡ b

-- what an entry says and did, of its repository at the destination
abbrev pub DoesIn : RepoName → Entry → List Entry → Content → Content → Type 0
DoesIn repo e older b c = DoesAs e.what repo e older b c

-- what the newest entry of a journal says and did, at a place; an entry of another destination says
-- nothing of this one
abbrev pub DoesAt : Option RepoName → Entry → List Entry → Content → Content → Type 0
DoesAt (Some repo) e older b c = DoesIn repo e older b c
DoesAt None e older b c = c ≡ b

-- what the newest entry of a journal says and did
abbrev pub Does : Placement → Entry → List Entry → Content → Content → Type 0
Does to e older b c = DoesAt (placed to e) e older b c

-- the content that a journal leaves of an opening
abbrev pub Puts : Placement → Content → List Entry → Content → Type 0
Puts to o [] c = c ≡ o
Puts to o (e ∷ es) c = (b : Content) × Puts to o es b × Does to e es b c
