-- What contracts see of a connection to a registry. (Our own.)
use Rattle.std.specs.Prelude.{◌≡◌, ◌&&◌, ⊤, ℕ, Bool, IsTrue, false, not, List, Contains, Option, Some, None, IfSome, option_map, unwrap_or}
use Rattle.hr_base.specs.Bytes.{ByteList, Media}
use Rattle.hr_digest.specs.declared.digest.Digest.{Digest}
use Rattle.hr_name.specs.Name.{RepoName}
use Rattle.hr_name.specs.Tag.{TagName}
use Rattle.hr_event.specs.declared.reference.Reference.TheVariants as by
use Rattle.hr_adapter.specs.Content.{Content, blob_at, manifest_at, fetch_at}
use Rattle.hr_adapter.specs.Plan.{Plan, fails_at, lands_at, moved_next, will_fail, will_move}

-- a manifest that a tag showed: the tag led to it
pub record Row : Type 0 where
  pub repo : RepoName
  pub tag : TagName
  pub media : Media
  pub bytes : ByteList

-- a blob that is being written: where it goes, its bytes so far, whether a piece of it failed, and
-- the number of its operation, where the registry tells that
pub record Writing : Type 0 where
  pub repo : RepoName
  pub bytes : ByteList
  pub broken : Bool
  pub operation : Option ℕ

-- a blob that is open to be read: where the registry tells, the bytes that are left of it
abbrev pub Reading : Type 0
Reading = Option ByteList

-- a connection to a registry
pub record Reg : Type 0 where
  -- its content now, where it tells
  pub told : Option Content
  -- its content as the next operation will find it, where it tells: planned changes come first
  pub coming : Option Content
  -- where it tells, every manifest that a tag showed since it was made, or will show by a plan
  pub ever : List Row
  -- how often it failed, at most 2^64 - 1
  pub faults : ℕ
  -- no planned change is left
  pub quiet : Bool
  -- it can't fail any more
  pub sure : Bool
  -- its operations and what is planned for them, where it is a registry in memory
  pub plan : Option Plan
  -- the blob that is open to be read
  pub reading : Option Reading
  -- the blob that is being written
  pub writing : Option Writing

-- between two contents tags were moved, and nothing else was changed
pub record Retagged (c d : Content) : Type 0 where
  pub blobs : (repo : RepoName) (digest : Digest) → blob_at d repo digest ≡ blob_at c repo digest
  pub manifests : (repo : RepoName) (digest : Digest) → manifest_at d repo digest ≡ manifest_at c repo digest

-- each manifest that a tag of the content shows is one of these rows
abbrev pub AreShown : Content → List Row → Type 0
AreShown c rows = (repo : RepoName) (tag : TagName) → IfSome (fetch_at c repo (by.Tag tag))
    (λ m. Contains rows (record { repo = repo; tag = tag; media = m.media; bytes = m.bytes }))

-- two contents are known, and R holds of them; or neither is
abbrev pub BothOrNeither : (Content → Content → Type 0) → Option Content → Option Content → Type 0
BothOrNeither R (Some c) (Some d) = R c d
BothOrNeither R None None = ⊤
BothOrNeither R (Some c) None = ⊥
BothOrNeither R None (Some d) = ⊥

-- a content with a change, where it is known
abbrev pub changed : (Content → Content) → Option Content → Option Content
changed change content = option_map change content

-- the number of the operation by which a blob is being written, where it is told
abbrev pub write_number : Option Writing → Option ℕ
write_number None = None
write_number (Some w) = w.operation

-- the end of this writing fails
abbrev pub end_fails : Plan → Option Writing → Bool
end_fails p writing = unwrap_or (option_map (λ n. fails_at n p.failing) (write_number writing)) false

-- the end of this writing takes effect where it fails
abbrev pub end_lands : Plan → Option Writing → Bool
end_lands p writing = unwrap_or (option_map (λ n. lands_at n p.failing) (write_number writing)) false

-- what a plan says of a connection: what the next operation finds, and whether anything is left
pub record GoesBy (reg : Reg) (p : Plan) : Type 0 where
  pub coming : reg.coming ≡ changed (moved_next p) reg.told
  pub quiet : reg.quiet ≡ not (will_move p)
  pub sure : reg.sure ≡ not (will_fail p) && not (end_fails p reg.writing)

-- what holds of every connection at every moment
pub record IsSound (reg : Reg) : Type 0 where
  pub changes : BothOrNeither Retagged reg.told reg.coming
  pub quiet : IsTrue reg.quiet → reg.coming ≡ reg.told
  pub shown : IfSome reg.told (λ c. AreShown c reg.ever)
  pub coming : IfSome reg.coming (λ c. AreShown c reg.ever)
  pub planned : IfSome reg.plan (GoesBy reg)
