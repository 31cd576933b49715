-- What the entries of a journal say. A journal is read newest first. (Our own.)
use Rattle.std.specs.Prelude.{◌&&◌, ℕ, Bool, nat_eq, if◌then◌else◌, List, [], ◌∷◌, Option, Some, None}
use Rattle.std.specs.Option.{option_or}
use Rattle.std.specs.Cmp.Lexicographic.{pointwise}
use Rattle.hr_digest.specs.Order.{digest_eq}
use Rattle.hr_digest.specs.declared.digest.Digest.{Digest}
use Rattle.hr_name.specs.Name.{RepoName}
use Rattle.hr_name.specs.Tag.{TagName}
use Rattle.hr_event.specs.declared.reference.Fetched.{Fetched}
use Rattle.hr_event.specs.declared.entry.Entry.{Entry}
use Rattle.hr_event.specs.declared.entry.What.{What}
use Rattle.hr_event.specs.declared.entry.What.TheVariants.{ReadTag, ReadChild, GotBlob}

-- which repository of one registry each revision of a job reads, or writes, both by their numbers;
-- none where it does so at another registry
abbrev pub Placement : Type 0
Placement = ℕ → ℕ → Option RepoName

-- the repository of an entry
abbrev pub placed : Placement → Entry → Option RepoName
placed to e = to e.job.0 e.rev

-- the manifest that an entry says was read at the source under this tag
abbrev pub read_under : TagName → What → Option Fetched
read_under tag (ReadTag t media bytes) =
    if pointwise nat_eq t tag then Some (record { media = media; bytes = bytes }) else None
read_under tag _ = None

-- the child manifest that an entry says was read at the source under this digest
abbrev pub child_read : Digest → What → Option Fetched
child_read digest (ReadChild d media bytes) =
    if digest_eq d digest then Some (record { media = media; bytes = bytes }) else None
child_read digest _ = None

-- the length of the blob that an entry says was read at the source under this digest
abbrev pub blob_read : Digest → What → Option ℕ
blob_read digest (GotBlob d len) = if digest_eq d digest then Some len else None
blob_read digest _ = None

-- whether an entry is of this revision of this job
abbrev pub is_of : ℕ → ℕ → Entry → Bool
is_of job rev e = nat_eq e.job.0 job && nat_eq e.rev rev

-- the newest answer that an entry of this revision of this job has
abbrev pub last : {X : Type 0} → (What → Option X) → ℕ → ℕ → List Entry → Option X
last answer job rev [] = None
last answer job rev (e ∷ es) =
    option_or (if is_of job rev e then answer e.what else None) (last answer job rev es)
