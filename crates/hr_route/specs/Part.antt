-- Components of paths, with their escapes read (RFC 3986, section 2.1).
use Rattle.std.specs.Prelude.{Option, Some, None}
use Rattle.percent_encoding.specs.Percent.{percent_decode}
use Rattle.hr_base.specs.Bytes.{Text}
use Rattle.hr_call.specs.Reading.{digest_in, name_in, reference_in}
use Rattle.hr_digest.specs.declared.digest.Digest.{Digest}
use Rattle.hr_event.specs.declared.reference.Reference.{Reference}
use Rattle.hr_name.specs.Name.{RepoName}

-- both values, where there are both
abbrev pub both : {A B : Type 0} → Option A → Option B → Option (A × B)
both None other = None
both (Some one) None = None
both (Some one) (Some other) = Some (one, other)

-- the repository that a part of a path names
abbrev pub repo_named : Text → Option RepoName
repo_named repo = name_in (percent_decode repo)

-- the repository and the reference that parts of a path name
abbrev pub manifest_named : Text → Text → Option (RepoName × Reference)
manifest_named repo last = both (repo_named repo) (reference_in (percent_decode last))

-- the repository and the digest that parts of a path name
abbrev pub blob_named : Text → Text → Option (RepoName × Digest)
blob_named repo last = both (repo_named repo) (digest_in (percent_decode last))
