-- Which call a verb and a target ask for (OCI Distribution 1.1, "Endpoints").
use Rattle.std.specs.Prelude.{⊤, ◌≡◌, ◌⊎◌, ℕ, Bool, true, false, [], ◌∷◌, codes, Option, Some, None, Result, Ok, Err, if◌then◌else◌}
use Rattle.std.specs.Str.{bytes_eq}
use Rattle.hr_base.specs.Bytes.{Text}
use Rattle.hr_digest.specs.declared.digest.Digest.{Digest}
use Rattle.hr_head.specs.declared.verb.Verb.{Verb}
use Rattle.hr_head.specs.declared.verb.Verb.TheVariants as verb
use Rattle.hr_name.specs.Name.{RepoName}
use Rattle.hr_route.specs.declared.path.Kind.TheVariants as kind
use Rattle.hr_route.specs.declared.route.NoRoute.{NoRoute}
use Rattle.hr_route.specs.declared.route.NoRoute.TheVariants as refused
use Rattle.hr_route.specs.declared.route.Route.{Route}
use Rattle.hr_route.specs.declared.route.Route.TheVariants as route
use Rattle.hr_route.specs.Part.{blob_named, both, manifest_named, repo_named}
use Rattle.hr_route.specs.Path.{IsWay, Way, top, within}
use Rattle.hr_route.specs.Query.{digest_asked, listing_asked, path_of, query_of, values_of, without}

-- the status of what is bad, where nothing is found
abbrev pub found : {A B : Type 0} → (A → B) → Option A → Result B ℕ
found make None = Err 400
found make (Some item) = Ok (make item)

-- whether a verb is `GET`
abbrev pub is_get : Verb → Bool
is_get verb.Get = true
is_get verb.Head = false
is_get verb.Post = false
is_get verb.Put = false
is_get verb.Patch = false
is_get verb.Delete = false
is_get verb.Other = false

-- whether a verb is `POST`
abbrev pub is_post : Verb → Bool
is_post verb.Get = false
is_post verb.Head = false
is_post verb.Post = true
is_post verb.Put = false
is_post verb.Patch = false
is_post verb.Delete = false
is_post verb.Other = false

-- what is asked of the registry as a whole
abbrev pub top_asked : Verb → Text → Text → Result Route ℕ
top_asked method last target =
    if bytes_eq last [] then (if is_get method then Ok route.Ping else Err 405) else
    if bytes_eq last (codes "_catalog")
    then (if is_get method then found route.Catalog (listing_asked (query_of target)) else Err 405)
    else Err 404

-- the tags of a repository, behind a tag or all of them
abbrev pub tags_of : RepoName × Option Text → Route
tags_of (repo, last) = route.Tags repo last

-- what is asked of the tags of a repository
abbrev pub tags_asked : Verb → Text → Text → Text → Result Route ℕ
tags_asked method repo last target =
    if bytes_eq last (codes "list")
    then (if is_get method
    then found tags_of (both (repo_named repo) (listing_asked (query_of target)))
    else Err 405)
    else Err 404

-- a call on a manifest or a blob, by what names it
abbrev pub on : {A : Type 0} → (RepoName → A → Route) → RepoName × A → Route
on make (repo, item) = make repo item

-- what is asked of a manifest
abbrev pub manifest_asked : Verb → Text → Text → Result Route ℕ
manifest_asked verb.Get repo last = found (on route.GetManifest) (manifest_named repo last)
manifest_asked verb.Head repo last = found (on route.HeadManifest) (manifest_named repo last)
manifest_asked verb.Put repo last = found (on route.PutManifest) (manifest_named repo last)
manifest_asked verb.Post repo last = Err 405
manifest_asked verb.Patch repo last = Err 405
manifest_asked verb.Delete repo last = Err 405
manifest_asked verb.Other repo last = Err 405

-- what is asked of a blob
abbrev pub blob_asked : Verb → Text → Text → Result Route ℕ
blob_asked verb.Get repo last = found (on route.GetBlob) (blob_named repo last)
blob_asked verb.Head repo last = found (on route.HeadBlob) (blob_named repo last)
blob_asked verb.Post repo last = Err 405
blob_asked verb.Put repo last = Err 405
blob_asked verb.Patch repo last = Err 405
blob_asked verb.Delete repo last = Err 405
blob_asked verb.Other repo last = Err 405

-- a place within a repository, where that has a name
abbrev pub place_within : Option RepoName → Text → Option Text
place_within None at = None
place_within (Some repo) at = Some at

-- the end of the upload session at a place, all of whose bytes have a digest
abbrev pub ending_of : Text × Digest → Route
ending_of (at, digest) = route.EndUpload at digest

-- the place and the digest of a target that ends an upload session
abbrev pub ending_asked : Text → Text → Option (Text × Digest)
ending_asked repo target =
    both (place_within (repo_named repo) (without (codes "digest") target))
    (digest_asked (values_of (codes "digest") (query_of target)))

-- what is asked of an upload session
abbrev pub session_asked : Verb → Text → Text → Result Route ℕ
session_asked verb.Get repo target = found route.Progress (place_within (repo_named repo) target)
session_asked verb.Patch repo target = found route.Chunk (place_within (repo_named repo) target)
session_asked verb.Put repo target = found ending_of (ending_asked repo target)
session_asked verb.Head repo target = Err 405
session_asked verb.Post repo target = Err 405
session_asked verb.Delete repo target = Err 405
session_asked verb.Other repo target = Err 405

-- what is asked of the upload sessions of a repository, or of one of them
abbrev pub upload_asked : Verb → Text → Text → Text → Result Route ℕ
upload_asked method repo [] target =
    if is_post method then found route.BeginUpload (repo_named repo) else Err 405
upload_asked method repo (byte ∷ key) target = session_asked method repo target

-- what a verb asks of a way, with this whole target; or the status of the refusal
abbrev pub asked : Verb → Way → Text → Result Route ℕ
asked method (top last) target = top_asked method last target
asked method (within repo kind.Tags last) target = tags_asked method repo last target
asked method (within repo kind.Manifests last) target = manifest_asked method repo last
asked method (within repo kind.Blobs last) target = blob_asked method repo last
asked method (within repo kind.Uploads last) target = upload_asked method repo last target

-- the answer is this one, unless memory ran out
abbrev pub Answers : Result Route ℕ → Result Route NoRoute → Type 0
Answers asks (Ok found) = asks ≡ Ok found
Answers asks (Err (refused.Status status)) = asks ≡ Err status
Answers asks (Err refused.Memory) = ⊤

-- the path of a target leads this way, of which a verb asks this
pub record IsAsked (method : Verb) (target : Text) (answer : Result Route NoRoute) : Type 0 where
  pub way : Way
  pub leads : IsWay (path_of target) way
  pub answers : Answers (asked method way target) answer

-- the path of a target leads nowhere, which is 404
pub record IsUnknown (target : Text) (answer : Result Route NoRoute) : Type 0 where
  pub none : (way : Way) → IsWay (path_of target) way → ⊥
  pub answers : Answers (Err 404) answer

-- what a verb and a target ask for
abbrev pub IsRouteOf : Verb → Text → Result Route NoRoute → Type 0
IsRouteOf method target answer = IsAsked method target answer ⊎ IsUnknown target answer
