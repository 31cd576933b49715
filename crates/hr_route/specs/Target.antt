-- The verbs and the targets of calls (OCI Distribution 1.1, "Endpoints").
use Rattle.std.specs.Prelude.{⊤, ◌≡◌, ◌≢◌, ◌≤◌, ◌<◌, ℕ, [], ◌∷◌, ◌++◌, length, codes, Option, Some, None, is_some, if◌then◌else◌}
use Rattle.std.specs.List.{AllByRecursion}
use Rattle.form_urlencoded.specs.Form.{byte_serialize}
use Rattle.hr_base.specs.Bytes.{Text}
use Rattle.hr_call.specs.Reading.{IsReference, text_of_reference}
use Rattle.hr_call.specs.declared.call.Call.{Call}
use Rattle.hr_call.specs.declared.call.Call.TheVariants as call
use Rattle.hr_digest.specs.Digest.{text_of_digest}
use Rattle.hr_digest.specs.Reading.{IsWhole}
use Rattle.hr_digest.specs.declared.digest.Digest.{Digest}
use Rattle.hr_head.specs.declared.verb.Verb.{Verb}
use Rattle.hr_head.specs.declared.verb.Verb.TheVariants as verb
use Rattle.hr_name.specs.Name.{IsName, RepoName}
use Rattle.hr_name.specs.declared.name.TheConstants.{NAME_LIMIT}
use Rattle.hr_route.specs.declared.path.Kind.TheVariants as kind
use Rattle.hr_route.specs.declared.route.Route.{Route}
use Rattle.hr_route.specs.declared.route.Route.TheVariants as route
use Rattle.hr_route.specs.Part.{repo_named}
use Rattle.hr_route.specs.Path.{IsWay, path_text, top, within}
use Rattle.hr_route.specs.Query.{path_of, query_of, values_of}
use Rattle.hr_text.specs.Cutting.{cut_at}

-- what a call asks, without what its field lines and its body say
abbrev pub route_asked : Call → Route
route_asked call.Ping = route.Ping
route_asked (call.Catalog last) = route.Catalog last
route_asked (call.Tags repo last) = route.Tags repo last
route_asked (call.HeadManifest repo reference) = route.HeadManifest repo reference
route_asked (call.GetManifest repo reference) = route.GetManifest repo reference
route_asked (call.HeadBlob repo digest) = route.HeadBlob repo digest
route_asked (call.GetBlob repo digest) = route.GetBlob repo digest
route_asked (call.BeginUpload repo) = route.BeginUpload repo
route_asked (call.EndUpload at digest bytes) = route.EndUpload at digest
route_asked (call.PutManifest repo reference media bytes) = route.PutManifest repo reference
route_asked (call.Chunk at from bytes) = route.Chunk at
route_asked (call.Progress at) = route.Progress at

-- the verb of what is asked
abbrev pub verb_of : Route → Verb
verb_of route.Ping = verb.Get
verb_of (route.Catalog last) = verb.Get
verb_of (route.Tags repo last) = verb.Get
verb_of (route.HeadManifest repo reference) = verb.Head
verb_of (route.GetManifest repo reference) = verb.Get
verb_of (route.HeadBlob repo digest) = verb.Head
verb_of (route.GetBlob repo digest) = verb.Get
verb_of (route.BeginUpload repo) = verb.Post
verb_of (route.EndUpload at digest) = verb.Put
verb_of (route.PutManifest repo reference) = verb.Put
verb_of (route.Chunk at) = verb.Patch
verb_of (route.Progress at) = verb.Get

-- the key of the item behind which a page begins, where there is one
abbrev pub last_text : Option Text → Text
last_text None = []
last_text (Some last) = codes "&last=" ++ byte_serialize last

-- what stands before a further key: `?`, or `&` behind a query
abbrev pub mark_of : Text → ℕ
mark_of at = if is_some (cut_at 63 at).1 then 38 else 63

-- the target that ends the upload session at a place
abbrev pub ending_text : Text → Digest → Text
ending_text at digest =
    at ++ mark_of at ∷ (codes "digest=" ++ byte_serialize (text_of_digest digest))

-- the target of what is asked
abbrev pub target_text : Route → Text
target_text route.Ping = path_text (top [])
target_text (route.Catalog last) =
    path_text (top (codes "_catalog")) ++ (codes "?n=1000" ++ last_text last)
target_text (route.Tags repo last) =
    path_text (within repo kind.Tags (codes "list")) ++ (codes "?n=1000" ++ last_text last)
target_text (route.HeadManifest repo reference) =
    path_text (within repo kind.Manifests (text_of_reference reference))
target_text (route.GetManifest repo reference) =
    path_text (within repo kind.Manifests (text_of_reference reference))
target_text (route.HeadBlob repo digest) =
    path_text (within repo kind.Blobs (text_of_digest digest))
target_text (route.GetBlob repo digest) =
    path_text (within repo kind.Blobs (text_of_digest digest))
target_text (route.BeginUpload repo) = path_text (within repo kind.Uploads [])
target_text (route.EndUpload at digest) = ending_text at digest
target_text (route.PutManifest repo reference) =
    path_text (within repo kind.Manifests (text_of_reference reference))
target_text (route.Chunk at) = at
target_text (route.Progress at) = at

-- a name within its limit
pub record IsRepo (repo : RepoName) : Type 0 where
  pub named : IsName repo
  pub short : length repo ≤ NAME_LIMIT

-- the place of an upload session: a repository's, with a key, and with any query
pub record IsSession (at : Text) : Type 0 where
  pub repo : Text
  pub key : Text
  pub name : RepoName
  pub leads : IsWay (path_of at) (within repo kind.Uploads key)
  pub some : key ≢ []
  pub named : repo_named repo ≡ Some name

-- each number is a byte
abbrev pub AreBytes : Option Text → Type 0
AreBytes None = ⊤
AreBytes (Some text) = AllByRecursion (λ byte. byte < 256) text

-- what is asked is fit to be sent: its names and tags are of their grammars, its digests as long as
-- they have to be, and its places those of upload sessions; one that is ended has no key `digest`
abbrev pub IsFit : Route → Type 0
IsFit route.Ping = ⊤
IsFit (route.Catalog last) = AreBytes last
IsFit (route.Tags repo last) = IsRepo repo × AreBytes last
IsFit (route.HeadManifest repo reference) = IsRepo repo × IsReference reference
IsFit (route.GetManifest repo reference) = IsRepo repo × IsReference reference
IsFit (route.HeadBlob repo digest) = IsRepo repo × IsWhole digest
IsFit (route.GetBlob repo digest) = IsRepo repo × IsWhole digest
IsFit (route.BeginUpload repo) = IsRepo repo
IsFit (route.EndUpload at digest) =
    IsSession at × IsWhole digest × (values_of (codes "digest") (query_of at) ≡ [])
IsFit (route.PutManifest repo reference) = IsRepo repo × IsReference reference
IsFit (route.Chunk at) = IsSession at
IsFit (route.Progress at) = IsSession at
