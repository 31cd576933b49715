-- Which call a request is (OCI Distribution 1.1, "Endpoints").
use Rattle.std.specs.Prelude.{⊤, ◌≡◌, ◌⊎◌, ℕ, length, codes, Option, Result, Ok, Err}
use Rattle.hr_base.specs.Bytes.{ByteList, Media, Text}
use Rattle.hr_call.specs.declared.call.Call.{Call}
use Rattle.hr_call.specs.declared.call.Call.TheVariants as call
use Rattle.hr_event.specs.declared.reference.Reference.{Reference}
use Rattle.hr_frame.specs.Named.{values_named}
use Rattle.hr_http1.specs.declared.message.Request.{Request}
use Rattle.hr_name.specs.Name.{RepoName}
use Rattle.hr_route.specs.declared.route.NoRoute.{NoRoute}
use Rattle.hr_route.specs.declared.route.NoRoute.TheVariants as refused
use Rattle.hr_route.specs.declared.route.Route.{Route}
use Rattle.hr_route.specs.declared.route.Route.TheVariants as route
use Rattle.hr_route.specs.Path.{IsWay, Way}
use Rattle.hr_route.specs.Query.{path_of}
use Rattle.hr_route.specs.Routing.{asked, found}
use Rattle.hr_wire.specs.Media.{media_asked}
use Rattle.hr_wire.specs.Range.{from_asked}

-- the put of a manifest, by its media type
abbrev pub put_with : RepoName → Reference → ByteList → Media → Call
put_with repo reference bytes media = call.PutManifest repo reference media bytes

-- a chunk, by the number of bytes before it
abbrev pub chunk_with : Text → ByteList → Option ℕ → Call
chunk_with at bytes from = call.Chunk at from bytes

-- the call of what a first line asks for, by the lines and the body of its request; or the status of
-- the refusal
abbrev pub call_with : Route → Request → Result Call ℕ
call_with route.Ping request = Ok call.Ping
call_with (route.Catalog last) request = Ok (call.Catalog last)
call_with (route.Tags repo last) request = Ok (call.Tags repo last)
call_with (route.HeadManifest repo reference) request = Ok (call.HeadManifest repo reference)
call_with (route.GetManifest repo reference) request = Ok (call.GetManifest repo reference)
call_with (route.HeadBlob repo digest) request = Ok (call.HeadBlob repo digest)
call_with (route.GetBlob repo digest) request = Ok (call.GetBlob repo digest)
call_with (route.BeginUpload repo) request = Ok (call.BeginUpload repo)
call_with (route.EndUpload at digest) request = Ok (call.EndUpload at digest request.body)
call_with (route.PutManifest repo reference) request =
    found (put_with repo reference request.body)
    (media_asked (values_named (codes "content-type") request.heads))
call_with (route.Chunk at) request =
    found (chunk_with at request.body)
    (from_asked (length request.body) (values_named (codes "content-range") request.heads))
call_with (route.Progress at) request = Ok (call.Progress at)

-- the call of what a first line asks for, or the status of its refusal
abbrev pub call_asked : Result Route ℕ → Request → Result Call ℕ
call_asked (Ok asks) request = call_with asks request
call_asked (Err status) request = Err status

-- the answer is this one, unless memory ran out
abbrev pub Gives : Result Call ℕ → Result Call NoRoute → Type 0
Gives asks (Ok given) = asks ≡ Ok given
Gives asks (Err (refused.Status status)) = asks ≡ Err status
Gives asks (Err refused.Memory) = ⊤

-- the path of the target leads this way, of which the request asks this
pub record IsAsked (request : Request) (answer : Result Call NoRoute) : Type 0 where
  pub way : Way
  pub leads : IsWay (path_of request.target) way
  pub gives : Gives (call_asked (asked request.verb way request.target) request) answer

-- the path of the target leads nowhere, which is 404
pub record IsUnknown (request : Request) (answer : Result Call NoRoute) : Type 0 where
  pub none : (way : Way) → IsWay (path_of request.target) way → ⊥
  pub gives : Gives (Err 404) answer

-- which call a request is
abbrev pub IsCallOf : Request → Result Call NoRoute → Type 0
IsCallOf request answer = IsAsked request answer ⊎ IsUnknown request answer
