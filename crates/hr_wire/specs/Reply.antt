-- The replies of answers (OCI Distribution 1.1, "Endpoints").
use Rattle.std.specs.Prelude.{◌-◌, ◌==◌, ℕ, Bool, true, false, List, [], ◌∷◌, ◌++◌, length, codes, decimal, slice_get, Option, Some, None, if◌then◌else◌}
use Rattle.hr_base.specs.Bytes.{ByteList, Text}
use Rattle.hr_call.specs.declared.answer.Answer.{Answer}
use Rattle.hr_call.specs.declared.answer.Answer.TheVariants as answer
use Rattle.hr_call.specs.declared.call.Call.{Call}
use Rattle.hr_call.specs.declared.call.Call.TheVariants as call
use Rattle.hr_digest.specs.Digest.{digest_of, text_of_digest}
use Rattle.hr_digest.specs.declared.digest.Digest.{Digest as Hash}
use Rattle.hr_event.specs.declared.reference.Reference.{Reference}
use Rattle.hr_event.specs.declared.reference.Reference.TheVariants.{Tag, Digest}
use Rattle.hr_frame.specs.declared.head.Head.{Head}
use Rattle.hr_http1.specs.declared.message.Reply.{Reply}
use Rattle.hr_name.specs.Name.{RepoName}
use Rattle.hr_route.specs.Target.{route_asked, target_text}
use Rattle.hr_wire.specs.Line.{line}
use Rattle.hr_wire.specs.Listing.{repos_text, tags_text}
use Rattle.hr_wire.specs.Range.{range_text}

-- ---- what a reply takes of the call

-- the repository that a call names, which is empty where it names none
abbrev pub repo_of : Call → RepoName
repo_of call.Ping = []
repo_of (call.Catalog last) = []
repo_of (call.Tags repo last) = repo
repo_of (call.HeadManifest repo reference) = repo
repo_of (call.GetManifest repo reference) = repo
repo_of (call.HeadBlob repo digest) = repo
repo_of (call.GetBlob repo digest) = repo
repo_of (call.BeginUpload repo) = repo
repo_of (call.EndUpload at digest bytes) = []
repo_of (call.PutManifest repo reference media bytes) = repo
repo_of (call.Chunk at from bytes) = []
repo_of (call.Progress at) = []

-- the call of the page behind an item, where a call is a listing
abbrev pub next_of : Call → Option Text → Call
next_of call.Ping behind = call.Ping
next_of (call.Catalog last) behind = call.Catalog behind
next_of (call.Tags repo last) behind = call.Tags repo behind
next_of (call.HeadManifest repo reference) behind = call.HeadManifest repo reference
next_of (call.GetManifest repo reference) behind = call.GetManifest repo reference
next_of (call.HeadBlob repo digest) behind = call.HeadBlob repo digest
next_of (call.GetBlob repo digest) behind = call.GetBlob repo digest
next_of (call.BeginUpload repo) behind = call.BeginUpload repo
next_of (call.EndUpload at digest bytes) behind = call.EndUpload at digest bytes
next_of (call.PutManifest repo reference media bytes) behind =
    call.PutManifest repo reference media bytes
next_of (call.Chunk at from bytes) behind = call.Chunk at from bytes
next_of (call.Progress at) behind = call.Progress at

-- the target of the page behind an item
abbrev pub next_target : Call → Option Text → Text
next_target called behind = target_text (route_asked (next_of called behind))

-- the digest that a reference is
abbrev pub digest_named : Reference → Option Hash
digest_named (Tag tag) = None
digest_named (Digest digest) = Some digest

-- a digest, or else that of some bytes
abbrev pub digest_or : Option Hash → ByteList → Hash
digest_or None bytes = digest_of bytes
digest_or (Some digest) bytes = digest

-- the digest of what a call looks up, fetches or puts, where the call tells it
abbrev pub digest_told : Call → Option Hash
digest_told call.Ping = None
digest_told (call.Catalog last) = None
digest_told (call.Tags repo last) = None
digest_told (call.HeadManifest repo reference) = digest_named reference
digest_told (call.GetManifest repo reference) = digest_named reference
digest_told (call.HeadBlob repo digest) = Some digest
digest_told (call.GetBlob repo digest) = Some digest
digest_told (call.BeginUpload repo) = None
digest_told (call.EndUpload at digest bytes) = Some digest
digest_told (call.PutManifest repo reference media bytes) =
    Some (digest_or (digest_named reference) bytes)
digest_told (call.Chunk at from bytes) = None
digest_told (call.Progress at) = None

-- ---- lines

-- the line of a media type
abbrev pub type_line : Text → Head
type_line media = line (codes "Content-Type") media

-- the line of a digest, where there is one
abbrev pub digest_lines : Option Hash → List Head
digest_lines None = []
digest_lines (Some digest) = line (codes "Docker-Content-Digest") (text_of_digest digest) ∷ []

-- the last item of a page
abbrev pub last_of : List Text → Option Text
last_of items = slice_get items (length items - 1)

-- the text of a link to the page behind this one (RFC 8288, section 3)
abbrev pub link_text : Text → Text
link_text target = codes "<" ++ (target ++ codes ">; rel=\"next\"")

-- the line of the page behind this one, where more items remain
abbrev pub link_lines : Bool → Text → List Head
link_lines false target = []
link_lines true target = line (codes "Link") (link_text target) ∷ []

-- the line of the bytes that an upload session has, where it has some
abbrev pub held_lines : ℕ → List Head
held_lines count =
    if count == 0 then [] else line (codes "Range") (range_text 0 (count - 1)) ∷ []

-- ---- replies

-- a reply
abbrev pub replied : ℕ → List Head → ByteList → Reply
replied status heads body = record { status = status; heads = heads; body = body }

-- the body of an error, whose causes are not told
abbrev pub no_errors : Text
no_errors = codes "{\"errors\":[]}"

-- the reply of an error with this status
abbrev pub error_value : ℕ → Reply
error_value status = replied status (type_line (codes "application/json") ∷ []) no_errors

-- the reply of an answer to a call
abbrev pub reply_value : Call → Answer → Reply
reply_value called answer.Pong = replied 200 [] []
reply_value called (answer.Repos list more) =
    replied 200 (type_line (codes "application/json")
    ∷ link_lines more (next_target called (last_of list))) (repos_text list)
reply_value called (answer.Tags list more) =
    replied 200 (type_line (codes "application/json")
    ∷ link_lines more (next_target called (last_of list)))
    (tags_text (repo_of called) list)
reply_value called (answer.Named digest) = replied 200 (digest_lines (Some digest)) []
reply_value called answer.Unnamed = replied 200 [] []
reply_value called answer.Missing = error_value 404
reply_value called (answer.Manifest fetched) =
    replied 200 (type_line fetched.media
    ∷ digest_lines (Some (digest_or (digest_told called) fetched.bytes))) fetched.bytes
reply_value called (answer.Size len) =
    replied 200 (line (codes "Content-Length") (decimal len) ∷ digest_lines (digest_told called)) []
reply_value called (answer.Blob bytes) =
    replied 200 (type_line (codes "application/octet-stream") ∷ digest_lines (digest_told called))
    bytes
reply_value called (answer.Upload at) = replied 202 (line (codes "Location") at ∷ []) []
reply_value called answer.Stored = replied 201 (digest_lines (digest_told called)) []
reply_value called (answer.Held at count) =
    replied 204 (line (codes "Location") at ∷ held_lines count) []
