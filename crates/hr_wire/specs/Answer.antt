-- Which answer a reply is to a call (OCI Distribution 1.1, "Endpoints").
use Rattle.std.specs.Prelude.{⊤, ◌≡◌, ◌==◌, ◌+◌, ℕ, Bool, true, false, List, [], ◌∷◌, codes, Option, Some, None, option_map, Result, Ok, Err, if◌then◌else◌}
use Rattle.std.specs.Str.{str_eq_ignore_ascii_case}
use Rattle.hr_base.specs.Bytes.{ByteList, Text}
use Rattle.hr_call.specs.Reading.{digest_in}
use Rattle.hr_call.specs.declared.answer.Answer.{Answer}
use Rattle.hr_call.specs.declared.answer.Answer.TheVariants as answer
use Rattle.hr_call.specs.declared.call.Call.{Call}
use Rattle.hr_call.specs.declared.call.Call.TheVariants as call
use Rattle.hr_frame.specs.Length.{length_of}
use Rattle.hr_frame.specs.Named.{values_named}
use Rattle.hr_http1.specs.declared.message.Reply.{Reply}
use Rattle.hr_name.specs.Name.{RepoName}
use Rattle.hr_name.specs.Tag.{TagName}
use Rattle.hr_wire.specs.declared.answers.NotAnswer.{NotAnswer}
use Rattle.hr_wire.specs.declared.answers.NotAnswer.TheVariants as refused
use Rattle.hr_wire.specs.Line.{only}
use Rattle.hr_wire.specs.Listing.{repos_in, tags_in}
use Rattle.hr_wire.specs.Media.{type_said}
use Rattle.hr_wire.specs.Range.{range_of}

-- whether a reply has no coding but `identity`, by the values of `Content-Encoding`
abbrev pub is_uncoded : List Text → Bool
is_uncoded [] = true
is_uncoded (value ∷ []) = str_eq_ignore_ascii_case value (codes "identity")
is_uncoded (value ∷ other ∷ values) = false

-- whether there are values
abbrev pub has_some : List Text → Bool
has_some [] = false
has_some (value ∷ values) = true

-- a page of repositories, where they are read
abbrev pub repos_page : Bool → List RepoName → Answer
repos_page more list = answer.Repos list more

-- a page of tags, where they are read
abbrev pub tags_page : Bool → List TagName → Answer
tags_page more list = answer.Tags list more

-- the digest of a manifest, by the values of `Docker-Content-Digest`
abbrev pub named_by : List Text → Option Answer
named_by [] = Some answer.Unnamed
named_by (value ∷ []) = option_map answer.Named (digest_in value)
named_by (value ∷ other ∷ values) = None

-- a manifest with these bytes, where its media type is told
abbrev pub manifest_said : ByteList → Option Text → Option Answer
manifest_said bytes None = None
manifest_said bytes (Some value) =
    Some (answer.Manifest (record { media = type_said value; bytes = bytes }))

-- the length of a blob, by the values of `Content-Length`
abbrev pub size_by : List Text → Option Answer
size_by [] = Some answer.Unnamed
size_by (value ∷ []) = option_map answer.Size (length_of value)
size_by (value ∷ other ∷ values) = None

-- an upload session, where its place is told
abbrev pub upload_said : Option Text → Option Answer
upload_said None = None
upload_said (Some value) = Some (answer.Upload value)

-- the place of an upload session that was asked for at this one, by the values of `Location`
abbrev pub place_by : Text → List Text → Option Text
place_by at [] = Some at
place_by at (value ∷ []) = Some value
place_by at (value ∷ other ∷ values) = None

-- how many bytes there are up to the end of a range from 0
abbrev pub count_of : Option (ℕ × ℕ) → Option ℕ
count_of None = None
count_of (Some (first, last)) = if first == 0 then Some (last + 1) else None

-- how many bytes an upload session has, by the values of `Range`
abbrev pub count_by : List Text → Option ℕ
count_by [] = Some 0
count_by (value ∷ []) = count_of (range_of value)
count_by (value ∷ other ∷ values) = None

-- an upload session with a place and some bytes, where there are both
abbrev pub held_by : Option Text → Option ℕ → Option Answer
held_by None count = None
held_by (Some at) None = None
held_by (Some at) (Some count) = Some (answer.Held at count)

-- what a reply with a status says, where it has this one
abbrev pub with_status : ℕ → ℕ → Option Answer → Option Answer
with_status wanted status said = if status == wanted then said else None

-- what a reply with status 200 says, or else another with 404
abbrev pub there_or : ℕ → Option Answer → Answer → Option Answer
there_or status said other = if status == 200 then said else with_status 404 status (Some other)

-- the answer to a call that a reply without a coding is
abbrev pub answer_said : Call → Reply → Option Answer
answer_said call.Ping reply = with_status 200 reply.status (Some answer.Pong)
answer_said (call.Catalog last) reply =
    with_status 200 reply.status
    (option_map (repos_page (has_some (values_named (codes "link") reply.heads)))
    (repos_in reply.body))
answer_said (call.Tags repo last) reply =
    there_or reply.status
    (option_map (tags_page (has_some (values_named (codes "link") reply.heads)))
    (tags_in reply.body)) (answer.Tags [] false)
answer_said (call.HeadManifest repo reference) reply =
    there_or reply.status (named_by (values_named (codes "docker-content-digest") reply.heads))
    answer.Missing
answer_said (call.GetManifest repo reference) reply =
    there_or reply.status
    (manifest_said reply.body (only (values_named (codes "content-type") reply.heads)))
    answer.Missing
answer_said (call.HeadBlob repo digest) reply =
    there_or reply.status (size_by (values_named (codes "content-length") reply.heads))
    answer.Missing
answer_said (call.GetBlob repo digest) reply =
    there_or reply.status (Some (answer.Blob reply.body)) answer.Missing
answer_said (call.BeginUpload repo) reply =
    with_status 202 reply.status (upload_said (only (values_named (codes "location") reply.heads)))
answer_said (call.EndUpload at digest bytes) reply =
    with_status 201 reply.status (Some answer.Stored)
answer_said (call.PutManifest repo reference media bytes) reply =
    with_status 201 reply.status (Some answer.Stored)
answer_said (call.Chunk at from bytes) reply =
    with_status 202 reply.status (upload_said (only (values_named (codes "location") reply.heads)))
answer_said (call.Progress at) reply =
    with_status 204 reply.status
    (held_by (place_by at (values_named (codes "location") reply.heads))
    (count_by (values_named (codes "range") reply.heads)))

-- the answer to a call that a reply is
abbrev pub answer_value : Call → Reply → Option Answer
answer_value called reply =
    if is_uncoded (values_named (codes "content-encoding") reply.heads)
    then answer_said called reply
    else None

-- the answer is this one, or the reply is none and this is its status, unless memory ran out
abbrev pub IsAnswerOf : Call → Reply → Result Answer NotAnswer → Type 0
IsAnswerOf called reply (Ok given) = answer_value called reply ≡ Some given
IsAnswerOf called reply (Err (refused.Status status)) =
    (answer_value called reply ≡ None) × (status ≡ reply.status)
IsAnswerOf called reply (Err refused.Memory) = ⊤
