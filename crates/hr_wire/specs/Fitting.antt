-- Answers that are read back from their replies.
use Rattle.std.specs.Prelude.{⊤, ◌≡◌, ◌<◌, ◌≤◌, ◌^◌, ℕ, Bool, true, false, List, length, Option, Result, Ok, Err}
use Rattle.std.specs.List.{AllByRecursion}
use Rattle.hr_adapter.specs.Media.{FitsHeader}
use Rattle.hr_base.specs.Bytes.{ByteList, Media, Text}
use Rattle.hr_call.specs.declared.answer.Answer.{Answer}
use Rattle.hr_call.specs.declared.answer.Answer.TheVariants as answer
use Rattle.hr_call.specs.declared.call.Call.{Call}
use Rattle.hr_call.specs.declared.call.Call.TheVariants as call
use Rattle.hr_digest.specs.Reading.{IsWhole}
use Rattle.hr_digest.specs.declared.digest.Digest.{Digest}
use Rattle.hr_event.specs.declared.reference.Fetched.{Fetched}
use Rattle.hr_event.specs.declared.reference.Reference.{Reference}
use Rattle.hr_json.specs.declared.doc.TheConstants.{DOC_LIMIT}
use Rattle.hr_name.specs.Name.{RepoName}
use Rattle.hr_name.specs.Tag.{IsTag, TagName}
use Rattle.hr_route.specs.Target.{IsRepo}
use Rattle.hr_wire.specs.declared.answers.NotAnswer.{NotAnswer}
use Rattle.hr_wire.specs.declared.answers.NotAnswer.TheVariants as refused
use Rattle.hr_wire.specs.Listing.{repos_text, tags_text}

-- names of repositories, whose page keeps the limit of documents
pub record IsReposPage (list : List RepoName) : Type 0 where
  pub named : AllByRecursion IsRepo list
  pub short : length (repos_text list) ≤ DOC_LIMIT

-- tags of a repository, whose page keeps the limit of documents
pub record IsTagsPage (repo : RepoName) (list : List TagName) : Type 0 where
  pub named : IsRepo repo
  pub tagged : AllByRecursion IsTag list
  pub short : length (tags_text repo list) ≤ DOC_LIMIT

-- an answer of the kind that a call has: digests are as long as they must be, media types plain, and
-- lengths below 2^63
pub data IsAnswerTo : Call → Answer → Type 0 where
  pong : IsAnswerTo call.Ping answer.Pong
  repos : {last : Option Text} {list : List RepoName} {more : Bool} → IsReposPage list
      → IsAnswerTo (call.Catalog last) (answer.Repos list more)
  tags : {repo : RepoName} {last : Option Text} {list : List TagName} {more : Bool}
      → IsTagsPage repo list → IsAnswerTo (call.Tags repo last) (answer.Tags list more)
  named : {repo : RepoName} {reference : Reference} {digest : Digest} → IsWhole digest
      → IsAnswerTo (call.HeadManifest repo reference) (answer.Named digest)
  unnamed : {repo : RepoName} {reference : Reference}
      → IsAnswerTo (call.HeadManifest repo reference) answer.Unnamed
  not_named : {repo : RepoName} {reference : Reference}
      → IsAnswerTo (call.HeadManifest repo reference) answer.Missing
  manifest : {repo : RepoName} {reference : Reference} {fetched : Fetched}
      → FitsHeader fetched.media
      → IsAnswerTo (call.GetManifest repo reference) (answer.Manifest fetched)
  no_manifest : {repo : RepoName} {reference : Reference}
      → IsAnswerTo (call.GetManifest repo reference) answer.Missing
  size : {repo : RepoName} {digest : Digest} {len : ℕ} → len < 2 ^ 63
      → IsAnswerTo (call.HeadBlob repo digest) (answer.Size len)
  unmeasured : {repo : RepoName} {digest : Digest}
      → IsAnswerTo (call.HeadBlob repo digest) answer.Unnamed
  no_size : {repo : RepoName} {digest : Digest}
      → IsAnswerTo (call.HeadBlob repo digest) answer.Missing
  blob : {repo : RepoName} {digest : Digest} {bytes : ByteList}
      → IsAnswerTo (call.GetBlob repo digest) (answer.Blob bytes)
  no_blob : {repo : RepoName} {digest : Digest}
      → IsAnswerTo (call.GetBlob repo digest) answer.Missing
  begun : {repo : RepoName} {at : Text} → IsAnswerTo (call.BeginUpload repo) (answer.Upload at)
  ended : {at : Text} {digest : Digest} {bytes : ByteList}
      → IsAnswerTo (call.EndUpload at digest bytes) answer.Stored
  put : {repo : RepoName} {reference : Reference} {media : Media} {bytes : ByteList}
      → IsAnswerTo (call.PutManifest repo reference media bytes) answer.Stored
  appended : {at place : Text} {from : Option ℕ} {bytes : ByteList}
      → IsAnswerTo (call.Chunk at from bytes) (answer.Upload place)
  held : {at place : Text} {count : ℕ} → count ≤ 2 ^ 63
      → IsAnswerTo (call.Progress at) (answer.Held place count)

-- whether a call asks for a head alone
abbrev pub asks_head : Call → Bool
asks_head call.Ping = false
asks_head (call.Catalog last) = false
asks_head (call.Tags repo last) = false
asks_head (call.HeadManifest repo reference) = true
asks_head (call.GetManifest repo reference) = false
asks_head (call.HeadBlob repo digest) = true
asks_head (call.GetBlob repo digest) = false
asks_head (call.BeginUpload repo) = false
asks_head (call.EndUpload at digest bytes) = false
asks_head (call.PutManifest repo reference media bytes) = false
asks_head (call.Chunk at from bytes) = false
asks_head (call.Progress at) = false

-- what was read is this answer, unless memory ran out
abbrev pub IsThis : Answer → Result Answer NotAnswer → Type 0
IsThis given (Ok found) = found ≡ given
IsThis given (Err (refused.Status status)) = ⊥
IsThis given (Err refused.Memory) = ⊤
