-- Messages that are read back where they were written (RFC 9112, sections 3 to 6).
use Rattle.std.specs.Prelude.{◌≡◌, ◌≢◌, ◌<◌, ◌≤◌, ◌^◌, Bool, true, false, length, map, [], codes}
use Rattle.http1.specs.Head.{are_headers, is_target}
use Rattle.hr_frame.specs.Named.{values_named}
use Rattle.hr_head.specs.declared.field.TheConstants.{FIELD_LIMIT, HEAD_LIMIT}
use Rattle.hr_head.specs.declared.verb.Verb.TheVariants as Method
use Rattle.hr_head.specs.Field.{pair_of}
use Rattle.hr_http1.specs.declared.message.Reply.{Reply}
use Rattle.hr_http1.specs.declared.message.Request.{Request}
use Rattle.hr_http1.specs.Written.{has_content, has_length, reply_lines, reply_head, request_lines, request_head, sent_body}

-- The status has three digits and is none of an interim reply; each name is a token, and each
-- value has no control byte but the tab and no blank at its ends; the head keeps its limits; where
-- the body is written, no given line frames it, and its length is below 2^63.
pub record IsSendableReply (head_only : Bool) (reply : Reply) : Type 0 where
  pub low : 200 ≤ reply.status
  pub high : reply.status ≤ 999
  pub lines : are_headers (map pair_of reply.heads) ≡ true
  pub few : length (reply_lines (has_content head_only reply.status) reply) ≤ FIELD_LIMIT
  pub short : length (reply_head (has_content head_only reply.status) reply) ≤ HEAD_LIMIT
  pub no_length : has_content head_only reply.status ≡ true
      → values_named (codes "content-length") reply.heads ≡ []
  pub no_coding : has_content head_only reply.status ≡ true
      → values_named (codes "transfer-encoding") reply.heads ≡ []
  pub body : length reply.body < 2 ^ 63

-- The verb is known; the target is visible ASCII of at least one byte; the lines are as those of a
-- reply, and none frames the body; the head keeps its limits; the length of the body is below 2^63,
-- and 0 where it is not written.
pub record IsSendableRequest (request : Request) : Type 0 where
  pub verb : request.verb ≢ Method.Other
  pub target : is_target request.target ≡ true
  pub lines : are_headers (map pair_of request.heads) ≡ true
  pub few : length (request_lines request) ≤ FIELD_LIMIT
  pub short : length (request_head request) ≤ HEAD_LIMIT
  pub no_length : values_named (codes "content-length") request.heads ≡ []
  pub no_coding : values_named (codes "transfer-encoding") request.heads ≡ []
  pub body : length request.body < 2 ^ 63
  pub empty : has_length request.verb ≡ false → length request.body ≡ 0

-- the reply that is read where this one was written
abbrev pub reply_as_read : Bool → Reply → Reply
reply_as_read head_only reply = record {
  status = reply.status;
  heads = reply_lines (has_content head_only reply.status) reply;
  body = sent_body (has_content head_only reply.status) reply.body;
}

-- the request that is read where this one was written
abbrev pub request_as_read : Request → Request
request_as_read request = record {
  verb = request.verb;
  target = request.target;
  heads = request_lines request;
  body = request.body;
}
