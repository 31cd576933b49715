-- The head of a reply (RFC 9112, sections 2 to 5), by httparse's grammar.
use Rattle.std.specs.Prelude.{◌≡◌, ◌<◌, ◌≤◌, ◌++◌, length, map, Option, Some, None, Result, Ok, Err}
use Rattle.httparse.specs.Grammar.{ResponseHead, ReadsResponse, print_response, status_code, HasNoResponse, MayBecomeResponse}
use Rattle.httparse.specs.Spans.{name_and_value}
use Rattle.hr_base.specs.Bytes.{ByteList}
use Rattle.hr_body.specs.declared.fault.WireFault.{WireFault}
use Rattle.hr_head.specs.declared.field.TheConstants.{FIELD_LIMIT, HEAD_LIMIT}
use Rattle.hr_head.specs.declared.reply.ReplyHead.{ReplyHead}
use Rattle.hr_head.specs.Fault.{HeadFault, RefusedSoFar}
use Rattle.hr_head.specs.Field.{pair_of}

-- the bytes begin with a head within the limits, and the rest follows it
pub record ReadsReply (bytes : ByteList) (h : ResponseHead) (rest : ByteList) : Type 0 where
  pub reads : ReadsResponse bytes h rest
  pub few : length h.fields ≤ FIELD_LIMIT
  pub short : length (print_response h) ≤ HEAD_LIMIT

-- what a head says
pub record SaysReply (h : ResponseHead) (head : ReplyHead) : Type 0 where
  pub status : head.status ≡ status_code h
  pub heads : map pair_of head.heads ≡ map name_and_value h.fields
  pub len : head.len ≡ length (print_response h)

-- the bytes begin with a head that says this, and the rest follows it
abbrev pub IsReplyHead : ByteList → ReplyHead → ByteList → Type 0
IsReplyHead bytes head rest = (h : ResponseHead) × ReadsReply bytes h rest × SaysReply h head

-- the bytes hold no head within the limits
abbrev pub HoldNoReply : ByteList → Type 0
HoldNoReply bytes = (h : ResponseHead) (rest : ByteList) → ¬ (ReadsReply bytes h rest)

-- no continuation of the bytes begins with a head that has few enough lines, of whatever length
abbrev pub BeginNoReply : ByteList → Type 0
BeginNoReply bytes =
    (more : ByteList) (h : ResponseHead) (rest : ByteList) → ReadsResponse (bytes ++ more) h rest
    → FIELD_LIMIT < length h.fields

-- why no head is read: bytes that end within one, or pass the limit of bytes, begin a head of the
-- grammar, the limit of lines aside
abbrev pub ReplyFault : ByteList → WireFault → Type 0
ReplyFault bytes why = HeadFault HoldNoReply BeginNoReply MayBecomeResponse bytes why

-- what a look at the bytes so far answers
abbrev pub LooksReply : ByteList → Result (Option ReplyHead) WireFault → Type 0
LooksReply bytes (Ok (Some head)) =
    (h : ResponseHead) × (rest : ByteList) × ReadsResponse bytes h rest
    × (length h.fields ≤ FIELD_LIMIT) × SaysReply h head
LooksReply bytes (Ok None) = HasNoResponse bytes × MayBecomeResponse bytes
LooksReply bytes (Err why) = RefusedSoFar BeginNoReply bytes why
