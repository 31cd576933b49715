-- Replies: their heads, those of interim replies among them, and their bodies (RFC 9112, section 4;
-- RFC 9110, section 15.2).
use Rattle.std.specs.Prelude.{◌≡◌, ◌<◌, ◌≤◌, ◌+◌, ℕ, Bool, true, false, ◌&&◌, nat_le, List, ◌++◌, length, map, flat_map, take, Option}
use Rattle.std.specs.List.{AllByRecursion}
use Rattle.httparse.specs.Grammar.{ResponseHead, IsResponseHead, print_response, status_code, MayBecomeResponse}
use Rattle.hr_base.specs.Bytes.{ByteList}
use Rattle.hr_body.specs.declared.body.Body.{Body}
use Rattle.hr_body.specs.declared.fault.WireFault.{WireFault}
use Rattle.hr_body.specs.declared.fault.WireFault.TheVariants.{Failed, Malformed, Ended, TooLong, Memory}
use Rattle.hr_body.specs.Reading.{in_word, IsFresh}
use Rattle.hr_frame.specs.declared.framing.Framing.{Framing}
use Rattle.hr_frame.specs.Framing.{reply_framing}
use Rattle.hr_head.specs.declared.field.TheConstants.{FIELD_LIMIT, HEAD_LIMIT}
use Rattle.hr_head.specs.declared.reply.ReplyHead.{ReplyHead}
use Rattle.hr_head.specs.Reply.{HoldNoReply, ReplyFault}
use Rattle.hr_http1.specs.declared.message.Reply.{Reply}
use Rattle.hr_http1.specs.declared.passing.TheConstants.{INTERIM_LIMIT}
use Rattle.hr_http1.specs.Body.{start_of}
use Rattle.hr_http1.specs.Message.{line_of, Kind, Frames, Holds, MessageFault}

-- the status of an interim reply
abbrev pub is_interim : ℕ → Bool
is_interim status = nat_le 100 status && nat_le status 199

-- a head of the grammar within the limits
pub record IsWithin (h : ResponseHead) : Type 0 where
  pub valid : IsResponseHead h
  pub few : length h.fields ≤ FIELD_LIMIT
  pub short : length (print_response h) ≤ HEAD_LIMIT

-- the head of an interim reply
pub record IsInterim (h : ResponseHead) : Type 0 where
  pub within : IsWithin h
  pub status : is_interim (status_code h) ≡ true

-- the heads of a message: those of the interim replies, which are passed over, and the last one
pub record ReplyHeads : Type 0 where
  pub passed : List ResponseHead
  pub head : ResponseHead

-- there are at most eight interim replies, and the last reply is none
pub record AreReplyHeads (heads : ReplyHeads) : Type 0 where
  pub few : length heads.passed ≤ INTERIM_LIMIT
  pub interim : AllByRecursion IsInterim heads.passed
  pub within : IsWithin heads.head
  pub last : is_interim (status_code heads.head) ≡ false

-- the bytes of interim replies
abbrev pub print_passed : List ResponseHead → ByteList
print_passed passed = flat_map print_response passed

-- the bytes of all heads
abbrev pub print_heads : ReplyHeads → ByteList
print_heads heads = print_passed heads.passed ++ print_response heads.head

-- the framing that the last head says
abbrev pub reply_form : Bool → ReplyHeads → Option Framing
reply_form head_only heads =
    reply_framing head_only (status_code heads.head) (map line_of heads.head.fields)

-- the bytes begin with interim replies, at most eight, and the rest follows them
pub record PassesOver (bytes rest : ByteList) : Type 0 where
  pub passed : List ResponseHead
  pub few : length passed ≤ INTERIM_LIMIT
  pub interim : AllByRecursion IsInterim passed
  pub cut : bytes ≡ print_passed passed ++ rest

-- the bytes end within a head of the grammar, the limits of lines and bytes aside
pub record EndsInReply (bytes : ByteList) : Type 0 where
  pub start : ByteList
  pub over : PassesOver bytes start
  pub may : MayBecomeResponse start

-- a head of the grammar has more bytes than its limit, the limit of lines aside
pub record PassesReply (bytes : ByteList) : Type 0 where
  pub start : ByteList
  pub over : PassesOver bytes start
  pub long : HEAD_LIMIT < length start
  pub none : HoldNoReply start
  pub may : MayBecomeResponse (take HEAD_LIMIT start)

-- replies, to a HEAD request or to another
abbrev pub reply_kind : Bool → Kind ReplyHeads
reply_kind head_only = record {
  valid = AreReplyHeads;
  print = print_heads;
  form_of = reply_form head_only;
  begins = EndsInReply;
  passes = PassesReply;
}

-- the bytes begin with this reply, where it answers a HEAD request or another, and the rest follows
pub record SpellsReply (head_only : Bool) (bytes : ByteList) (reply : Reply) (rest : ByteList)
    : Type 0 where
  pub heads : ReplyHeads
  pub holds : Holds (reply_kind head_only) bytes heads reply.body rest
  pub status : reply.status ≡ status_code heads.head
  pub lines : reply.heads ≡ map line_of heads.head.fields

-- why no reply with a body within the limit is read
abbrev pub ReplyLost : Bool → ℕ → ByteList → WireFault → Type 0
ReplyLost head_only limit bytes why = MessageFault (reply_kind head_only) limit bytes why

-- the bytes begin with so many interim replies, which have at bytes, and the rest follows them
pub record HasPassed (count at : ℕ) (bytes rest : ByteList) : Type 0 where
  pub passed : List ResponseHead
  pub many : length passed ≡ count
  pub interim : AllByRecursion IsInterim passed
  pub cut : bytes ≡ print_passed passed ++ rest
  pub len : at ≡ length (print_passed passed)

-- the bytes begin with heads of at bytes, of which the last says this, and the rest follows them
pub record HasHeads (bytes : ByteList) (head : ReplyHead) (at : ℕ) (rest : ByteList) : Type 0 where
  pub heads : ReplyHeads
  pub ok : AreReplyHeads heads
  pub cut : bytes ≡ print_heads heads ++ rest
  pub len : at ≡ length (print_heads heads)
  pub status : head.status ≡ status_code heads.head
  pub lines : head.heads ≡ map line_of heads.head.fields

-- the same, and the last says this framing
pub record HasFramed (head_only : Bool) (bytes : ByteList) (head : ReplyHead) (form : Framing)
    (at : ℕ) (rest : ByteList) : Type 0 where
  pub heads : ReplyHeads
  pub frames : Frames (reply_kind head_only) bytes heads form rest
  pub len : at ≡ length (print_heads heads)
  pub status : head.status ≡ status_code heads.head
  pub lines : head.heads ≡ map line_of heads.head.fields

-- the bytes begin with the heads of this reply, which has no body yet; the body in the framing that
-- they say is to come off the rest
pub record OpensReply (head_only : Bool) (limit : ℕ) (bytes : ByteList) (reply : Reply)
    (body : Body) (rest : ByteList) : Type 0 where
  pub heads : ReplyHeads
  pub form : Framing
  pub frames : Frames (reply_kind head_only) bytes heads form rest
  pub status : reply.status ≡ status_code heads.head
  pub lines : reply.heads ≡ map line_of heads.head.fields
  pub empty : length reply.body ≡ 0
  pub fresh : IsFresh body (start_of form) (length (print_heads heads)) limit

-- a fault behind so many bytes of the message, with its place from the message's first byte
abbrev pub fault_behind : ℕ → WireFault → WireFault
fault_behind at Failed = Failed
fault_behind at Memory = Memory
fault_behind at (Malformed place) = Malformed (in_word (at + place))
fault_behind at (Ended place) = Ended (in_word (at + place))
fault_behind at (TooLong len) = TooLong len

-- why no head is read behind so many bytes of the message
pub record IsLostBehind (at : ℕ) (bytes : ByteList) (why : WireFault) : Type 0 where
  pub first : WireFault
  pub lost : ReplyFault bytes first
  pub is : why ≡ fault_behind at first
