-- The head of a request (RFC 9112, sections 2 to 5), by httparse's grammar.
use Rattle.std.specs.Prelude.{◌≡◌, ◌<◌, ◌≤◌, ◌++◌, length, map, Option, Some, None, Result, Ok, Err}
use Rattle.httparse.specs.Grammar.{RequestHead as Grammatical, ReadsRequest as ReadsGrammatical, print_request, HasNoRequest, MayBecomeRequest}
use Rattle.httparse.specs.Spans.{name_and_value}
use Rattle.hr_base.specs.Bytes.{ByteList}
use Rattle.hr_body.specs.declared.fault.WireFault.{WireFault}
use Rattle.hr_head.specs.declared.field.TheConstants.{FIELD_LIMIT, HEAD_LIMIT}
use Rattle.hr_head.specs.declared.request.RequestHead.{RequestHead}
use Rattle.hr_head.specs.Fault.{HeadFault, RefusedSoFar}
use Rattle.hr_head.specs.Field.{pair_of}
use Rattle.hr_head.specs.Verb.{IsVerb}

-- the bytes begin with a head within the limits, and the rest follows it
pub record ReadsRequest (bytes : ByteList) (h : Grammatical) (rest : ByteList) : Type 0 where
  pub reads : ReadsGrammatical bytes h rest
  pub few : length h.fields ≤ FIELD_LIMIT
  pub short : length (print_request h) ≤ HEAD_LIMIT

-- what a head says
pub record SaysRequest (h : Grammatical) (head : RequestHead) : Type 0 where
  pub verb : IsVerb h.method head.verb
  pub target : head.target ≡ h.target
  pub heads : map pair_of head.heads ≡ map name_and_value h.fields
  pub len : head.len ≡ length (print_request h)

-- the bytes begin with a head that says this, and the rest follows it
abbrev pub IsRequestHead : ByteList → RequestHead → ByteList → Type 0
IsRequestHead bytes head rest = (h : Grammatical) × ReadsRequest bytes h rest × SaysRequest h head

-- the bytes hold no head within the limits
abbrev pub HoldNoRequest : ByteList → Type 0
HoldNoRequest bytes = (h : Grammatical) (rest : ByteList) → ¬ (ReadsRequest bytes h rest)

-- no continuation of the bytes begins with a head that has few enough lines, of whatever length
abbrev pub BeginNoRequest : ByteList → Type 0
BeginNoRequest bytes =
    (more : ByteList) (h : Grammatical) (rest : ByteList) → ReadsGrammatical (bytes ++ more) h rest
    → FIELD_LIMIT < length h.fields

-- the bytes are some, and begin a head of the grammar, the limit of lines aside, or end within a target
pub record BeginsRequest (bytes : ByteList) : Type 0 where
  pub some : 0 < length bytes
  pub may : MayBecomeRequest bytes

-- why no head is read
abbrev pub RequestFault : ByteList → WireFault → Type 0
RequestFault bytes why = HeadFault HoldNoRequest BeginNoRequest BeginsRequest bytes why

-- what a look at the bytes so far answers
abbrev pub LooksRequest : ByteList → Result (Option RequestHead) WireFault → Type 0
LooksRequest bytes (Ok (Some head)) =
    (h : Grammatical) × (rest : ByteList) × ReadsGrammatical bytes h rest
    × (length h.fields ≤ FIELD_LIMIT) × SaysRequest h head
LooksRequest bytes (Ok None) = HasNoRequest bytes × MayBecomeRequest bytes
LooksRequest bytes (Err why) = RefusedSoFar BeginNoRequest bytes why
