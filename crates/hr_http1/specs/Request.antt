-- Requests: a head and a body (RFC 9112, section 3).
use Rattle.std.specs.Prelude.{◌≡◌, ◌<◌, ◌≤◌, ℕ, length, map, take, Option}
use Rattle.httparse.specs.Grammar.{RequestHead as Grammatical, IsRequestHead as IsGrammatical, print_request}
use Rattle.hr_base.specs.Bytes.{ByteList}
use Rattle.hr_body.specs.declared.fault.WireFault.{WireFault}
use Rattle.hr_frame.specs.declared.framing.Framing.{Framing}
use Rattle.hr_frame.specs.Framing.{request_framing}
use Rattle.hr_head.specs.declared.field.TheConstants.{FIELD_LIMIT, HEAD_LIMIT}
use Rattle.hr_head.specs.Request.{BeginsRequest, HoldNoRequest}
use Rattle.hr_head.specs.Verb.{IsVerb}
use Rattle.hr_http1.specs.declared.message.Request.{Request}
use Rattle.hr_http1.specs.Message.{line_of, Kind, Holds, MessageFault}

-- a head of the grammar within the limits
pub record IsWithin (h : Grammatical) : Type 0 where
  pub valid : IsGrammatical h
  pub few : length h.fields ≤ FIELD_LIMIT
  pub short : length (print_request h) ≤ HEAD_LIMIT

-- the framing that a head says
abbrev pub request_form : Grammatical → Option Framing
request_form h = request_framing (map line_of h.fields)

-- a head of the grammar has more bytes than its limit, the limit of lines aside
pub record PassesRequest (bytes : ByteList) : Type 0 where
  pub long : HEAD_LIMIT < length bytes
  pub none : HoldNoRequest bytes
  pub may : BeginsRequest (take HEAD_LIMIT bytes)

-- requests
abbrev pub request_kind : Kind Grammatical
request_kind = record {
  valid = IsWithin;
  print = print_request;
  form_of = request_form;
  begins = BeginsRequest;
  passes = PassesRequest;
}

-- the bytes begin with this request, and the rest follows it
pub record SpellsRequest (bytes : ByteList) (request : Request) (rest : ByteList) : Type 0 where
  pub head : Grammatical
  pub holds : Holds request_kind bytes head request.body rest
  pub verb : IsVerb head.method request.verb
  pub target : request.target ≡ head.target
  pub lines : request.heads ≡ map line_of head.fields

-- why no request with a body within the limit is read
abbrev pub RequestLost : ℕ → ByteList → WireFault → Type 0
RequestLost limit bytes why = MessageFault request_kind limit bytes why
