-- Whole messages: a head, and a body in the framing that the head says (RFC 9112, section 2.1).
use Rattle.std.specs.Prelude.{⊤, ◌≡◌, ℕ, ◌+◌, ◌⊎◌, ◌++◌, length, take, Option, Some}
use Rattle.httparse.specs.Grammar.{Field, field_value}
use Rattle.hr_base.specs.Bytes.{ByteList}
use Rattle.hr_body.specs.declared.fault.WireFault.{WireFault}
use Rattle.hr_body.specs.declared.fault.WireFault.TheVariants.{Failed, Malformed, Ended, TooLong, Memory}
use Rattle.hr_body.specs.Leading.{IsShort}
use Rattle.hr_body.specs.Reading.{in_word}
use Rattle.hr_frame.specs.declared.framing.Framing.{Framing}
use Rattle.hr_frame.specs.declared.head.Head.{Head}
use Rattle.hr_head.specs.declared.field.TheConstants.{HEAD_LIMIT}
use Rattle.hr_http1.specs.Body.{ReadsBody, start_of, IsAnnounced, GivesMore}

-- a field line as a name and a value, without the blanks at the ends of the value
abbrev pub line_of : Field → Head
line_of field = record { name = field.name; value = field_value field }

-- A kind of messages, by its heads: which are valid, the bytes of each, and the framing that each
-- says, if it says one. Of bytes, whether they end within a head, and whether they begin with a
-- head that passes its limit.
pub record Kind (H : Type 0) : Type 1 where
  pub valid : H → Type 0
  pub print : H → ByteList
  pub form_of : H → Option Framing
  pub begins : ByteList → Type 0
  pub passes : ByteList → Type 0

-- the bytes begin with this head, which is valid and says this framing, and the rest follows it
pub record Frames {H : Type 0} (kind : Kind H) (bytes : ByteList) (h : H) (form : Framing)
    (rest : ByteList) : Type 0 where
  pub ok : kind.valid h
  pub cut : bytes ≡ kind.print h ++ rest
  pub framed : kind.form_of h ≡ Some form

-- the bytes begin with a message, this head and this body, and the rest follows it
pub record Holds {H : Type 0} (kind : Kind H) (bytes : ByteList) (h : H) (body rest : ByteList)
    : Type 0 where
  pub form : Framing
  pub after : ByteList
  pub frames : Frames kind bytes h form after
  pub reads : ReadsBody form after body rest

-- the bytes begin with no message
abbrev pub HoldsNone : {H : Type 0} → Kind H → ByteList → Type 0
HoldsNone {H} kind bytes = (h : H) (body rest : ByteList) → ¬ (Holds kind bytes h body rest)

-- no continuation of the bytes begins with a message
abbrev pub BeginsNone : {H : Type 0} → Kind H → ByteList → Type 0
BeginsNone kind bytes = (more : ByteList) → HoldsNone kind (bytes ++ more)

-- the bytes end within the body behind a head
pub record EndsInBody {H : Type 0} (kind : Kind H) (limit : ℕ) (bytes : ByteList) : Type 0 where
  pub h : H
  pub form : Framing
  pub after : ByteList
  pub frames : Frames kind bytes h form after
  pub short : IsShort (start_of form) limit after

-- the body behind a head is announced with this length, which passes the limit
pub record Announces {H : Type 0} (kind : Kind H) (limit : ℕ) (bytes : ByteList) (len : ℕ)
    : Type 0 where
  pub h : H
  pub form : Framing
  pub after : ByteList
  pub frames : Frames kind bytes h form after
  pub announced : IsAnnounced form limit len

-- the body behind a head has more bytes than the limit
pub record Exceeds {H : Type 0} (kind : Kind H) (limit : ℕ) (bytes : ByteList) : Type 0 where
  pub h : H
  pub form : Framing
  pub after : ByteList
  pub frames : Frames kind bytes h form after
  pub more : GivesMore form limit after

-- Why no message is read off the bytes that were left: the first of them begin none, whatever
-- follows, and give no more of a body than its limit; or they hold none and end within a head or a
-- body; or a head or a body is too long.
abbrev pub MessageFault : {H : Type 0} → Kind H → ℕ → ByteList → WireFault → Type 0
MessageFault kind limit bytes Failed = ⊤
MessageFault kind limit bytes Memory = ⊤
MessageFault kind limit bytes (Malformed at) =
    (count : ℕ) × (at ≡ in_word count) × BeginsNone kind (take count bytes)
    × (¬ (Exceeds kind limit (take count bytes)))
MessageFault kind limit bytes (Ended at) =
    (at ≡ in_word (length bytes)) × HoldsNone kind bytes
    × (kind.begins bytes ⊎ EndsInBody kind limit bytes)
MessageFault kind limit bytes (TooLong len) =
    ((len ≡ HEAD_LIMIT + 1) × kind.passes bytes)
    ⊎ (Announces kind limit bytes len ⊎ ((len ≡ in_word (limit + 1)) × Exceeds kind limit bytes))
