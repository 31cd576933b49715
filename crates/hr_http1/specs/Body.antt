-- The body of a message in its framing (RFC 9112, section 6.3).
use Rattle.std.specs.Prelude.{⊤, ◌≡◌, ◌≢◌, ◌↔◌, ℕ, zero, suc, ◌+◌, ◌<◌, ◌⊎◌, [], ◌++◌, length, take, Some}
use Rattle.hr_base.specs.Bytes.{ByteList}
use Rattle.hr_body.specs.declared.fault.WireFault.{WireFault}
use Rattle.hr_body.specs.declared.fault.WireFault.TheVariants.{Failed, Malformed, Ended, TooLong, Memory}
use Rattle.hr_body.specs.declared.stage.Stage.{Stage}
use Rattle.hr_body.specs.declared.stage.Stage.TheVariants as At
use Rattle.hr_body.specs.Chunked.{IsChunked}
use Rattle.hr_body.specs.Leading.{HoldsBody, Strays, IsShort, IsPast}
use Rattle.hr_body.specs.Reading.{BrokeOff, in_word}
use Rattle.hr_body.specs.Stage.{chunked_start}
use Rattle.hr_frame.specs.declared.framing.Framing.{Framing}
use Rattle.hr_frame.specs.declared.framing.Framing.TheVariants.{NoBody, Sized, Chunked, ToEnd}

-- the bytes begin with this body in this framing, and the rest follows it
abbrev pub ReadsBody : Framing → ByteList → ByteList → ByteList → Type 0
ReadsBody NoBody bytes body rest = (body ≡ []) × (rest ≡ bytes)
ReadsBody (Sized len) bytes body rest = (length body ≡ len) × (bytes ≡ body ++ rest)
ReadsBody Chunked bytes body rest = IsChunked bytes body rest
ReadsBody ToEnd bytes body rest = (body ≡ bytes) × (rest ≡ [])

-- no continuation of the bytes begins with a body in this framing
abbrev pub BeginsNoBody : Framing → ByteList → Type 0
BeginsNoBody form bytes =
    (more body rest : ByteList) → ¬ (ReadsBody form (bytes ++ more) body rest)

-- where a body of this length begins
abbrev pub sized_start : ℕ → Stage
sized_start zero = At.Done
sized_start (suc more) = At.Sized more

-- where a body in this framing begins
abbrev pub start_of : Framing → Stage
start_of NoBody = At.Done
start_of (Sized len) = sized_start len
start_of Chunked = chunked_start
start_of ToEnd = At.ToEnd

-- the bytes give more than this of a body in this framing
pub record GivesMore (form : Framing) (limit : ℕ) (bytes : ByteList) : Type 0 where
  pub front : ByteList
  pub rest : ByteList
  pub cut : bytes ≡ front ++ rest
  pub past : IsPast (start_of form) limit front

-- the length of a body is announced, and passes the limit
pub record IsAnnounced (form : Framing) (limit len : ℕ) : Type 0 where
  pub sized : form ≡ Sized len
  pub long : limit < len

-- why no body in this framing is read off the bytes that follow so many others of the message
abbrev pub BodyFault : Framing → ℕ → ℕ → ByteList → WireFault → Type 0
BodyFault form at limit bytes Failed = ⊤
BodyFault form at limit bytes Memory = ⊤
BodyFault form at limit bytes (Malformed place) =
    (count : ℕ) × (place ≡ in_word (at + count)) × BeginsNoBody form (take count bytes)
    × (¬ (GivesMore form limit (take count bytes)))
BodyFault form at limit bytes (Ended place) =
    (place ≡ in_word (at + length bytes)) × IsShort (start_of form) limit bytes
BodyFault form at limit bytes (TooLong len) =
    IsAnnounced form limit len ⊎ ((len ≡ in_word (limit + 1)) × GivesMore form limit bytes)

-- what holds of bodies, whatever reads them: one that is begun at its framing's start is one in its
-- framing; bytes begin with at most one; those that stray, or end too early, with none; and those
-- that give more than a limit with none within it, and are read as too long
pub record BodyFacts : Type 0 where
  pub held : (form : Framing) (bytes body rest : ByteList)
      → HoldsBody (start_of form) bytes body rest ↔ ReadsBody form bytes body rest
  pub unique : (form : Framing) (bytes one other rest left : ByteList)
      → ReadsBody form bytes one rest → ReadsBody form bytes other left
      → (one ≡ other) × (rest ≡ left)
  pub strays : (form : Framing) (room : ℕ) (front : ByteList)
      → Strays (start_of form) room front → BeginsNoBody form front
  pub short : (form : Framing) (room : ℕ) (bytes body rest : ByteList)
      → IsShort (start_of form) room bytes → ¬ (ReadsBody form bytes body rest)
  pub past : (form : Framing) (limit : ℕ) (bytes body rest : ByteList)
      → GivesMore form limit bytes → ReadsBody form bytes body rest → limit < length body
  pub long : (form : Framing) (at limit : ℕ) (bytes left : ByteList) (why : WireFault)
      → GivesMore form limit bytes
      → BrokeOff (Some bytes) (start_of form) at limit limit why (Some left) → why ≢ Failed
      → why ≡ TooLong (in_word (limit + 1))
