-- The framing of a message's body (RFC 9112, section 6.3).
use Rattle.std.specs.Prelude.{ℕ, Bool, ◌&&◌, ◌||◌, nat_le, ◌==◌, List, [], ◌∷◌, Option, Some, None, if◌then◌else◌, codes}
use Rattle.std.specs.Str.{str_eq_ignore_ascii_case}
use Rattle.hr_base.specs.Bytes.{Text}
use Rattle.hr_frame.specs.declared.head.Head.{Head}
use Rattle.hr_frame.specs.declared.framing.Framing.{Framing}
use Rattle.hr_frame.specs.declared.framing.Framing.TheVariants.{NoBody, Sized, Chunked, ToEnd}
use Rattle.hr_frame.specs.Length.{length_of}
use Rattle.hr_frame.specs.Named.{values_named}

-- a body of this length, where there is one
abbrev pub sized_by : Option ℕ → Option Framing
sized_by None = None
sized_by (Some len) = Some (Sized len)

-- a body in chunks, where the coding is `chunked`, in any case
abbrev pub coded_by : Text → Option Framing
coded_by coding =
    if str_eq_ignore_ascii_case coding (codes "chunked") then Some Chunked else None

-- the framing by the values of `Content-Length` and of `Transfer-Encoding`, of which there is one
-- in all, or none, and then it is the given one
abbrev pub framed_by : Framing → List Text → List Text → Option Framing
framed_by neither [] [] = Some neither
framed_by neither (value ∷ []) [] = sized_by (length_of value)
framed_by neither (value ∷ other ∷ values) [] = None
framed_by neither [] (coding ∷ []) = coded_by coding
framed_by neither [] (coding ∷ other ∷ codings) = None
framed_by neither (value ∷ values) (coding ∷ codings) = None

-- the framing by the field lines
abbrev pub framing_of : Framing → List Head → Option Framing
framing_of neither heads =
    framed_by neither (values_named (codes "content-length") heads)
    (values_named (codes "transfer-encoding") heads)

-- a reply to a HEAD request, or with status 100 to 199, 204 or 304, has no body
abbrev pub has_no_body : Bool → ℕ → Bool
has_no_body head_only status =
    head_only || ((nat_le 100 status && nat_le status 199) || ((status == 204) || (status == 304)))

-- the framing of a reply, or none where it is malformed
abbrev pub reply_framing : Bool → ℕ → List Head → Option Framing
reply_framing head_only status heads =
    if has_no_body head_only status then Some NoBody else framing_of ToEnd heads

-- the framing of a request, or none where it is malformed
abbrev pub request_framing : List Head → Option Framing
request_framing heads = framing_of NoBody heads
