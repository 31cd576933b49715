-- Lemmas on the heads of requests.
use Rattle.std.proofs.Common.{◌≡◌, ◌≤◌, ℕ, [], ◌∷◌, ◌++◌, length, append_assoc, sym, ap, subst, ◌∙◌, Option, Some, None, Ok}
use Rattle.httparse.specs.Grammar.{print_blank, print_end, print_version, print_section, RequestHead as Grammatical, IsRequestHead as IsGrammatical, print_request, HasNoRequest}
use Rattle.hr_base.specs.Bytes.{ByteList}
use Rattle.hr_body.specs.Reading.{WhereTold}
use Rattle.hr_cause.specs.Stream.{Gave}
use Rattle.hr_head.specs.declared.ending.Ending.TheVariants.{Lead, Empty}
use Rattle.hr_head.specs.declared.field.TheConstants.{HEAD_LIMIT}
use Rattle.hr_head.specs.declared.request.RequestHead.{RequestHead}
use Rattle.hr_head.specs.Ending.{ending_of}
use Rattle.hr_head.specs.Request.{HoldNoRequest, IsRequestHead, LooksRequest}
use Rattle.hr_head.proofs.EndingLemmas.{head_empty}
use Rattle.hr_head.proofs.HeadLemmas.{whole_head, none_within}

pub request_ends : (h : Grammatical) → ending_of Lead (print_request h) ≡ Empty
unfolding print_request
request_ends h =
    ap (λ l. ending_of Lead ((l ++ print_end h.line_end) ++ print_section h.fields h.last)) (append_assoc (print_blank h.blank ++ h.method) (32 ∷ h.target) (32 ∷ print_version h.minor))
    ∙ head_empty (print_blank h.blank ++ h.method) (h.target ++ 32 ∷ print_version h.minor) h.line_end h.last h.fields

-- a head that the last byte ended is what the device gave
pub read_request : (old new : Option ByteList) (buf all : ByteList) (b : ℕ) (head : RequestHead) → all ≡ buf ++ b ∷ [] → Gave old all new → HasNoRequest buf
    → length all ≤ HEAD_LIMIT → LooksRequest all (Ok (Some head)) → WhereTold old new (λ bytes rest. IsRequestHead bytes head rest)
read_request None None buf all b head is told none small looks = tt
read_request None (Some new) buf all b head is told none small looks = told
read_request (Some old) None buf all b head is told none small looks = told
read_request (Some old) (Some new) buf all b head is told none small (h, rest, reads, few, says) =
    let whole : print_request h ≡ all = whole_head IsGrammatical print_request request_ends buf all b h rest none is reads.0 reads.1 in
    (h, record { reads = (reads.0, told ∙ ap (λ p. p ++ new) (sym whole)); few = few; short = subst (λ p. length p ≤ HEAD_LIMIT) (sym whole) small }, says)

pub no_request_within : (buf : ByteList) → HasNoRequest buf → length buf ≡ HEAD_LIMIT → (more : ByteList) → HoldNoRequest (buf ++ more)
no_request_within buf none full more h rest reads = none_within IsGrammatical print_request request_ends buf more h rest none full reads.reads.0 reads.reads.1 reads.short
