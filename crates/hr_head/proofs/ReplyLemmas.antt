-- Lemmas on the heads of replies.
use Rattle.std.proofs.Common.{◌≡◌, ◌≤◌, ℕ, [], ◌∷◌, ◌++◌, length, append_assoc, sym, ap, subst, ◌∙◌, Option, Some, None, Ok}
use Rattle.httparse.specs.Grammar.{print_blank, print_end, print_version, print_reason, print_section, ResponseHead, IsResponseHead, print_response, HasNoResponse}
use Rattle.hr_base.specs.Bytes.{ByteList}
use Rattle.hr_body.specs.Reading.{WhereTold}
use Rattle.hr_cause.specs.Stream.{Gave}
use Rattle.hr_head.specs.declared.ending.Ending.TheVariants.{Lead, Empty}
use Rattle.hr_head.specs.declared.field.TheConstants.{HEAD_LIMIT}
use Rattle.hr_head.specs.declared.reply.ReplyHead.{ReplyHead}
use Rattle.hr_head.specs.Ending.{ending_of}
use Rattle.hr_head.specs.Reply.{HoldNoReply, IsReplyHead, LooksReply}
use Rattle.hr_head.proofs.EndingLemmas.{head_empty}
use Rattle.hr_head.proofs.HeadLemmas.{whole_head, none_within}

pub reply_ends : (h : ResponseHead) → ending_of Lead (print_response h) ≡ Empty
unfolding print_response
reply_ends h =
    ap (λ l. ending_of Lead ((l ++ print_end h.line_end) ++ print_section h.fields h.last)) (append_assoc (print_blank h.blank ++ print_version h.minor) (32 ∷ h.digits) (print_reason h.reason))
    ∙ head_empty (print_blank h.blank ++ print_version h.minor) (h.digits ++ print_reason h.reason) h.line_end h.last h.fields

-- a head that the last byte ended is what the device gave
pub read_reply : (old new : Option ByteList) (buf all : ByteList) (b : ℕ) (head : ReplyHead) → all ≡ buf ++ b ∷ [] → Gave old all new → HasNoResponse buf
    → length all ≤ HEAD_LIMIT → LooksReply all (Ok (Some head)) → WhereTold old new (λ bytes rest. IsReplyHead bytes head rest)
read_reply None None buf all b head is told none small looks = tt
read_reply None (Some new) buf all b head is told none small looks = told
read_reply (Some old) None buf all b head is told none small looks = told
read_reply (Some old) (Some new) buf all b head is told none small (h, rest, reads, few, says) =
    let whole : print_response h ≡ all = whole_head IsResponseHead print_response reply_ends buf all b h rest none is reads.0 reads.1 in
    (h, record { reads = (reads.0, told ∙ ap (λ p. p ++ new) (sym whole)); few = few; short = subst (λ p. length p ≤ HEAD_LIMIT) (sym whole) small }, says)

pub no_reply_within : (buf : ByteList) → HasNoResponse buf → length buf ≡ HEAD_LIMIT → (more : ByteList) → HoldNoReply (buf ++ more)
no_reply_within buf none full more h rest reads = none_within IsResponseHead print_response reply_ends buf more h rest none full reads.reads.0 reads.reads.1 reads.short
