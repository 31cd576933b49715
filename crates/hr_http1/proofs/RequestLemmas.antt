-- Lemmas on requests.
use Rattle.std.proofs.Common.{◌≡◌, ℕ, ◌≤◌, ◌++◌, length, take, map, refl, sym, ap, subst, ◌∙◌, arith, inl, Option, Some, None, IfSome}
use Rattle.httparse.specs.Grammar.{RequestHead as Grammatical, print_request}
use Rattle.httparse.proofs.GrammarLemmas.{request_unique}
use Rattle.hr_base.specs.Bytes.{ByteList}
use Rattle.hr_body.specs.declared.fault.WireFault.{WireFault}
use Rattle.hr_body.specs.declared.fault.WireFault.TheVariants.{Failed, Malformed, Ended, TooLong, Memory}
use Rattle.hr_body.specs.Reading.{WhereTold, in_word}
use Rattle.hr_frame.specs.declared.framing.Framing.{Framing}
use Rattle.hr_frame.specs.Framing.{request_framing}
use Rattle.hr_head.specs.declared.request.RequestHead.{RequestHead}
use Rattle.hr_head.specs.Request.{IsRequestHead, ReadsRequest, RequestFault}
use Rattle.hr_head.specs.Verb.{IsVerb}
use Rattle.hr_http1.specs.declared.message.Request.{Request}
use Rattle.hr_http1.specs.Body.{ReadsBody, BodyFault, BodyFacts}
use Rattle.hr_http1.specs.Message.{line_of, Frames}
use Rattle.hr_http1.specs.Request.{IsWithin, request_form, request_kind, RequestLost, SpellsRequest}
use Rattle.hr_http1.proofs.MessageLemmas.{FramesNone, HeadsAreOne, PassesNone, frames_none, lines_are, unframed, body_lost}
use Rattle.hr_http1.proofs.ReplyLemmas.{front_of, some_many}

-- bytes begin with at most one head
pub requests_are_one : HeadsAreOne request_kind
requests_are_one h k r s a b e = request_unique (print_request h ++ r) h k r s (a.valid, refl) (b.valid, e)

held_reads : (bytes after : ByteList) (h : Grammatical) (form : Framing) (f : Frames request_kind bytes h form after) → ReadsRequest bytes h after
held_reads bytes after h form f = let ok = f.ok in record { reads = (ok.valid, f.cut); few = ok.few; short = ok.short }

-- bytes whose head passes its limit begin no message
pub long_requests : PassesNone request_kind
long_requests bytes passes more h body rest holds =
    let ok = holds.frames.ok in
    let fits : length (print_request h) ≤ length bytes = omega (arith, ok.short, passes.long) in
    let r = front_of (print_request h) bytes more holds.after holds.frames.cut fits in
    passes.none h r.0 (record { reads = (ok.valid, r.1); few = ok.few; short = ok.short })

-- a fault of a head is one of the message
head_lost : (limit : ℕ) (bytes : ByteList) (why : WireFault) → RequestFault bytes why → RequestLost limit bytes why
head_lost limit bytes Failed fault = tt
head_lost limit bytes Memory fault = tt
head_lost limit bytes (Malformed at) fault =
    let small : at ≡ in_word at = omega (arith, fault.0) in
    let none : FramesNone request_kind (take at bytes) = λ more h form after f.
    let r = held_reads (take at bytes ++ more) after h form f in
    some_many (fault.1 more h after r.reads) r.few in
    let both = frames_none request_kind limit (take at bytes) none in
    (at, small, both.0, both.1)
head_lost limit bytes (Ended at) fault =
    let small : at ≡ in_word (length bytes) = omega (arith, fault.0, fault.1) in
    (small, (λ h body rest holds. fault.2 h holds.after (held_reads bytes holds.after h holds.form holds.frames)), inl fault.3)
head_lost limit bytes (TooLong len) fault = inl (fault.0, record { long = fault.1; none = fault.2; may = fault.3 })

pub request_head_lost : (limit : ℕ) (old : Option ByteList) (why : WireFault) → IfSome old (λ bytes. RequestFault bytes why) → IfSome old (λ bytes. RequestLost limit bytes why)
request_head_lost limit None why fault = tt
request_head_lost limit (Some bytes) why fault = head_lost limit bytes why fault

form_of_head : (head : RequestHead) (h : Grammatical) → head.heads ≡ map line_of h.fields → request_framing head.heads ≡ request_form h
form_of_head head h lines = ap request_framing lines

frames : (bytes rest : ByteList) (head : RequestHead) (form : Framing) (h : Grammatical) → ReadsRequest bytes h rest → head.heads ≡ map line_of h.fields
    → request_framing head.heads ≡ Some form → Frames request_kind bytes h form rest
frames bytes rest head form h reads lines is =
    record { ok = record { valid = reads.reads.0; few = reads.few; short = reads.short }; cut = reads.reads.1; framed = sym (form_of_head head h lines) ∙ is }

-- a head that says no framing begins no message
pub request_unframed : (limit at : ℕ) (old new : Option ByteList) (head : RequestHead) → at ≡ head.len → at ≡ in_word at → WhereTold old new (λ bytes rest. IsRequestHead bytes head rest)
    → request_framing head.heads ≡ None → IfSome old (λ bytes. RequestLost limit bytes (Malformed at))
request_unframed limit at None new head len small h none = tt
request_unframed limit at (Some old) None head len small h none = absurd h
request_unframed limit at (Some old) (Some new) head len small (h, reads, says) none =
    let lines = lines_are head.heads h.fields says.heads in
    let ok : IsWithin h = record { valid = reads.reads.0; few = reads.few; short = reads.short } in
    let never = unframed request_kind requests_are_one old new h ok reads.reads.1 (sym (form_of_head head h lines) ∙ none) in
    let both = frames_none request_kind limit (take at old) (subst (λ n. FramesNone request_kind (take n old)) (sym (len ∙ says.len)) never) in
    (at, small, both.0, both.1)

-- a body behind the head makes a request
pub request_read : (old mid new : Option ByteList) (head : RequestHead) (form : Framing) (request : Request) → WhereTold old mid (λ bytes rest. IsRequestHead bytes head rest)
    → request_framing head.heads ≡ Some form → WhereTold mid new (λ bytes rest. ReadsBody form bytes request.body rest)
    → request.verb ≡ head.verb → request.target ≡ head.target → request.heads ≡ head.heads → WhereTold old new (λ bytes rest. SpellsRequest bytes request rest)
request_read None None None head form request f is body verb target heads = tt
request_read None None (Some new) head form request f is body verb target heads = body
request_read None (Some mid) new head form request f is body verb target heads = absurd f
request_read (Some old) None new head form request f is body verb target heads = absurd f
request_read (Some old) (Some mid) None head form request f is body verb target heads = body
request_read (Some old) (Some mid) (Some new) head form request (h, reads, says) is body verb target heads =
    let lines = lines_are head.heads h.fields says.heads in
    record {
      head = h;
      holds = record { form = form; after = mid; frames = frames old mid head form h reads lines is; reads = body };
      verb = subst (λ v. IsVerb h.method v) (sym verb) says.verb;
      target = target ∙ says.target;
      lines = heads ∙ lines;
    }

-- why no body is read behind the head
pub request_body_lost : (facts : BodyFacts) (at limit : ℕ) (old mid : Option ByteList) (head : RequestHead) (form : Framing) (why : WireFault) → at ≡ head.len
    → WhereTold old mid (λ bytes rest. IsRequestHead bytes head rest) → request_framing head.heads ≡ Some form → IfSome mid (λ bytes. BodyFault form at limit bytes why)
    → IfSome old (λ bytes. RequestLost limit bytes why)
request_body_lost facts at limit None mid head form why len f is fault = tt
request_body_lost facts at limit (Some old) None head form why len f is fault = absurd f
request_body_lost facts at limit (Some old) (Some mid) head form why len (h, reads, says) is fault =
    body_lost request_kind requests_are_one facts old mid h form at limit why (frames old mid head form h reads (lines_are head.heads h.fields says.heads) is) (len ∙ says.len) fault
