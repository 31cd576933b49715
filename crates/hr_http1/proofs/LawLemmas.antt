-- Lemmas behind the laws of messages.
use Rattle.std.proofs.Common.{◌≡◌, ◌≢◌, ℕ, ◌≤◌, ◌⊎◌, inl, inr, Bool, true, false, if◌then◌else◌, [], ◌++◌, length, map, refl, sym, ap, subst, ◌∙◌, append-nil, Some}
use Rattle.std.specs.Prelude.{codes, bytes_eq}
use Rattle.std.proofs.lemmas.Slice.Eq.{bytes_eq-Decides}
use Rattle.httparse.specs.Grammar.{status_code}
use Rattle.hr_base.specs.Bytes.{ByteList}
use Rattle.hr_body.specs.declared.body.Body.{Body}
use Rattle.hr_body.specs.declared.fault.WireFault.{WireFault}
use Rattle.hr_body.specs.declared.fault.WireFault.TheVariants.{Failed, Ended, Memory}
use Rattle.hr_body.specs.declared.stage.Stage.TheVariants.{Done}
use Rattle.hr_body.specs.Leading.{Leads, HoldsBody}
use Rattle.hr_body.specs.Reading.{in_word, GaveOf, LostOf}
use Rattle.hr_body.proofs.BodyLaws.{fault_behind_pieces, pieces_are_the_body}
use Rattle.hr_head.specs.declared.verb.Verb.{Verb}
use Rattle.hr_head.specs.declared.verb.Verb.TheVariants as Method
use Rattle.hr_head.specs.Verb.{IsVerb}
use Rattle.hr_http1.specs.declared.message.Reply.{Reply}
use Rattle.hr_http1.specs.declared.message.Request.{Request}
use Rattle.hr_http1.specs.Body.{BodyFacts, BodyFault, start_of}
use Rattle.hr_http1.specs.Message.{line_of, Kind, Holds, MessageFault}
use Rattle.hr_http1.specs.Reply.{print_heads, reply_kind, OpensReply, ReplyLost, SpellsReply}
use Rattle.hr_http1.specs.Request.{request_kind, SpellsRequest}
use Rattle.hr_http1.proofs.BodyLemmas.{PieceFact, body_fault}
use Rattle.hr_http1.proofs.MessageLemmas.{HeadsAreOne, PassesNone, body_lost, front_lost, one_message, same_body}
use Rattle.hr_http1.proofs.ReplyLemmas.{replies_are_one}
use Rattle.hr_http1.proofs.RequestLemmas.{requests_are_one}

reply_same : (one other : Reply) → one.status ≡ other.status → one.heads ≡ other.heads → one.body ≡ other.body → one ≡ other
reply_same one other s h b = λ i. record { status = s i; heads = h i; body = b i }

pub one_reply : (facts : BodyFacts) (head_only : Bool) (bytes rest left : ByteList) (one other : Reply) → SpellsReply head_only bytes one rest → SpellsReply head_only bytes other left
    → (one ≡ other) × (rest ≡ left)
one_reply facts head_only bytes rest left one other x y =
    let same = one_message (reply_kind head_only) (replies_are_one head_only) facts bytes one.body other.body rest left x.heads y.heads x.holds y.holds in
    (reply_same one other (x.status ∙ ap (λ h. status_code h.head) same.0 ∙ sym y.status) (x.lines ∙ ap (λ h. map line_of h.head.fields) same.0 ∙ sym y.lines) same.1, same.2)

by_test : {P : Type 0} (r : Bool) → (r ≡ true → P) → (P → ⊥) → r ≡ false
by_test true holds never = absurd (never (holds refl))
by_test false holds never = refl

test_false : (a b : ByteList) → a ≢ b → bytes_eq a b ≡ false
test_false a b other = by_test (bytes_eq a b) (bytes_eq-Decides a b).0 other

-- the verb that a method names
verb_named : ByteList → Verb
verb_named m =
    if bytes_eq m (codes "GET") then Method.Get
    else (if bytes_eq m (codes "HEAD") then Method.Head
    else (if bytes_eq m (codes "POST") then Method.Post
    else (if bytes_eq m (codes "PUT") then Method.Put
    else (if bytes_eq m (codes "PATCH") then Method.Patch
    else (if bytes_eq m (codes "DELETE") then Method.Delete else Method.Other)))))

verb_is : (m : ByteList) (verb : Verb) → IsVerb m verb → verb_named m ≡ verb
unfolding verb_named
verb_is m Method.Get is = ap verb_named is
verb_is m Method.Head is = ap verb_named is
verb_is m Method.Post is = ap verb_named is
verb_is m Method.Put is = ap verb_named is
verb_is m Method.Patch is = ap verb_named is
verb_is m Method.Delete is = ap verb_named is
verb_is m Method.Other is =
    rw (test_false m (codes "GET") is.0, test_false m (codes "HEAD") is.1, test_false m (codes "POST") is.2, test_false m (codes "PUT") is.3, test_false m (codes "PATCH") is.4, test_false m (codes "DELETE") is.5) refl

one_verb : (m k : ByteList) (a b : Verb) → m ≡ k → IsVerb m a → IsVerb k b → a ≡ b
one_verb m k a b same x y = sym (verb_is m a x) ∙ ap verb_named same ∙ verb_is k b y

request_same : (one other : Request) → one.verb ≡ other.verb → one.target ≡ other.target → one.heads ≡ other.heads → one.body ≡ other.body → one ≡ other
request_same one other v t h b = λ i. record { verb = v i; target = t i; heads = h i; body = b i }

pub one_request : (facts : BodyFacts) (bytes rest left : ByteList) (one other : Request) → SpellsRequest bytes one rest → SpellsRequest bytes other left → (one ≡ other) × (rest ≡ left)
one_request facts bytes rest left one other x y =
    let same = one_message request_kind requests_are_one facts bytes one.body other.body rest left x.head y.head x.holds y.holds in (
      request_same one other (one_verb x.head.method y.head.method one.verb other.verb (ap (λ h. h.method) same.0) x.verb y.verb)
          (x.target ∙ ap (λ h. h.target) same.0 ∙ sym y.target) (x.lines ∙ ap (λ h. map line_of h.fields) same.0 ∙ sym y.lines) same.1,
      same.2,
    )

module _ {H : Type 0} (kind : Kind H) (one : HeadsAreOne kind) (none : PassesNone kind) (facts : BodyFacts) where
  pub there_read : (limit : ℕ) (bytes body rest : ByteList) (h : H) (why : WireFault) → Holds kind bytes h body rest → length body ≤ limit → MessageFault kind limit bytes why → (why ≡ Failed) ⊎ (why ≡ Memory)
  there_read limit bytes body rest h why holds small fault =
      elim (front_lost kind one facts none bytes [] body rest h limit why (subst (λ l. Holds kind l h body rest) (sym (append-nil bytes)) holds) small fault) [
        | inl failed ↦ inl failed
        | inr other ↦ elim other [ inl memory ↦ inr memory | inr ended ↦ absurd (ended.1 h body rest holds) ]
      ]

  pub cut_ended : (limit : ℕ) (front more body rest : ByteList) (h : H) (why : WireFault) → Holds kind (front ++ more) h body rest → length body ≤ limit → MessageFault kind limit front why
      → why ≢ Failed → why ≢ Memory → why ≡ Ended (in_word (length front))
  cut_ended limit front more body rest h why holds small fault not_failed not_memory =
      elim (front_lost kind one facts none front more body rest h limit why holds small fault) [
        | inl failed ↦ absurd (not_failed failed)
        | inr other ↦ elim other [ inl memory ↦ absurd (not_memory memory) | inr ended ↦ ended.0 ]
      ]

pub opened_piece : (piece_fact : PieceFact) (facts : BodyFacts) (head_only : Bool) (limit : ℕ) (bytes rest left over : ByteList) (reply whole : Reply) (body now : Body) (piece : ByteList)
    → OpensReply head_only limit bytes reply body rest → GaveOf (Some rest) body piece now (Some left) → SpellsReply head_only bytes whole over → (more : ByteList) × (whole.body ≡ piece ++ more)
opened_piece piece_fact facts head_only limit bytes rest left over reply whole body now piece o g s =
    let reads = same_body (reply_kind head_only) (replies_are_one head_only) bytes whole.body over o.heads s.heads o.form rest o.frames s.holds in
    let holds : HoldsBody (start_of o.form) rest whole.body over = (facts.held o.form rest whole.body over).1 reads in
    let leads : Leads (start_of o.form) g.gave.front piece g.gave.mid = subst (λ p. Leads p g.gave.front piece g.gave.mid) o.fresh.stage_is g.gave.leads in
    let p = piece_fact (start_of o.form) g.gave.mid rest g.gave.front piece left whole.body over g.gave.told leads holds in
    (p.0, p.1)

pub opened_whole : (facts : BodyFacts) (head_only : Bool) (limit : ℕ) (bytes rest left : ByteList) (reply whole : Reply) (body now : Body) → OpensReply head_only limit bytes reply body rest
    → GaveOf (Some rest) body whole.body now (Some left) → now.stage ≡ Done → whole.status ≡ reply.status → whole.heads ≡ reply.heads → SpellsReply head_only bytes whole left
opened_whole facts head_only limit bytes rest left reply whole body now o g done status heads =
    let holds : HoldsBody (start_of o.form) rest whole.body left = subst (λ p. HoldsBody p rest whole.body left) o.fresh.stage_is (pieces_are_the_body rest left body now whole.body done g) in
    record {
      heads = o.heads;
      holds = record { form = o.form; after = rest; frames = o.frames; reads = (facts.held o.form rest whole.body left).0 holds };
      status = status ∙ o.status;
      lines = heads ∙ o.lines;
    }

pub opened_lost : (facts : BodyFacts) (head_only : Bool) (limit : ℕ) (bytes rest mid left : ByteList) (reply : Reply) (body now later : Body) (piece : ByteList) (why : WireFault)
    → OpensReply head_only limit bytes reply body rest → GaveOf (Some rest) body piece now (Some mid) → LostOf (Some mid) now why later (Some left) → ReplyLost head_only limit bytes why
opened_lost facts head_only limit bytes rest mid left reply body now later piece why o g lost =
    let broke = fault_behind_pieces (Some rest) (Some mid) (Some left) body now later piece why g lost in
    let fault : BodyFault o.form (length (print_heads o.heads)) limit rest why = body_fault facts o.form (Some rest) (Some left) body (length (print_heads o.heads)) limit why o.fresh (λ other. broke) in
    body_lost (reply_kind head_only) (replies_are_one head_only) facts bytes rest o.heads o.form (length (print_heads o.heads)) limit why o.frames refl fault
