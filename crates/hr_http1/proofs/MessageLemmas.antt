-- Lemmas on whole messages of any kind whose bytes begin with at most one of its heads.
use Rattle.std.proofs.Common.{◌≡◌, ◌≢◌, ℕ, ◌+◌, ◌<◌, ◌≤◌, ◌⊎◌, inl, inr, [], ◌∷◌, ◌++◌, length, take, drop, refl, sym, ap, subst, ◌∙◌, arith, append_assoc, append-nil, length-append, Some, None}
use Rattle.std.proofs.Math.Seq.{take-append_seam, take-append-add}
use Rattle.std.proofs.lemmas.List.{take-append-drop}
use Rattle.hr_base.specs.Bytes.{ByteList}
use Rattle.hr_body.specs.declared.fault.WireFault.{WireFault}
use Rattle.hr_body.specs.declared.fault.WireFault.TheVariants.{Failed, Malformed, Ended, TooLong, Memory}
use Rattle.hr_body.specs.Reading.{in_word}
use Rattle.hr_frame.specs.declared.framing.Framing.{Framing}
use Rattle.hr_frame.specs.declared.framing.Framing.TheVariants.{Sized}
use Rattle.hr_frame.specs.declared.head.Head.{Head}
use Rattle.hr_head.specs.Field.{pair_of}
use Rattle.httparse.specs.Grammar.{Field}
use Rattle.httparse.specs.Spans.{name_and_value}
use Rattle.std.specs.Prelude.{List, map}
use Rattle.hr_http1.specs.Body.{ReadsBody, GivesMore, IsAnnounced, BodyFault, BodyFacts}
use Rattle.hr_http1.specs.Message.{line_of, Kind, Frames, Holds, HoldsNone, BeginsNone, Exceeds, MessageFault}

-- bytes begin with at most one head of the kind
abbrev pub HeadsAreOne : {H : Type 0} → Kind H → Type 0
HeadsAreOne {H} kind = (h k : H) (r s : ByteList) → kind.valid h → kind.valid k → kind.print h ++ r ≡ kind.print k ++ s → (h ≡ k) × (r ≡ s)

-- bytes with a head that passes its limit begin no message, whatever follows
abbrev pub PassesNone : {H : Type 0} → Kind H → Type 0
PassesNone kind = (bytes : ByteList) → kind.passes bytes → BeginsNone kind bytes

some_same : {A : Type 0} (x y : A) → Some x ≡ Some y → x ≡ y
some_same x y e = cc

none_some : {A : Type 0} (x : A) → None ≡ Some x → ⊥
none_some x e = cc

line_is : (head : Head) (field : Field) → pair_of head ≡ name_and_value field → head ≡ line_of field
line_is head field e = λ i. record { name = (e i).0; value = (e i).1 }

-- lines with the same names and values are the same
pub lines_are : (heads : List Head) (fields : List Field) → map pair_of heads ≡ map name_and_value fields → heads ≡ map line_of fields
lines_are [] [] e = refl
lines_are [] (f ∷ fs) e = absurd (let x : ⊥ = cc in x)
lines_are (h ∷ hs) [] e = absurd (let x : ⊥ = cc in x)
lines_are (h ∷ hs) (f ∷ fs) e =
    let one : pair_of h ≡ name_and_value f = cc in
    let more : map pair_of hs ≡ map name_and_value fs = cc in
    let first = line_is h f one in
    let later = lines_are hs fs more in
    λ i. first i ∷ later i

-- no continuation of the bytes begins with a head that says a framing
abbrev pub FramesNone : {H : Type 0} → Kind H → ByteList → Type 0
FramesNone {H} kind bytes = (more : ByteList) (h : H) (form : Framing) (after : ByteList) → ¬ (Frames kind (bytes ++ more) h form after)

-- such bytes begin no message, and give no more than a limit
pub frames_none : {H : Type 0} (kind : Kind H) (limit : ℕ) (bytes : ByteList) → FramesNone kind bytes → BeginsNone kind bytes × (¬ (Exceeds kind limit bytes))
frames_none kind limit bytes none = (
  (λ more k body left holds. none more k holds.form holds.after holds.frames),
  (λ x. none [] x.h x.form x.after (subst (λ l. Frames kind l x.h x.form x.after) (sym (append-nil bytes)) x.frames)),
)

module _ {H : Type 0} (kind : Kind H) (one : HeadsAreOne kind) where
  -- a message behind a head has its body behind that head
  pub same_body : (bytes body rest : ByteList) (h k : H) (form : Framing) (after : ByteList) → Frames kind bytes h form after → Holds kind bytes k body rest → ReadsBody form after body rest
  same_body bytes body rest h k form after f holds =
      let same = one h k after holds.after f.ok holds.frames.ok (sym f.cut ∙ holds.frames.cut) in
      let forms : form ≡ holds.form = some_same form holds.form (sym f.framed ∙ ap kind.form_of same.0 ∙ holds.frames.framed) in
      subst (λ g. ReadsBody g after body rest) (sym forms) (subst (λ l. ReadsBody holds.form l body rest) (sym same.1) holds.reads)

  -- a head whose lines say no framing begins no message
  pub unframed : (bytes rest : ByteList) (h : H) → kind.valid h → bytes ≡ kind.print h ++ rest → kind.form_of h ≡ None → FramesNone kind (take (length (kind.print h)) bytes)
  unframed bytes rest h ok cut none more k form after f =
      let front : take (length (kind.print h)) bytes ≡ kind.print h = ap (λ l. take (length (kind.print h)) l) cut ∙ take-append_seam (kind.print h) rest in
      let same = one h k more after ok f.ok (ap (λ l. l ++ more) (sym front) ∙ f.cut) in
      none_some form (sym none ∙ ap kind.form_of same.0 ∙ f.framed)

  frames_more : (after more all : ByteList) (h : H) (form : Framing) → kind.valid h → kind.form_of h ≡ Some form → all ≡ kind.print h ++ after → Frames kind (all ++ more) h form (after ++ more)
  frames_more after more all h form ok framed cut =
      record { ok = ok; framed = framed; cut = ap (λ l. l ++ more) cut ∙ append_assoc (kind.print h) after more }

  -- what is behind a head gives as much as the bytes with it
  same_more : (bytes after : ByteList) (h : H) (form : Framing) (limit : ℕ) → Frames kind bytes h form after → Exceeds kind limit bytes → GivesMore form limit after
  same_more bytes after h form limit f x =
      let same = one h x.h after x.after f.ok x.frames.ok (sym f.cut ∙ x.frames.cut) in
      let forms : form ≡ x.form = some_same form x.form (sym f.framed ∙ ap kind.form_of same.0 ∙ x.frames.framed) in
      subst (λ g. GivesMore g limit after) (sym forms) (subst (λ l. GivesMore x.form limit l) (sym same.1) x.more)

  -- why no body is read behind a head is why no message is read
  pub body_lost : (facts : BodyFacts) (bytes after : ByteList) (h : H) (form : Framing) (at limit : ℕ) (why : WireFault) → Frames kind bytes h form after → at ≡ length (kind.print h)
      → BodyFault form at limit after why → MessageFault kind limit bytes why
  body_lost facts bytes after h form at limit Failed f len fault = tt
  body_lost facts bytes after h form at limit Memory f len fault = tt
  body_lost facts bytes after h form at limit (Malformed place) f len (count, is, none, keeps) =
      let front : take (at + count) bytes ≡ kind.print h ++ take count after =
      ap (λ n. take (n + count) bytes) len ∙ ap (λ l. take (length (kind.print h) + count) l) f.cut ∙ take-append-add (kind.print h) after count in (
        at + count,
        is,
        (λ more k body rest holds.
            none more body rest (same_body (take (at + count) bytes ++ more) body rest h k form (take count after ++ more) (frames_more (take count after) more (take (at + count) bytes) h form f.ok f.framed front) holds)),
        (λ x. keeps (same_more (take (at + count) bytes) (take count after) h form limit (record { ok = f.ok; cut = front; framed = f.framed }) x)),
      )
  body_lost facts bytes after h form at limit (Ended place) f len fault =
      let all : length bytes ≡ at + length after = ap length f.cut ∙ length-append (kind.print h) after ∙ ap (λ n. n + length after) (sym len) in (
        fault.0 ∙ ap in_word (sym all),
        (λ k body rest holds. facts.short form limit after body rest fault.1 (same_body bytes body rest h k form after f holds)),
        inr (record { h = h; form = form; after = after; frames = f; short = fault.1 }),
      )
  body_lost facts bytes after h form at limit (TooLong len) f is (inl announced) =
      inr (inl (record { h = h; form = form; after = after; frames = f; announced = announced }))
  body_lost facts bytes after h form at limit (TooLong len) f is (inr more) =
      inr (inr (more.0, record { h = h; form = form; after = after; frames = f; more = more.1 }))

  announced_none : (form : Framing) (limit len : ℕ) (bytes body rest : ByteList) → IsAnnounced form limit len → ReadsBody form bytes body rest → length body ≤ limit → ⊥
  announced_none form limit len bytes body rest a reads small =
      let sized : ReadsBody (Sized len) bytes body rest = subst (λ f. ReadsBody f bytes body rest) a.sized reads in
      omega (arith, sized.0, a.long, small)

  -- where bytes begin with a message whose body keeps the limit, no fault of any front of them is one
  -- of the bytes, but that they end too early
  pub front_lost : (facts : BodyFacts) (none : PassesNone kind) (front more body rest : ByteList) (h : H) (limit : ℕ) (why : WireFault) → Holds kind (front ++ more) h body rest
      → length body ≤ limit → MessageFault kind limit front why
      → (why ≡ Failed) ⊎ ((why ≡ Memory) ⊎ ((why ≡ Ended (in_word (length front))) × HoldsNone kind front))
  front_lost facts none front more body rest h limit Failed holds small fault = inl refl
  front_lost facts none front more body rest h limit Memory holds small fault = inr (inl refl)
  front_lost facts none front more body rest h limit (Malformed at) holds small (count, is, never, keeps) =
      let all : take count front ++ (drop count front ++ more) ≡ front ++ more = sym (append_assoc (take count front) (drop count front) more) ∙ ap (λ l. l ++ more) (take-append-drop count front) in
      absurd (never (drop count front ++ more) h body rest (subst (λ l. Holds kind l h body rest) (sym all) holds))
  front_lost facts none front more body rest h limit (Ended at) holds small fault = inr (inr (ap (λ n. Ended n) fault.0, fault.1))
  front_lost facts none front more body rest h limit (TooLong len) holds small (inl passes) = absurd (none front passes.1 more h body rest holds)
  front_lost facts none front more body rest h limit (TooLong len) holds small (inr (inl a)) =
      absurd (announced_none a.form limit len (a.after ++ more) body rest a.announced
      (same_body (front ++ more) body rest a.h h a.form (a.after ++ more) (frames_more a.after more front a.h a.form a.frames.ok a.frames.framed a.frames.cut) holds) small)
  front_lost facts none front more body rest h limit (TooLong len) holds small (inr (inr (is, x))) =
      let gives : GivesMore x.form limit (x.after ++ more) =
      record { front = x.more.front; rest = x.more.rest ++ more; cut = ap (λ l. l ++ more) x.more.cut ∙ append_assoc x.more.front x.more.rest more; past = x.more.past } in
      let long = facts.past x.form limit (x.after ++ more) body rest gives
      (same_body (front ++ more) body rest x.h h x.form (x.after ++ more) (frames_more x.after more front x.h x.form x.frames.ok x.frames.framed x.frames.cut) holds) in
      absurd (omega (arith, long, small))

  -- a message whose body passes the limit is too long
  pub long_lost : (facts : BodyFacts) (none : PassesNone kind) (bytes body rest : ByteList) (h : H) (limit : ℕ) (why : WireFault) → Holds kind bytes h body rest → limit < length body
      → MessageFault kind limit bytes why → why ≢ Failed → why ≢ Memory → (why ≡ TooLong (length body)) ⊎ (why ≡ TooLong (in_word (limit + 1)))
  long_lost facts none bytes body rest h limit Failed holds long fault not_failed not_memory = absurd (not_failed refl)
  long_lost facts none bytes body rest h limit Memory holds long fault not_failed not_memory = absurd (not_memory refl)
  long_lost facts none bytes body rest h limit (Malformed at) holds long (count, is, never, keeps) not_failed not_memory =
      absurd (never (drop count bytes) h body rest (subst (λ l. Holds kind l h body rest) (sym (take-append-drop count bytes)) holds))
  long_lost facts none bytes body rest h limit (Ended at) holds long fault not_failed not_memory = absurd (fault.1 h body rest holds)
  long_lost facts none bytes body rest h limit (TooLong len) holds long (inl passes) not_failed not_memory =
      absurd (none bytes passes.1 [] h body rest (subst (λ l. Holds kind l h body rest) (sym (append-nil bytes)) holds))
  long_lost facts none bytes body rest h limit (TooLong len) holds long (inr (inl a)) not_failed not_memory =
      let sized : ReadsBody (Sized len) a.after body rest = subst (λ f. ReadsBody f a.after body rest) a.announced.sized (same_body bytes body rest a.h h a.form a.after a.frames holds) in
      inl (ap (λ n. TooLong n) (sym sized.0))
  long_lost facts none bytes body rest h limit (TooLong len) holds long (inr (inr x)) not_failed not_memory = inr (ap (λ n. TooLong n) x.0)

  -- bytes begin with at most one message
  pub one_message : (facts : BodyFacts) (bytes body other rest left : ByteList) (h k : H) → Holds kind bytes h body rest → Holds kind bytes k other left
      → (h ≡ k) × (body ≡ other) × (rest ≡ left)
  one_message facts bytes body other rest left h k x y =
      let same = one h k x.after y.after x.frames.ok y.frames.ok (sym x.frames.cut ∙ y.frames.cut) in
      let bodies = facts.unique x.form x.after body other rest left x.reads (same_body bytes other left h k x.form x.after x.frames y) in
      (same.0, bodies.0, bodies.1)
