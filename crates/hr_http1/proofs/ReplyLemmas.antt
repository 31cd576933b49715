-- Lemmas on the heads of replies, with those of interim replies before them.
use Rattle.std.proofs.Common.{◌≡◌, ℕ, ◌+◌, ◌<◌, ◌≤◌, inl, Bool, true, false, List, [], ◌∷◌, ◌++◌, length, take, map, refl, sym, ap, subst, ◌∙◌, arith, append_assoc, append-nil, length-append, Option, Some, None, IfSome}
use Rattle.std.specs.List.{AllByRecursion}
use Rattle.std.proofs.Math.Seq.{take-append_seam, take-append-add}
use Rattle.std.proofs.lemmas.Grind.{flat_map-append}
use Rattle.httparse.specs.Grammar.{ResponseHead, print_response, status_code}
use Rattle.httparse.proofs.GrammarLemmas.{response_unique}
use Rattle.hr_base.specs.Bytes.{ByteList}
use Rattle.hr_body.specs.declared.fault.WireFault.{WireFault}
use Rattle.hr_body.specs.declared.fault.WireFault.TheVariants.{Failed, Malformed, Ended, TooLong, Memory}
use Rattle.hr_body.specs.Reading.{WhereTold, in_word}
use Rattle.hr_frame.specs.declared.framing.Framing.{Framing}
use Rattle.hr_frame.specs.Framing.{reply_framing}
use Rattle.hr_head.specs.declared.reply.ReplyHead.{ReplyHead}
use Rattle.hr_head.specs.Reply.{IsReplyHead, ReadsReply, ReplyFault}
use Rattle.hr_http1.specs.declared.passing.TheConstants.{INTERIM_LIMIT}
use Rattle.hr_http1.specs.Body.{BodyFault, BodyFacts}
use Rattle.hr_http1.specs.Message.{line_of, Frames}
use Rattle.hr_http1.specs.Reply.{is_interim, IsWithin, IsInterim, ReplyHeads, print_passed, print_heads, reply_form, PassesOver, reply_kind, ReplyLost, HasPassed, HasHeads, HasFramed, fault_behind, IsLostBehind}
use Rattle.hr_http1.proofs.MessageLemmas.{FramesNone, HeadsAreOne, PassesNone, frames_none, lines_are, unframed, body_lost}

true_false : true ≡ false → ⊥
true_false e = cc

-- an interim head is no last one
interim_last : (x h : ResponseHead) → x ≡ h → IsInterim x → is_interim (status_code h) ≡ false → ⊥
interim_last x h same interim last = true_false (sym interim.status ∙ ap (λ k. is_interim (status_code k)) same ∙ last)

-- two heads at the front of the same bytes are one
one_head : (h k : ResponseHead) (r s : ByteList) → IsWithin h → IsWithin k → print_response h ++ r ≡ print_response k ++ s → (h ≡ k) × (r ≡ s)
one_head h k r s a b e = response_unique (print_response h ++ r) h k r s (a.valid, refl) (b.valid, e)

passed_cons : (x : ResponseHead) (xs : List ResponseHead) (rest : ByteList) → print_passed (x ∷ xs) ++ rest ≡ print_response x ++ (print_passed xs ++ rest)
passed_cons x xs rest = append_assoc (print_response x) (print_passed xs) rest

-- the heads behind those that were passed over
record Behind (p q : List ResponseHead) (h : ResponseHead) (start rest : ByteList) : Type 0 where
  pub more : List ResponseHead
  pub are : q ≡ p ++ more
  pub interim : AllByRecursion IsInterim more
  pub cut : start ≡ print_passed more ++ (print_response h ++ rest)

-- the heads that were passed over are the first of a message
behind : (p q : List ResponseHead) (h : ResponseHead) (start rest : ByteList) → AllByRecursion IsInterim p → AllByRecursion IsInterim q → IsWithin h → is_interim (status_code h) ≡ false
    → print_passed p ++ start ≡ print_passed q ++ (print_response h ++ rest) → Behind p q h start rest
behind [] q h start rest ps qs within last e = record { more = q; are = refl; interim = qs; cut = e }
behind (x ∷ p) [] h start rest ps qs within last e =
    let same = one_head x h (print_passed p ++ start) rest ps.0.within within (sym (passed_cons x p start) ∙ e) in
    absurd (interim_last x h same.0 ps.0 last)
behind (x ∷ p) (y ∷ q) h start rest ps qs within last e =
    let same = one_head x y (print_passed p ++ start) (print_passed q ++ (print_response h ++ rest)) ps.0.within qs.0.within
    (sym (passed_cons x p start) ∙ e ∙ passed_cons y q (print_response h ++ rest)) in
    let later = behind p q h start rest ps.1 qs.1 within last same.1 in
    record { more = later.more; are = (λ i. sym same.0 i ∷ later.are i); interim = later.interim; cut = later.cut }

-- the first head of some bytes
record Starts (bytes : ByteList) : Type 0 where
  pub head : ResponseHead
  pub rest : ByteList
  pub within : IsWithin head
  pub cut : bytes ≡ print_response head ++ rest

starts : (more : List ResponseHead) (h : ResponseHead) (start rest : ByteList) → AllByRecursion IsInterim more → IsWithin h → start ≡ print_passed more ++ (print_response h ++ rest) → Starts start
starts [] h start rest interim within e = record { head = h; rest = rest; within = within; cut = e }
starts (x ∷ more) h start rest interim within e =
    record { head = x; rest = print_passed more ++ (print_response h ++ rest); within = interim.0.within; cut = e ∙ passed_cons x more (print_response h ++ rest) }

heads_cut : (heads : ReplyHeads) (rest : ByteList) → print_heads heads ++ rest ≡ print_passed heads.passed ++ (print_response heads.head ++ rest)
heads_cut heads rest = append_assoc (print_passed heads.passed) (print_response heads.head) rest

-- the heads of a message behind those that were passed over
held_behind : (head_only : Bool) (passed : List ResponseHead) (start after : ByteList) (heads : ReplyHeads) (form : Framing) → AllByRecursion IsInterim passed
    → Frames (reply_kind head_only) (print_passed passed ++ start) heads form after → Behind passed heads.passed heads.head start after
held_behind head_only passed start after heads form all f =
    let ok = f.ok in
    behind passed heads.passed heads.head start after all ok.interim ok.within ok.last (f.cut ∙ heads_cut heads after)

held_start : (head_only : Bool) (passed : List ResponseHead) (start after : ByteList) (heads : ReplyHeads) (form : Framing) → AllByRecursion IsInterim passed
    → Frames (reply_kind head_only) (print_passed passed ++ start) heads form after → Starts start
held_start head_only passed start after heads form all f =
    let b = held_behind head_only passed start after heads form all f in
    starts b.more heads.head start after b.interim f.ok.within b.cut

heads_same : (a b : ReplyHeads) → a.passed ≡ b.passed → a.head ≡ b.head → a ≡ b
heads_same a b p h = λ i. record { passed = p i; head = h i }

-- the last head behind those that were passed over is the last of all
last_of : (more : List ResponseHead) (h k : ResponseHead) (r s : ByteList) → AllByRecursion IsInterim more → IsWithin h → is_interim (status_code h) ≡ false → IsWithin k
    → print_response h ++ r ≡ print_passed more ++ (print_response k ++ s) → (more ≡ []) × (h ≡ k) × (r ≡ s)
last_of [] h k r s all within last other e = let same = one_head h k r s within other e in (refl, same.0, same.1)
last_of (x ∷ more) h k r s all within last other e =
    let same = one_head h x r (print_passed more ++ (print_response k ++ s)) within all.0.within (e ∙ passed_cons x more (print_response k ++ s)) in
    absurd (interim_last x h (sym same.0) all.0 last)

-- bytes begin with at most one run of heads
pub replies_are_one : (head_only : Bool) → HeadsAreOne (reply_kind head_only)
replies_are_one head_only h k r s a b e =
    let cut = sym (heads_cut h r) ∙ e ∙ heads_cut k s in
    let c = behind h.passed k.passed k.head (print_response h.head ++ r) s a.interim b.interim b.within b.last cut in
    let same = last_of c.more h.head k.head r s c.interim a.within a.last b.within c.cut in
    (heads_same h k (sym (c.are ∙ ap (λ l. h.passed ++ l) same.0 ∙ append-nil h.passed)) same.1, same.2)

-- a list no longer than the front of another is at the front of that
pub front_of : (p front more rest : ByteList) → front ++ more ≡ p ++ rest → length p ≤ length front → (r : ByteList) × (front ≡ p ++ r)
front_of [] front more rest e le = (front, refl)
front_of (x ∷ p) [] more rest e le = absurd (omega (arith, le))
front_of (x ∷ p) (y ∷ front) more rest e le =
    let same : y ≡ x = cc in
    let tail : front ++ more ≡ p ++ rest = cc in
    let r = front_of p front more rest tail (omega (arith, le)) in
    (r.0, ap (λ l. y ∷ l) r.1 ∙ ap (λ z. z ∷ (p ++ r.0)) same)

starts_reads : (start : ByteList) (s : Starts start) → ReadsReply start s.head s.rest
starts_reads start s = record { reads = (s.within.valid, s.cut); few = s.within.few; short = s.within.short }

-- bytes whose head passes its limit begin no message
pub long_replies : (head_only : Bool) → PassesNone (reply_kind head_only)
long_replies head_only bytes passes more heads body rest holds =
    let cut : bytes ++ more ≡ print_passed passes.over.passed ++ (passes.start ++ more) =
    ap (λ l. l ++ more) passes.over.cut ∙ append_assoc (print_passed passes.over.passed) passes.start more in
    let s = held_start head_only passes.over.passed (passes.start ++ more) holds.after heads holds.form passes.over.interim
    (subst (λ l. Frames (reply_kind head_only) l heads holds.form holds.after) cut holds.frames) in
    let fits : length (print_response s.head) ≤ length passes.start = omega (arith, s.within.short, passes.long) in
    let r = front_of (print_response s.head) passes.start more s.rest s.cut fits in
    passes.none s.head r.0 (record { reads = (s.within.valid, r.1); few = s.within.few; short = s.within.short })

pub some_many : {n m : ℕ} → n < m → m ≤ n → ⊥
some_many lt le = omega (arith, lt, le)

-- a fault of a head behind interim replies is one of the message
head_lost : (head_only : Bool) (limit count at : ℕ) (bytes start : ByteList) (first : WireFault) → count ≤ INTERIM_LIMIT → HasPassed count at bytes start → ReplyFault start first
    → ReplyLost head_only limit bytes (fault_behind at first)
head_lost head_only limit count at bytes start Failed few p fault = tt
head_lost head_only limit count at bytes start Memory few p fault = tt
head_lost head_only limit count at bytes start (Malformed place) few p fault =
    let front : take (at + place) bytes ≡ print_passed p.passed ++ take place start =
    ap (λ n. take (n + place) bytes) p.len ∙ ap (λ l. take (length (print_passed p.passed) + place) l) p.cut ∙ take-append-add (print_passed p.passed) start place in
    let none : FramesNone (reply_kind head_only) (take (at + place) bytes) = λ more heads form after f.
    let cut : take (at + place) bytes ++ more ≡ print_passed p.passed ++ (take place start ++ more) = ap (λ l. l ++ more) front ∙ append_assoc (print_passed p.passed) (take place start) more in
    let s = held_start head_only p.passed (take place start ++ more) after heads form p.interim (subst (λ l. Frames (reply_kind head_only) l heads form after) cut f) in
    some_many (fault.1 more s.head s.rest (s.within.valid, s.cut)) s.within.few in
    let both = frames_none (reply_kind head_only) limit (take (at + place) bytes) none in
    (at + place, refl, both.0, both.1)
head_lost head_only limit count at bytes start (Ended place) few p fault =
    let all : length bytes ≡ at + length start = ap length p.cut ∙ length-append (print_passed p.passed) start ∙ ap (λ n. n + length start) (sym p.len) in
    let over : PassesOver bytes start = record { passed = p.passed; few = subst (λ n. n ≤ INTERIM_LIMIT) (sym p.many) few; interim = p.interim; cut = p.cut } in (
      ap (λ n. in_word (at + n)) fault.0 ∙ ap in_word (sym all),
      (λ heads body rest holds.
          let s = held_start head_only p.passed start holds.after heads holds.form p.interim (subst (λ l. Frames (reply_kind head_only) l heads holds.form holds.after) p.cut holds.frames) in
          fault.2 s.head s.rest (starts_reads start s)),
      inl (record { start = start; over = over; may = fault.3 }),
    )
head_lost head_only limit count at bytes start (TooLong len) few p fault =
    let over : PassesOver bytes start = record { passed = p.passed; few = subst (λ n. n ≤ INTERIM_LIMIT) (sym p.many) few; interim = p.interim; cut = p.cut } in
    inl (fault.0, record { start = start; over = over; long = fault.1; none = fault.2; may = fault.3 })

-- the same, where the device tells
pub heads_lost : (head_only : Bool) (limit count at : ℕ) (old mid : Option ByteList) (why : WireFault) → count ≤ INTERIM_LIMIT → WhereTold old mid (HasPassed count at)
    → IfSome mid (λ bytes. IsLostBehind at bytes why) → IfSome old (λ bytes. ReplyLost head_only limit bytes why)
heads_lost head_only limit count at None mid why few p lost = tt
heads_lost head_only limit count at (Some old) None why few p lost = absurd p
heads_lost head_only limit count at (Some old) (Some mid) why few p lost =
    subst (ReplyLost head_only limit old) (sym lost.is) (head_lost head_only limit count at old mid lost.first few p lost.lost)

within : (h : ResponseHead) (bytes rest : ByteList) → ReadsReply bytes h rest → IsWithin h
within h bytes rest r = record { valid = r.reads.0; few = r.few; short = r.short }

all_then : (passed : List ResponseHead) (h : ResponseHead) → AllByRecursion IsInterim passed → IsInterim h → AllByRecursion IsInterim (passed ++ h ∷ [])
all_then [] h all one = (one, tt)
all_then (x ∷ passed) h all one = (all.0, all_then passed h all.1 one)

print_then : (passed : List ResponseHead) (h : ResponseHead) → print_passed (passed ++ h ∷ []) ≡ print_passed passed ++ print_response h
print_then passed h = flat_map-append print_response passed (h ∷ []) ∙ ap (λ l. print_passed passed ++ l) (append-nil (print_response h))

-- one interim reply more
pub passed_then : (count at : ℕ) (old mid new : Option ByteList) (head : ReplyHead) → WhereTold old mid (HasPassed count at) → WhereTold mid new (λ bytes rest. IsReplyHead bytes head rest)
    → is_interim head.status ≡ true → WhereTold old new (HasPassed (count + 1) (at + head.len))
passed_then count at None None None head p read interim = tt
passed_then count at None None (Some new) head p read interim = read
passed_then count at None (Some mid) new head p read interim = absurd p
passed_then count at (Some old) None new head p read interim = absurd p
passed_then count at (Some old) (Some mid) None head p read interim = read
passed_then count at (Some old) (Some mid) (Some new) head p (h, reads, says) interim =
    let one : IsInterim h = record { within = within h mid new reads; status = ap is_interim (sym says.status) ∙ interim } in
    record {
      passed = p.passed ++ h ∷ [];
      many = length-append p.passed (h ∷ []) ∙ ap (λ n. n + 1) p.many;
      interim = all_then p.passed h p.interim one;
      cut = p.cut ∙ ap (λ l. print_passed p.passed ++ l) reads.reads.1 ∙ sym (append_assoc (print_passed p.passed) (print_response h) new) ∙ ap (λ l. l ++ new) (sym (print_then p.passed h));
      len = (λ i. p.len i + says.len i) ∙ sym (length-append (print_passed p.passed) (print_response h)) ∙ ap length (sym (print_then p.passed h));
    }

-- the last head
pub heads_found : (count at : ℕ) (old mid new : Option ByteList) (head : ReplyHead) → count ≤ INTERIM_LIMIT → WhereTold old mid (HasPassed count at)
    → WhereTold mid new (λ bytes rest. IsReplyHead bytes head rest) → is_interim head.status ≡ false → WhereTold old new (λ bytes rest. HasHeads bytes head (at + head.len) rest)
heads_found count at None None None head few p read last = tt
heads_found count at None None (Some new) head few p read last = read
heads_found count at None (Some mid) new head few p read last = absurd p
heads_found count at (Some old) None new head few p read last = absurd p
heads_found count at (Some old) (Some mid) None head few p read last = read
heads_found count at (Some old) (Some mid) (Some new) head few p (h, reads, says) last =
    record {
      heads = record { passed = p.passed; head = h };
      ok = record { few = subst (λ n. n ≤ INTERIM_LIMIT) (sym p.many) few; interim = p.interim; within = within h mid new reads; last = ap is_interim (sym says.status) ∙ last };
      cut = p.cut ∙ ap (λ l. print_passed p.passed ++ l) reads.reads.1 ∙ sym (append_assoc (print_passed p.passed) (print_response h) new);
      len = (λ i. p.len i + says.len i) ∙ sym (length-append (print_passed p.passed) (print_response h));
      status = says.status;
      lines = lines_are head.heads h.fields says.heads;
    }

-- a ninth interim reply begins no message
pub ninth_lost : (head_only : Bool) (limit count at : ℕ) (old mid : Option ByteList) → INTERIM_LIMIT < count → at ≡ in_word at → WhereTold old mid (HasPassed count at)
    → IfSome old (λ bytes. ReplyLost head_only limit bytes (Malformed at))
ninth_lost head_only limit count at None mid many small p = tt
ninth_lost head_only limit count at (Some old) None many small p = absurd p
ninth_lost head_only limit count at (Some old) (Some mid) many small p =
    let front : take at old ≡ print_passed p.passed = ap (λ n. take n old) p.len ∙ ap (λ l. take (length (print_passed p.passed)) l) p.cut ∙ take-append_seam (print_passed p.passed) mid in
    let none : FramesNone (reply_kind head_only) (take at old) = λ more heads form after f.
    let b = held_behind head_only p.passed more after heads form p.interim (subst (λ l. Frames (reply_kind head_only) l heads form after) (ap (λ l. l ++ more) front) f) in
    let all : length heads.passed ≡ length p.passed + length b.more = ap length b.are ∙ length-append p.passed b.more in
    let few = f.ok.few in
    omega (arith, all, few, many, p.many) in
    let both = frames_none (reply_kind head_only) limit (take at old) none in
    (at, small, both.0, both.1)

form_is : (head_only : Bool) (head : ReplyHead) (heads : ReplyHeads) → head.status ≡ status_code heads.head → head.heads ≡ map line_of heads.head.fields
    → reply_framing head_only head.status head.heads ≡ reply_form head_only heads
form_is head_only head heads status lines = λ i. reply_framing head_only (status i) (lines i)

-- a last head that says no framing begins no message
pub unframed_lost : (head_only : Bool) (limit at : ℕ) (old new : Option ByteList) (head : ReplyHead) → at ≡ in_word at → WhereTold old new (λ bytes rest. HasHeads bytes head at rest)
    → reply_framing head_only head.status head.heads ≡ None → IfSome old (λ bytes. ReplyLost head_only limit bytes (Malformed at))
unframed_lost head_only limit at None new head small h none = tt
unframed_lost head_only limit at (Some old) None head small h none = absurd h
unframed_lost head_only limit at (Some old) (Some new) head small h none =
    let never = unframed (reply_kind head_only) (replies_are_one head_only) old new h.heads h.ok h.cut (sym (form_is head_only head h.heads h.status h.lines) ∙ none) in
    let both = frames_none (reply_kind head_only) limit (take at old) (subst (λ n. FramesNone (reply_kind head_only) (take n old)) (sym h.len) never) in
    (at, small, both.0, both.1)

-- why no body is read behind the heads
pub reply_body_lost : (facts : BodyFacts) (head_only : Bool) (at limit : ℕ) (old mid : Option ByteList) (head : ReplyHead) (form : Framing) (why : WireFault)
    → WhereTold old mid (λ bytes rest. HasFramed head_only bytes head form at rest) → IfSome mid (λ bytes. BodyFault form at limit bytes why)
    → IfSome old (λ bytes. ReplyLost head_only limit bytes why)
reply_body_lost facts head_only at limit None mid head form why f fault = tt
reply_body_lost facts head_only at limit (Some old) None head form why f fault = absurd f
reply_body_lost facts head_only at limit (Some old) (Some mid) head form why f fault =
    body_lost (reply_kind head_only) (replies_are_one head_only) facts old mid f.heads form at limit why f.frames f.len fault
