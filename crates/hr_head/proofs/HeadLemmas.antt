-- Lemmas on bytes that come one by one, and the heads that they hold, of any grammar whose heads end
-- in an empty line.
use Rattle.std.proofs.Common.{◌≡◌, ◌≢◌, ℕ, ◌+◌, ◌<◌, ◌≤◌, ◌⊎◌, inl, inr, [], ◌∷◌, ◌++◌, length, take, drop, refl, sym, ap, subst, ◌∙◌, arith, append_assoc, length-append, Option, Some, None, IfSome}
use Rattle.std.proofs.Math.Seq.{take-append_seam}
use Rattle.std.proofs.lemmas.List.{take-append-drop, take-take}
use Rattle.hr_base.specs.Bytes.{ByteList}
use Rattle.hr_body.specs.declared.fault.WireFault.{WireFault}
use Rattle.hr_body.specs.declared.fault.WireFault.TheVariants.{Failed, Malformed, Ended, TooLong, Memory}
use Rattle.hr_cause.specs.Stream.{Gave}
use Rattle.hr_cause.proofs.StreamLaws.{gave_more}
use Rattle.hr_head.specs.declared.ending.Ending.{Ending}
use Rattle.hr_head.specs.declared.ending.Ending.TheVariants.{Lead, Within, Feed, Return, Empty}
use Rattle.hr_head.specs.declared.field.TheConstants.{HEAD_LIMIT}
use Rattle.hr_head.specs.Ending.{ending_after, ending_of}
use Rattle.hr_head.specs.Fault.{HeadFault, RefusedSoFar}
use Rattle.hr_head.proofs.EndingLemmas.{ending_on}

-- no head of the grammar is at the front of the bytes
abbrev pub HoldsNone : {H : Type 0} → (H → Type 0) → (H → ByteList) → ByteList → Type 0
HoldsNone {H} valid print bytes = (h : H) (rest : ByteList) → ¬ (valid h × (bytes ≡ print h ++ rest))

cons_nil : (x : ℕ) (xs : ByteList) → [] ≡ x ∷ xs → ⊥
cons_nil x xs e = cc

-- a list with a last byte, taken apart
pub split_end : (buf p rest : ByteList) (b : ℕ) → buf ++ b ∷ [] ≡ p ++ rest → ((rest ≡ []) × (p ≡ buf ++ b ∷ [])) ⊎ ((r : ByteList) × (buf ≡ p ++ r))
split_end buf [] rest b e = inr (buf, refl)
split_end [] (x ∷ []) [] b e = inl (refl, sym e)
split_end [] (x ∷ []) (y ∷ rest) b e = let tail : [] ≡ y ∷ rest = cc in absurd (cons_nil y rest tail)
split_end [] (x ∷ z ∷ p) rest b e = let tail : [] ≡ z ∷ (p ++ rest) = cc in absurd (cons_nil z (p ++ rest) tail)
split_end (y ∷ buf) (x ∷ p) rest b e =
    let same : y ≡ x = cc in
    let tail : buf ++ b ∷ [] ≡ p ++ rest = cc in
    elim (split_end buf p rest b tail) [
      | inl whole ↦ inl (whole.0, ap (λ l. x ∷ l) whole.1 ∙ ap (λ z. z ∷ (buf ++ b ∷ [])) (sym same))
      | inr r ↦ inr (r.0, ap (λ l. y ∷ l) r.1 ∙ ap (λ z. z ∷ (p ++ r.0)) same)
    ]

-- a list no longer than the front of another is at the front of that
pub prefix_of : (p front more rest : ByteList) → front ++ more ≡ p ++ rest → length p ≤ length front → (r : ByteList) × (front ≡ p ++ r)
prefix_of [] front more rest e le = (front, refl)
prefix_of (x ∷ p) [] more rest e le = absurd (omega (arith, le))
prefix_of (x ∷ p) (y ∷ front) more rest e le =
    let same : y ≡ x = cc in
    let tail : front ++ more ≡ p ++ rest = cc in
    let r = prefix_of p front more rest tail (omega (arith, le)) in
    (r.0, ap (λ l. y ∷ l) r.1 ∙ ap (λ z. z ∷ (p ++ r.0)) same)

nil_front : (a b : ByteList) → [] ≡ a ++ b → a ≡ []
nil_front [] b e = refl
nil_front (x ∷ a) b e = absurd (cons_nil x (a ++ b) e)

empty_or : (e : Ending) → (e ≡ Empty) ⊎ (e ≢ Empty)
empty_or Lead = inr (λ e. cc)
empty_or Within = inr (λ e. cc)
empty_or Feed = inr (λ e. cc)
empty_or Return = inr (λ e. cc)
empty_or Empty = inl refl

lead_empty : Lead ≡ Empty → ⊥
lead_empty e = cc

module _ {H : Type 0} (valid : H → Type 0) (print : H → ByteList) (ends : (h : H) → ending_of Lead (print h) ≡ Empty) where
  pub none_at_start : HoldsNone valid print []
  none_at_start h rest reads = lead_empty (ap (ending_of Lead) (sym (nil_front (print h) rest reads.1)) ∙ ends h)

  none_more : (buf : ByteList) (b : ℕ) → HoldsNone valid print buf → ending_of Lead (buf ++ b ∷ []) ≢ Empty → HoldsNone valid print (buf ++ b ∷ [])
  none_more buf b none other h rest reads =
      elim (split_end buf (print h) rest b reads.1) [
        | inl whole ↦ other (ap (ending_of Lead) (sym whole.1) ∙ ends h)
        | inr r ↦ none h r.0 (reads.0, r.1)
      ]

  -- one byte more, where a head was looked for if the bytes end in an empty line
  pub none_after : (buf all : ByteList) (b : ℕ) (e : Ending) → HoldsNone valid print buf → all ≡ buf ++ b ∷ [] → e ≡ ending_of Lead all → (e ≡ Empty → HoldsNone valid print all)
      → HoldsNone valid print all
  none_after buf all b e none is ending looked =
      elim (empty_or e) [
        | inl empty ↦ looked empty
        | inr other ↦ subst (HoldsNone valid print) (sym is) (none_more buf b none (λ f. other (ending ∙ ap (ending_of Lead) is ∙ f)))
      ]

  -- a head that the last byte ended is all the bytes
  pub whole_head : (buf all : ByteList) (b : ℕ) (h : H) (rest : ByteList) → HoldsNone valid print buf → all ≡ buf ++ b ∷ [] → valid h → all ≡ print h ++ rest → print h ≡ all
  whole_head buf all b h rest none is ok reads =
      elim (split_end buf (print h) rest b (sym is ∙ reads)) [
        | inl whole ↦ whole.1 ∙ sym is
        | inr r ↦ absurd (none h r.0 (ok, r.1))
      ]

  -- a head within the limit is at the front of the bytes within it
  pub none_within : (front more : ByteList) (h : H) (rest : ByteList) → HoldsNone valid print front → length front ≡ HEAD_LIMIT → valid h → front ++ more ≡ print h ++ rest
      → length (print h) ≤ HEAD_LIMIT → ⊥
  none_within front more h rest none full ok reads short =
      let fits : length (print h) ≤ length front = subst (λ n. length (print h) ≤ n) (sym full) short in
      let r = prefix_of (print h) front more rest reads fits in
      none h r.0 (ok, r.1)

-- the bytes up to the limit, taken apart at an earlier place
pub cut_before : (at : ℕ) (bytes more : ByteList) → at ≤ HEAD_LIMIT → take HEAD_LIMIT bytes ++ more ≡ take at bytes ++ (drop at (take HEAD_LIMIT bytes) ++ more)
cut_before at bytes more within =
    ap (λ l. l ++ more) (sym (take-append-drop at (take HEAD_LIMIT bytes))) ∙ append_assoc (take at (take HEAD_LIMIT bytes)) (drop at (take HEAD_LIMIT bytes)) more
    ∙ ap (λ l. l ++ (drop at (take HEAD_LIMIT bytes) ++ more)) (take-take at HEAD_LIMIT bytes within)

pub le_not : {m n : ℕ} → m < n → n ≤ m → ⊥
le_not less le = omega (arith, less, le)

pub one_more_fits : (buf all : ByteList) (b : ℕ) → all ≡ buf ++ b ∷ [] → length buf < HEAD_LIMIT → length all ≤ HEAD_LIMIT
one_more_fits buf all b is less =
    let len : length all ≡ length buf + 1 = ap length is ∙ length-append buf (b ∷ []) in
    omega (arith, len, less)

pub ending_kept : (buf all : ByteList) (b : ℕ) (e next : Ending) → all ≡ buf ++ b ∷ [] → e ≡ ending_of Lead buf → next ≡ ending_after e b → next ≡ ending_of Lead all
ending_kept buf all b e next is ending after =
    after ∙ ap (λ e. ending_after e b) ending ∙ sym (ending_on Lead buf (b ∷ [])) ∙ ap (ending_of Lead) (sym is)

pub told_on : (a b c : Option ByteList) (buf all : ByteList) (x : ℕ) → all ≡ buf ++ x ∷ [] → Gave a buf b → Gave b (x ∷ []) c → Gave a all c
told_on a b c buf all x is one other = subst (λ l. Gave a l c) (sym is) (gave_more a b c buf (x ∷ []) one other)

module _ (hold_none begin_none may_begin : ByteList → Type 0) where
  -- a fault of the device, or want of memory
  pub lost_byte : (old : Option ByteList) (why : WireFault) → (why ≡ Failed) ⊎ (why ≡ Memory) → IfSome old (λ bytes. HeadFault hold_none begin_none may_begin bytes why)
  lost_byte None why lost = tt
  lost_byte (Some bytes) why (inl failed) = subst (HeadFault hold_none begin_none may_begin bytes) (sym failed) tt
  lost_byte (Some bytes) why (inr memory) = subst (HeadFault hold_none begin_none may_begin bytes) (sym memory) tt

  -- what is refused so far is refused of all that was left
  pub refused_of_all : (old new : Option ByteList) (buf : ByteList) (why : WireFault) → Gave old buf new → length buf ≤ HEAD_LIMIT → RefusedSoFar begin_none buf why
      → IfSome old (λ bytes. HeadFault hold_none begin_none may_begin bytes why)
  refused_of_all None new buf why told short refused = tt
  refused_of_all (Some old) None buf why told short refused = absurd told
  refused_of_all (Some old) (Some new) buf Failed told short refused = absurd refused
  refused_of_all (Some old) (Some new) buf Memory told short refused = tt
  refused_of_all (Some old) (Some new) buf (Ended at) told short refused = absurd refused
  refused_of_all (Some old) (Some new) buf (TooLong len) told short refused = absurd refused
  refused_of_all (Some old) (Some new) buf (Malformed at) told short refused =
      let front : take at old ≡ buf = ap (λ n. take n old) refused.0 ∙ ap (λ l. take (length buf) l) told ∙ take-append_seam buf new in
      (subst (λ n. n ≤ HEAD_LIMIT) (sym refused.0) short, subst begin_none (sym front) refused.1)

  -- the limit has passed
  pub past_limit : (old new : Option ByteList) (buf : ByteList) (b len : ℕ) → Gave old (buf ++ b ∷ []) new → length buf ≡ HEAD_LIMIT → len ≡ HEAD_LIMIT + 1
      → ((more : ByteList) → hold_none (buf ++ more)) → may_begin buf → IfSome old (λ bytes. HeadFault hold_none begin_none may_begin bytes (TooLong len))
  past_limit None new buf b len told full is none may = tt
  past_limit (Some old) None buf b len told full is none may = absurd told
  past_limit (Some old) (Some new) buf b len told full is none may =
      let all : old ≡ buf ++ (b ∷ new) = told ∙ append_assoc buf (b ∷ []) new in
      let long : length old ≡ length buf + length (b ∷ new) = ap length all ∙ length-append buf (b ∷ new) in
      let front : take HEAD_LIMIT old ≡ buf = ap (λ n. take n old) (sym full) ∙ ap (λ l. take (length buf) l) all ∙ take-append_seam buf (b ∷ new) in
      (is, omega (arith, long, full), subst hold_none (sym all) (none (b ∷ new)), subst may_begin (sym front) may)

  -- where a head is there, only the device fails, or memory is wanting
  pub held_or_lost : (bytes : ByteList) (why : WireFault) → (hold_none bytes → ⊥) → ((at : ℕ) → begin_none (take at bytes) → ⊥)
      → HeadFault hold_none begin_none may_begin bytes why → (why ≡ Failed) ⊎ (why ≡ Memory)
  held_or_lost bytes Failed held begun fault = inl refl
  held_or_lost bytes Memory held begun fault = inr refl
  held_or_lost bytes (Malformed at) held begun fault = absurd (begun at fault.1)
  held_or_lost bytes (Ended at) held begun fault = absurd (held fault.2)
  held_or_lost bytes (TooLong len) held begun fault = absurd (held fault.2)

  -- where the bytes pass the limit, no front of them is refused, and no head is there, they are too long
  pub long_or_lost : (bytes : ByteList) (why : WireFault) → HEAD_LIMIT < length bytes → ((at : ℕ) → at ≤ HEAD_LIMIT → begin_none (take at bytes) → ⊥)
      → HeadFault hold_none begin_none may_begin bytes why → why ≢ Failed → why ≢ Memory → why ≡ TooLong (HEAD_LIMIT + 1)
  long_or_lost bytes Failed long begun fault other wanting = absurd (other refl)
  long_or_lost bytes Memory long begun fault other wanting = absurd (wanting refl)
  long_or_lost bytes (Malformed at) long begun fault other wanting = absurd (begun at fault.0 fault.1)
  long_or_lost bytes (Ended at) long begun fault other wanting = absurd (le_not long fault.1)
  long_or_lost bytes (TooLong len) long begun fault other wanting = ap (λ n. TooLong n) fault.0
