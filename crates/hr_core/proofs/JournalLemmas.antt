-- What a journal answers, entry by entry.
use Rattle.std.proofs.Common.{◌≡◌, refl, ap, sym, ◌∙◌, suc, ℕ, ◌+◌, ◌-◌, ◌<◌, Bool, true, false, List, [], ◌∷◌, length, reverse, drop, get_or, arith}
use Rattle.std.proofs.lemmas.List.{get_or-reverse, length-reverse}
use Rattle.std.proofs.Math.Seq.{drop-cons}
use Rattle.std.specs.Prelude.{◌≢◌, if◌then◌else◌, nat_eq, Option, Some, None, IsSome, Result, Ok, Err, IfOk}
use Rattle.hr_base.specs.declared.memory.Memory.{Memory}
use Rattle.hr_base.specs.declared.number.JobNo.{JobNo}
use Rattle.hr_digest.specs.declared.digest.Digest.{Digest}
use Rattle.hr_event.specs.declared.cause.Cause.{Cause}
use Rattle.hr_event.specs.declared.entry.Entry.{Entry}
use Rattle.hr_event.specs.declared.entry.What.{What}
use Rattle.hr_event.specs.declared.entry.What.TheVariants as what
use Rattle.hr_promise.specs.Answer.{cause_in, cause_said, last_done, told_by, with_rev}

-- ---- what the last step did

-- an entry that says no put of a blob tells itself
other_tells : (w : What) (older : List Entry) → ((d : Digest) (sure : Bool) → w ≢ what.PutBlob d sure)
    → told_by w older ≡ Some w
other_tells what.Began older other = refl
other_tells (what.ReadTag tag media bytes) older other = refl
other_tells (what.Looked tag found) older other = refl
other_tells (what.ReadChild digest media bytes) older other = refl
other_tells (what.HasBlob digest len) older other = refl
other_tells (what.GotBlob digest len) older other = refl
other_tells (what.PutBlob digest sure) older other = absurd (other digest sure refl)
other_tells (what.PutChild digest sure) older other = refl
other_tells (what.Show tag digest old how) older other = refl
other_tells (what.Ended status cause) older other = refl
other_tells what.Dropped older other = refl

newest_other : (r : List Entry) (e : Entry) → IsSome (last_done r)
    → ((d : Digest) (sure : Bool) → (get_or r 0 e).what ≢ what.PutBlob d sure) → last_done r ≡ Some (get_or r 0 e).what
newest_other [] e some other = cc
newest_other (x ∷ older) e some other = other_tells x.what older other

newest_put : (r : List Entry) (e second : Entry) (d : Digest) (sure : Bool) → IsSome (last_done r)
    → (get_or r 0 e).what ≡ what.PutBlob d sure → last_done r ≡ Some (get_or r 1 second).what
newest_put [] e second d sure some is = cc
newest_put (x ∷ []) e second d sure some is =
    let none : told_by x.what [] ≡ None = ap (λ (w : What). told_by w []) is in
    absurd (none_some (told_by x.what []) none some)
  where
    none_some : (o : Option What) → o ≡ None → IsSome o → ⊥
    none_some None e there = cc
    none_some (Some w) e there = cc
newest_put (x ∷ y ∷ older) e second d sure some is = ap (λ (w : What). told_by w (y ∷ older)) is

tells_as : (r : Result What Memory) (o : Option What) (w : What) → o ≡ Some w → IfOk r (λ made. made ≡ w)
    → IfOk r (λ made. o ≡ Some made)
tells_as (Ok made) o w is same = is ∙ ap Some (sym same)
tells_as (Err why) o w is same = tt

at_end : (log : List Entry) (e : Entry) → IsSome (last_done (reverse log))
    → get_or (reverse log) 0 e ≡ get_or log (length log - 1) e
at_end [] e some = cc
at_end (x ∷ more) e some =
    get_or-reverse (x ∷ more) 0 e (omega arith)
    ∙ ap (λ (n : ℕ). get_or (x ∷ more) n e)
    (let same : length (x ∷ more) - 1 - 0 ≡ length (x ∷ more) - 1 = omega arith in same)

-- the newest entry of a journal tells the step
pub last_tells : (log : List Entry) (e : Entry) (r : Result What Memory) → IsSome (last_done (reverse log))
    → ((d : Digest) (sure : Bool) → (get_or log (length log - 1) e).what ≢ what.PutBlob d sure)
    → IfOk r (λ made. made ≡ (get_or log (length log - 1) e).what)
    → IfOk r (λ made. last_done (reverse log) ≡ Some made)
last_tells log e r some other copied =
    tells_as r (last_done (reverse log)) (get_or log (length log - 1) e).what
    (newest_other (reverse log) e some
    (λ d sure is. other d sure (ap (λ (x : Entry). x.what) (sym (at_end log e some)) ∙ is))
    ∙ ap (λ (x : Entry). Some x.what) (at_end log e some)) copied

two_there : (r : List Entry) (e : Entry) (d : Digest) (sure : Bool) → IsSome (last_done r)
    → (get_or r 0 e).what ≡ what.PutBlob d sure → 1 < length r
two_there [] e d sure some is = cc
two_there (x ∷ []) e d sure some is =
    let none : told_by x.what [] ≡ None = ap (λ (w : What). told_by w []) is in
    absurd (none_some (told_by x.what []) none some)
  where
    none_some : (o : Option What) → o ≡ None → IsSome o → ⊥
    none_some None e there = cc
    none_some (Some w) e there = cc
two_there (x ∷ y ∷ older) e d sure some is = omega arith

-- the entry before a put of a blob tells the step
pub read_tells : (log : List Entry) (e second : Entry) (d : Digest) (sure : Bool) (r : Result What Memory)
    → IsSome (last_done (reverse log)) → (get_or log (length log - 1) e).what ≡ what.PutBlob d sure
    → IfOk r (λ made. made ≡ (get_or log (length log - 1 - 1) second).what)
    → IfOk r (λ made. last_done (reverse log) ≡ Some made)
read_tells log e second d sure r some is copied =
    let newest : (get_or (reverse log) 0 e).what ≡ what.PutBlob d sure = ap (λ (x : Entry). x.what) (at_end log e some) ∙ is in
    let within : 1 < length log = omega (arith, two_there (reverse log) e d sure some newest, length-reverse log) in
    tells_as r (last_done (reverse log)) (get_or log (length log - 1 - 1) second).what
    (newest_put (reverse log) e second d sure some newest
    ∙ ap (λ (x : Entry). Some x.what) (get_or-reverse log 1 second within)) copied

-- ---- causes

-- one entry more was looked at, so many behind the newest
cause_next : (log : List Entry) (back job : ℕ) (e : Entry) → back < length log
    → e ≡ get_or log (length log - 1 - back) e
    → cause_in (drop back (reverse log)) job ≡ cause_in (e ∷ drop (suc back) (reverse log)) job
cause_next log back job e within is =
    let e2 : e ≡ get_or (reverse log) back e = is ∙ sym (get_or-reverse log back e within) in
    let w : back < length (reverse log) = omega (arith, within, length-reverse log) in
    ap (λ l. cause_in l job) (drop-cons (reverse log) back e w)
    ∙ ap (λ x. cause_in (x ∷ drop (suc back) (reverse log)) job) (sym e2)

chosen : {X : Type 0} (b : Bool) (x y : X) → b ≡ true → (if b then x else y) ≡ x
chosen true x y is = refl
chosen false x y is = cc

left : {X : Type 0} (b : Bool) (x y : X) → b ≡ false → (if b then x else y) ≡ y
left true x y is = cc
left false x y is = refl

-- an entry of another job is passed
pub other_passed : (log : List Entry) (back : ℕ) (job : JobNo) (e : Entry) → back < length log
    → e ≡ get_or log (length log - 1 - back) e → nat_eq e.job.0 job.0 ≡ false
    → cause_in (reverse log) job.0 ≡ cause_in (drop back (reverse log)) job.0
    → cause_in (reverse log) job.0 ≡ cause_in (drop (back + 1) (reverse log)) job.0
other_passed log back job e within is other so =
    so ∙ cause_next log back job.0 e within is
    ∙ left (nat_eq e.job.0 job.0) (with_rev e.rev (cause_said e.what) (cause_in (drop (suc back) (reverse log)) job.0))
    (cause_in (drop (suc back) (reverse log)) job.0) other
    ∙ ap (λ (n : ℕ). cause_in (drop n (reverse log)) job.0) (let s : suc back ≡ back + 1 = omega arith in s)

-- an entry of the job that says no cause is passed
pub none_passed : (log : List Entry) (back : ℕ) (job : JobNo) (e : Entry) → back < length log
    → e ≡ get_or log (length log - 1 - back) e → nat_eq e.job.0 job.0 ≡ true → cause_said e.what ≡ None
    → cause_in (reverse log) job.0 ≡ cause_in (drop back (reverse log)) job.0
    → cause_in (reverse log) job.0 ≡ cause_in (drop (back + 1) (reverse log)) job.0
none_passed log back job e within is same none so =
    so ∙ cause_next log back job.0 e within is
    ∙ chosen (nat_eq e.job.0 job.0) (with_rev e.rev (cause_said e.what) (cause_in (drop (suc back) (reverse log)) job.0))
    (cause_in (drop (suc back) (reverse log)) job.0) same
    ∙ ap (λ (o : Option Cause). with_rev e.rev o (cause_in (drop (suc back) (reverse log)) job.0)) none
    ∙ ap (λ (n : ℕ). cause_in (drop n (reverse log)) job.0) (let s : suc back ≡ back + 1 = omega arith in s)

-- a revision and its cause
abbrev pub with_cause : ℕ → Cause → ℕ × Cause
with_cause rev why = (rev, why)

-- the cause is found
pub cause_found : (log : List Entry) (back : ℕ) (job : JobNo) (e : Entry) (why : Cause) → back < length log
    → e ≡ get_or log (length log - 1 - back) e → nat_eq e.job.0 job.0 ≡ true → cause_said e.what ≡ Some why
    → cause_in (reverse log) job.0 ≡ cause_in (drop back (reverse log)) job.0
    → Some (with_cause e.rev why) ≡ cause_in (reverse log) job.0
cause_found log back job e why within is same some so =
    sym (so ∙ cause_next log back job.0 e within is
    ∙ chosen (nat_eq e.job.0 job.0) (with_rev e.rev (cause_said e.what) (cause_in (drop (suc back) (reverse log)) job.0))
    (cause_in (drop (suc back) (reverse log)) job.0) same
    ∙ ap (λ (o : Option Cause). with_rev e.rev o (cause_in (drop (suc back) (reverse log)) job.0)) some)
