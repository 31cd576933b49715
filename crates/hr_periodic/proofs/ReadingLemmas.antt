-- Numbers that are marked, and what is left of a text.
use Rattle.std.proofs.Common.{◌≡◌, ◌≢◌, ℕ, ◌+◌, ◌*◌, ◌%◌, ◌^◌, ◌<◌, ◌≤◌, Bool, true, false, eqb, ◌&&◌, ◌||◌, List, [], ◌∷◌, Option, Some, None, refl, sym, ap, ◌∙◌, arith, inl, inr, w64, bit_or, Bor, is_some, option_copied, Result, Err, IfOk, IfErr, IsOk, ◌↔◌}
use Rattle.std.specs.Prelude.{nat_le}
use Rattle.std.specs.Int.{bit_at}
use Rattle.std.proofs.lemmas.Bool.{cases_eq, cases_lt, lt-leb, or_right, false≢true}
use Rattle.std.proofs.lemmas.Bool.Decides.{nat_tests}
use Rattle.std.proofs.lemmas.Nat.Bits.{bit_at_set_same, bit_at_set_other, bit_at-zero, bit_at-lt, same_from_bits}
use Rattle.hr_base.specs.Bytes.{Text}
use Rattle.hr_text.specs.Cutting.{pieces_left}
use Rattle.hr_text.proofs.CutLaws.{pieces_at_cut}
use Rattle.hr_periodic.specs.Field.{holds}
use Rattle.hr_periodic.specs.declared.field.Field.{Field}
use Rattle.hr_periodic.specs.declared.reading.Limits.{Limits}
use Rattle.hr_periodic.specs.declared.reading.Stretch.{Stretch}
use Rattle.hr_periodic.specs.declared.cron.Cron.{Cron}
use Rattle.hr_periodic.specs.declared.cron.CronRefused.{CronRefused}
use Rattle.hr_periodic.specs.declared.cron.CronRefused.TheVariants.{Field as BadField}
use Rattle.hr_periodic.specs.Item.{in_stretch}
use Rattle.hr_periodic.specs.Reading.{space, limits_of, first_fault, fault_of, HasFault, StandsFor, IsField, AreFields, fields_of, six}

-- a number that is marked is in the set, and any other is as before
pub holds-marked : (numbers k : ℕ) → k < 64 → holds (bit_or numbers (1 * 2 ^ k % 2 ^ 64)) k ≡ true
holds-marked numbers k within = rw (bit_at_set_same w64 numbers k within) refl

pub holds-other : (numbers k i : ℕ) → k < 64 → i ≢ k → holds (bit_or numbers (1 * 2 ^ k % 2 ^ 64)) i ≡ holds numbers i
holds-other numbers k i within other = ap (λ n. eqb n 1) (bit_at_set_other w64 numbers k within i other)

or_off : (x y : Bool) → y ≡ false → (x || y) ≡ x
or_off true y e = refl
or_off false y e = e

some_not_none : {n : ℕ} → Some n ≡ None → ⊥
some_not_none e = cc

-- the numbers below n that pass are marked, and the others are as they were
abbrev pub IsMarked : (ℕ → Bool) → ℕ → ℕ → ℕ → Type 0
IsMarked test numbers n marked =
    ((k : ℕ) → k < n → holds marked k ≡ (holds numbers k || test k))
    × ((k : ℕ) → n ≤ k → holds marked k ≡ holds numbers k)

pub marked_more : (test : ℕ → Bool) (numbers n marked new : ℕ) → n < 60 → test n ≡ true → new ≡ bit_or marked (1 * 2 ^ n % 2 ^ 64) → IsMarked test numbers n marked → IsMarked test numbers (n + 1) new
marked_more test numbers n marked new within passes is old = (
  λ k h. elim (cases_eq k n) [
    | inl here ↦
        ap (λ m. holds m k) is ∙ ap (holds (bit_or marked (1 * 2 ^ n % 2 ^ 64))) here ∙ holds-marked marked n (omega arith)
        ∙ sym (or_right (holds numbers k) (test k) (ap test here ∙ passes))
    | inr other ↦ ap (λ m. holds m k) is ∙ holds-other marked n k (omega arith) other ∙ old.0 k (omega arith)
  ],
  λ k h.
      let other : k ≢ n = omega arith in
      ap (λ m. holds m k) is ∙ holds-other marked n k (omega arith) other ∙ old.1 k (omega arith),
)

pub marked_same : (test : ℕ → Bool) (numbers n marked new : ℕ) → test n ≡ false → new ≡ marked → IsMarked test numbers n marked → IsMarked test numbers (n + 1) new
marked_same test numbers n marked new fails is old = (
  λ k h. elim (cases_eq k n) [
    | inl here ↦
        ap (λ m. holds m k) is ∙ old.1 k (omega arith) ∙ sym (or_off (holds numbers k) (test k) (ap test here ∙ fails))
    | inr other ↦ ap (λ m. holds m k) is ∙ old.0 k (omega arith)
  ],
  λ k h. ap (λ m. holds m k) is ∙ old.1 k (omega arith),
)

-- the set of all the numbers that pass, where none does from the end on
pub all_marked : (test : ℕ → Bool) (numbers n marked : ℕ) → IsMarked test numbers n marked → ((k : ℕ) → n ≤ k → test k ≡ false) → (k : ℕ) → holds marked k ≡ (holds numbers k || test k)
all_marked test numbers n marked is none k =
    elim (cases_lt k n) [
      | inl below ↦ is.0 k below
      | inr above ↦ is.1 k above ∙ sym (or_off (holds numbers k) (test k) (none k above))
    ]

and_off : (a b : Bool) → ((a && false) && b) ≡ false
and_off true b = refl
and_off false b = refl

-- a stretch in_stretch nothing above its end
pub in_stretch-above : (s : Stretch) (k : ℕ) → s.to < k → in_stretch s k ≡ false
in_stretch-above s k above =
    let past : nat_le k s.to ≡ false = lt-leb k s.to above in
    rw past (and_off (nat_le s.from k) _)

pub nothing_held : (k : ℕ) → holds 0 k ≡ false
nothing_held k = ap (λ n. eqb n 1) (bit_at-zero k)

same_bit : (a b : ℕ) → a < 2 → b < 2 → eqb a 1 ≡ eqb b 1 → a ≡ b
same_bit a b low low' same = grind (arith, nat_tests)

-- a field is determined by which numbers match in it
bits_from : (a b : ℕ) → ((k : ℕ) → holds a k ≡ holds b k) → (k : ℕ) → bit_at a k ≡ bit_at b k
bits_from a b same k = same_bit (bit_at a k) (bit_at b k) (bit_at-lt a k) (bit_at-lt b k) (same k)

pub same_numbers : (a b : ℕ) → ((k : ℕ) → holds a k ≡ holds b k) → a ≡ b
same_numbers a b same = same_from_bits a b (bits_from a b same)

-- the fields after the fifth, and so on down to those after the first
abbrev pub after_5 : List Limits
after_5 = limits_of 0 6 ∷ []

abbrev pub after_4 : List Limits
after_4 = limits_of 1 12 ∷ after_5

abbrev pub after_3 : List Limits
after_3 = limits_of 1 31 ∷ after_4

abbrev pub after_2 : List Limits
after_2 = limits_of 0 23 ∷ after_3

abbrev pub after_1 : List Limits
after_1 = limits_of 0 59 ∷ after_2

-- after the sixth field nothing is left, or a seventh one
pub nothing_left : (rest : Option (Bor (List ℕ))) → is_some rest ≡ false → pieces_left space (option_copied rest) ≡ []
nothing_left None e = refl
nothing_left (Some text) e = absurd (false≢true (sym e))

pub seventh_left : (rest : Option (Bor (List ℕ))) → is_some rest ≡ true → first_fault [] 7 (pieces_left space (option_copied rest)) ≡ Some 7
seventh_left None e = absurd (false≢true e)
seventh_left (Some text) e = ap (first_fault [] 7) (pieces_at_cut space text.now)

-- where the fault is known, this is the refusal
pub refused_exit : (text : List ℕ) (r : Result Cron CronRefused) (number : ℕ) (why : CronRefused) → r ≡ Err why → why ≡ BadField number → fault_of text ≡ Some number → (IfOk r (StandsFor text)) × (IsOk r ↔ (fault_of text ≡ None)) × (IfErr r (HasFault text))
refused_exit text r number why is e fault =
    rw (is, e) (tt, (λ ok. absurd (false≢true ok), λ none. absurd (some_not_none (sym fault ∙ none))), fault)

-- a text is that of one field, and of one schedule
one_field : (limits : Limits) (text : Text) (a b : Field) → IsField limits text a → IsField limits text b → a ≡ b
one_field limits text a b is other =
    let numbers : a.numbers ≡ b.numbers = same_numbers a.numbers b.numbers (λ k. is.numbers k ∙ sym (other.numbers k)) in
    let restricted : a.restricted ≡ b.restricted = is.restricted ∙ sym other.restricted in
    ap (λ n. record { numbers = n; restricted = a.restricted }) numbers ∙ ap (λ r. record { numbers = b.numbers; restricted = r }) restricted

same_fields : (limits : List Limits) (texts : List Text) (fields others : List Field) → AreFields limits texts fields → AreFields limits texts others → fields ≡ others
same_fields [] [] [] [] is other = refl
same_fields [] [] [] (x ∷ xs) is other = absurd other
same_fields [] [] (x ∷ xs) others is other = absurd is
same_fields [] (t ∷ ts) fields others is other = absurd is
same_fields (l ∷ ls) [] fields others is other = absurd is
same_fields (l ∷ ls) (t ∷ ts) [] others is other = absurd is
same_fields (l ∷ ls) (t ∷ ts) (x ∷ xs) [] is other = absurd other
same_fields (l ∷ ls) (t ∷ ts) (x ∷ xs) (y ∷ ys) is other =
    let first = one_field l t x y is.0 other.0 in
    let rest = same_fields ls ts xs ys is.1 other.1 in
    ap (λ (f : Field). f ∷ xs) first ∙ ap (λ (fs : List Field). y ∷ fs) rest

-- the schedule of six fields
schedule_of : List Field → Cron → Cron
schedule_of (second ∷ minute ∷ hour ∷ day ∷ month ∷ weekday ∷ []) other = record { second = second; minute = minute; hour = hour; day = day; month = month; weekday = weekday }
schedule_of fields other = other

same_schedule : (one other : Cron) → fields_of one ≡ fields_of other → one ≡ other
unfolding schedule_of
same_schedule one other fields = ap (λ (these : List Field). schedule_of these one) fields

pub one_schedule : (text : Text) (one other : Cron) → StandsFor text one → StandsFor text other → one ≡ other
one_schedule text one other is same = same_schedule one other (same_fields six _ (fields_of one) (fields_of other) is same)
