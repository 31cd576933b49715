-- The first fault of a text, by what was found.
use Rattle.std.proofs.Common.{◌≡◌, ℕ, ◌<◌, ◌≤◌, true, false, nat_lt, Option, Some, None, List, length, refl, sym, ap, ◌∙◌}
use Rattle.std.specs.Option.{option_or}
use Rattle.std.proofs.Common.{lt-ltb, le-ltb, inl, inr}
use Rattle.std.proofs.lemmas.Bool.{cases_lt}
use Rattle.hr_pattern.specs.declared.part.Reading.{Reading}
use Rattle.hr_pattern.specs.declared.refusal.PatternRefused.{PatternRefused}
use Rattle.hr_pattern.specs.declared.refusal.PatternRefused.TheVariants.{At, Memory}
use Rattle.hr_pattern.specs.declared.refusal.Why.TheVariants.{Long}
use Rattle.hr_pattern.specs.Form.{fault_of, forms_of, forms, reading_of, too_many}
use Rattle.hr_pattern.specs.Reading.{UnlessMemory}

pub unless : (e : PatternRefused) (P : Type 0) → P → UnlessMemory e P
unless (At at why) P h = h
unless Memory P h = tt

pub long : (text : List ℕ) → 1024 < length text → fault_of text ≡ Some (At 1024 Long)
unfolding fault_of
long text h = let yes : nat_lt 1024 (length text) ≡ true = lt-ltb 1024 (length text) h in rw yes refl

short : (text : List ℕ) → length text ≤ 1024 → fault_of text ≡ option_or (too_many 1 (reading_of text).parts) (reading_of text).fault
unfolding fault_of
short text h = let no : nat_lt 1024 (length text) ≡ false = le-ltb 1024 (length text) h in rw no refl

pub many : (text : List ℕ) (reading : Reading) (e : PatternRefused) → length text ≤ 1024 → reading ≡ reading_of text → too_many 1 reading.parts ≡ Some e → fault_of text ≡ Some e
many text reading e h is found =
    short text h ∙ ap (λ (r : Reading). option_or (too_many 1 r.parts) r.fault) (sym is) ∙ ap (λ (o : Option PatternRefused). option_or o reading.fault) found

pub other : (text : List ℕ) (reading : Reading) (o : Option PatternRefused) → length text ≤ 1024 → reading ≡ reading_of text → too_many 1 reading.parts ≡ None → reading.fault ≡ o → fault_of text ≡ o
other text reading o h is few found =
    short text h ∙ ap (λ (r : Reading). option_or (too_many 1 r.parts) r.fault) (sym is) ∙ ap (λ (o' : Option PatternRefused). option_or o' reading.fault) few ∙ found

pub expanded : (text : List ℕ) (reading : Reading) → reading ≡ reading_of text → forms reading.parts ≡ forms_of text
unfolding forms_of
expanded text reading is = ap (λ (r : Reading). forms r.parts) is

-- what a text without a fault is
pub sound_short : (text : List ℕ) → fault_of text ≡ None → length text ≤ 1024
sound_short text sound =
    elim (cases_lt 1024 (length text)) [
      | inl more ↦ let fault : fault_of text ≡ Some (At 1024 Long) = long text more in absurd (cc)
      | inr few ↦ few
    ]

no_second : {X : Type 0} (a b : Option X) → option_or a b ≡ None → b ≡ None
no_second None b e = e
no_second (Some x) b e = absurd (cc)

pub sound_reading : (text : List ℕ) → fault_of text ≡ None → (reading_of text).fault ≡ None
sound_reading text sound = no_second (too_many 1 (reading_of text).parts) (reading_of text).fault (sym (short text (sound_short text sound)) ∙ sound)

pub same_forms : (text : List ℕ) → forms_of text ≡ forms (reading_of text).parts
same_forms text = sym (expanded text (reading_of text) refl)
