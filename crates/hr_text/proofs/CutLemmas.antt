-- The cut at the place of the first such byte.
use Rattle.std.proofs.Common.{◌≡◌, ◌<◌, ◌≤◌, ◌+◌, ◌-◌, ℕ, zero, suc, Bool, true, false, cond, eqb, [], ◌∷◌, ◌++◌, length, take, drop, get_or, Some, None, refl, ap, ◌∙◌, arith, add-one, length-drop}
use Rattle.std.specs.Prelude.{nat_lt}
use Rattle.std.specs.List.{position, position_or_len}
use Rattle.std.proofs.lemmas.Bool.{eqb-true}
use Rattle.std.proofs.lemmas.List.{take_all}
use Rattle.std.proofs.lemmas.List.Quantifiers.{position-Some}
use Rattle.std.proofs.lemmas.List.Sums.{fails_before_first}
use borrow.Author.Tests.{ltb-false}
use Rattle.hr_base.specs.Bytes.{Text}
use Rattle.hr_text.specs.Cutting.{cut_at}

-- what stands behind a place, as a slice of the text
pub rest_whole : (text : Text) (i : ℕ) → take (length text - (i + 1)) (drop (i + 1) text) ≡ drop (i + 1) text
rest_whole text i = take_all (length text - (i + 1)) (drop (i + 1) text) (omega (arith, length-drop (i + 1) text))

found : (byte : ℕ) (text : Text) (i : ℕ) → i < length text → eqb (get_or text i 0) byte ≡ true → ((k : ℕ) → k < i → eqb (get_or text k 0) byte ≡ false) → (cut_at byte text ≡ (take i text, Some (drop (i + 1) text))) × (text ≡ take i text ++ byte ∷ drop (i + 1) text)
found byte [] i within is none = absurd (omega arith)
found byte (x ∷ xs) zero within is none = (rw is refl, ap (λ b. b ∷ xs) (eqb-true x byte is))
found byte (x ∷ xs) (suc i) within is none =
    let other : eqb x byte ≡ false = none 0 (omega arith) in
    let rest = found byte xs i (omega arith) is (λ k h. none (suc k) (omega arith)) in
    let place : i + 1 ≡ suc i = omega arith in
    rw (other, add-one) (
      ap (λ p. (x ∷ p.0, p.1)) (rest.0 ∙ ap (λ n. (take i xs, Some (drop n xs))) place),
      ap (λ l. x ∷ l) (rest.1 ∙ ap (λ n. take i xs ++ byte ∷ drop n xs) place),
    )

-- a text with such a byte is cut at the first one
pub record IsCut (byte : ℕ) (text : Text) (i : ℕ) : Type 0 where
  pub within : i < length text
  pub cut : cut_at byte text ≡ (take i text, Some (drop (i + 1) text))
  pub joined : text ≡ take i text ++ byte ∷ drop (i + 1) text

pub cut_found : (byte : ℕ) (text : Text) (i : ℕ) → position (λ b. eqb b byte) text ≡ Some i → IsCut byte text i
cut_found byte text i is =
    let place = position-Some (λ (b : ℕ). eqb b byte) text i 0 is in
    let both = found byte text i place.0 place.1 place.2 in
    record { within = place.0; cut = both.0; joined = both.1 }

uncut : (byte : ℕ) (text : Text) → ((k : ℕ) → k < length text → eqb (get_or text k 0) byte ≡ false) → cut_at byte text ≡ (text, None)
uncut byte [] none = refl
uncut byte (x ∷ xs) none =
    let other : eqb x byte ≡ false = none 0 (omega arith) in
    rw other (ap (λ p. (x ∷ p.0, p.1)) (uncut byte xs (λ k h. none (suc k) (omega arith))))

-- a text without such a byte is not cut
pub cut_nowhere : (byte : ℕ) (text : Text) → position (λ b. eqb b byte) text ≡ None → cut_at byte text ≡ (text, None)
cut_nowhere byte text is =
    let past : length text ≤ position_or_len (λ (b : ℕ). eqb b byte) text = ltb-false _ _ (none_passes (nat_lt (position_or_len (λ (b : ℕ). eqb b byte) text) (length text)) _ is) in
    uncut byte text (λ k h. fails_before_first (λ (b : ℕ). eqb b byte) text k 0 (omega arith))
  where
    none_passes : (t : Bool) (n : ℕ) → cond t (Some n) None ≡ None → t ≡ false
    none_passes true n e = absurd (cc)
    none_passes false n e = refl
