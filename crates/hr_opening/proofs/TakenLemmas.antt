-- The lines that were taken, and those that are left.
use Rattle.std.proofs.Common.{◌≡◌, ℕ, List, [], ◌∷◌, ◌++◌, length, take, Some, None, Ok, Err, refl, sym, ap, subst, ◌∙◌, append_assoc}
use Rattle.std.proofs.lemmas.List.{append-nil}
use Rattle.hr_event.specs.declared.event.Event.{Event}
use Rattle.hr_script.specs.declared.reading.Numbered.{Numbered}
use Rattle.hr_opening.specs.Fit.{AreFit, IsFit}
use Rattle.hr_opening.specs.Opening.{after_line, after_lines, event_in, events_in, goes_on}
use Rattle.hr_opening.specs.Setup.{ArePlain, Setups, no_setups}
use Rattle.hr_opening.proofs.LineLemmas.{line_plain, none_plain}

-- so many lines were taken, and these are left
pub record Taken (first : Setups) (lines : List Numbered) (now : Setups) (events : List Event) (left : List Numbered) : Type 0 where
  pub setups : after_lines first lines ≡ after_lines now left
  pub told : events ++ events_in left ≡ events_in lines
  pub fit : AreFit left
  pub plain : ArePlain now

pub none_taken : (first : Setups) (lines left : List Numbered) (events : List Event) → left ≡ lines → events ≡ [] → AreFit lines → ArePlain first
    → Taken first lines first events left
none_taken first lines left events all none fit plain = record {
  setups = ap (after_lines first) (sym all);
  told = ap (λ (es : List Event). es ++ events_in left) none ∙ ap events_in all;
  fit = subst AreFit (sym all) fit;
  plain = plain;
}

pub one_taken : (first : Setups) (lines : List Numbered) (now after : Setups) (events new : List Event) (left rest : List Numbered) (one : Numbered)
    → Taken first lines now events left → left ≡ one ∷ rest → after_line now one.line ≡ Some after → new ≡ events ++ event_in one.line
    → Taken first lines after new rest
one_taken first lines now after events new left rest one so_far is step made =
    let s : Taken first lines now events (one ∷ rest) = subst (λ (l : List Numbered). Taken first lines now events l) is so_far in
    record {
      setups = s.setups ∙ ap (goes_on (λ c. after_lines c rest) one.number) step;
      told = ap (λ (es : List Event). es ++ events_in rest) made ∙ append_assoc events (event_in one.line) (events_in rest) ∙ s.told;
      fit = s.fit.1;
      plain = line_plain now after one.line s.fit.0 s.plain step;
    }

pub one_fits : (first : Setups) (lines : List Numbered) (now : Setups) (events : List Event) (left rest : List Numbered) (one : Numbered)
    → Taken first lines now events left → left ≡ one ∷ rest → IsFit one.line
one_fits first lines now events left rest one so_far is = (subst AreFit is so_far.fit).0

pub one_lacks : (first : Setups) (lines : List Numbered) (now : Setups) (events : List Event) (left rest : List Numbered) (one : Numbered)
    → Taken first lines now events left → left ≡ one ∷ rest → after_line now one.line ≡ None → after_lines first lines ≡ Err one.number
one_lacks first lines now events left rest one so_far is lacks =
    so_far.setups ∙ ap (after_lines now) is ∙ ap (goes_on (λ c. after_lines c rest) one.number) lacks

pub all_taken : (first : Setups) (lines : List Numbered) (now : Setups) (events : List Event) (left : List Numbered)
    → Taken first lines now events left → left ≡ [] → (after_lines first lines ≡ Ok now) × (events ≡ events_in lines)
all_taken first lines now events left so_far none = (
  so_far.setups ∙ ap (after_lines now) none,
  sym (append-nil events) ∙ ap (λ (l : List Numbered). events ++ events_in l) (sym none) ∙ so_far.told,
)

-- ---- the eight registries

pub eight_at : (setups : Setups) → setups ≡ no_setups → length setups ≡ 8
eight_at setups is = ap length is

pub plain_start : (setups : Setups) → setups ≡ no_setups → ArePlain setups
plain_start setups is = subst ArePlain (sym is) none_plain

-- the first part of a list is that list
pub kept_part : {X : Type 0} (n : ℕ) (xs ys : List X) → n ≡ length xs → take n (xs ++ ys) ≡ xs
kept_part n [] ys e = ap (λ (k : ℕ). take k ys) e
kept_part n (x ∷ xs) ys e = ap (λ (k : ℕ). take k (x ∷ xs ++ ys)) e ∙ ap (λ (l : List _). x ∷ l) (kept_part (length xs) xs ys refl)
