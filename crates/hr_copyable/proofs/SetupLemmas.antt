-- Registries by their numbers, as lines change them one after the other.
use Rattle.std.proofs.Common.{◌≡◌, ◌≢◌, ◌<◌, ◌≤◌, ◌-◌, ℕ, zero, suc, [], ◌∷◌, length, Option, Some, None, option_map, slice_get, slice_set, unwrap_or, Result, Ok, refl, sym, ap, ◌∙◌, arith}
use Rattle.hr_base.specs.declared.number.RegNo.{RegNo}
use Rattle.hr_script.specs.declared.line.Line.{Line}
use Rattle.hr_opening.specs.Fit.{IsNumbered}
use Rattle.hr_opening.specs.Opening.{after_line, after_lines, goes_on, registry_named, setup_after, where_named}
use Rattle.hr_opening.specs.Setup.{Setups, no_setup, setup_in}
use Rattle.hr_opening.specs.declared.setup.RegSetup.{RegSetup}
use Rattle.hr_copyable.proofs.HoldLemmas.{some_same}

set_same : (setups : Setups) (at : ℕ) (s : RegSetup) → at < length setups → unwrap_or (slice_get (slice_set setups at s) at) no_setup ≡ s
set_same [] at s within = absurd (omega (arith, within))
set_same (t ∷ setups) zero s within = refl
set_same (t ∷ setups) (suc at) s within = set_same setups at s (omega (arith, within))

set_other : (setups : Setups) (at other : ℕ) (s : RegSetup) → other ≢ at
    → unwrap_or (slice_get (slice_set setups at s) other) no_setup ≡ unwrap_or (slice_get setups other) no_setup
set_other [] at other s apart = refl
set_other (t ∷ setups) zero zero s apart = absurd (apart refl)
set_other (t ∷ setups) zero (suc other) s apart = refl
set_other (t ∷ setups) (suc at) zero s apart = refl
set_other (t ∷ setups) (suc at) (suc other) s apart = set_other setups at other s (λ e. apart (ap suc e))

set_long : (setups : Setups) (at : ℕ) (s : RegSetup) → length (slice_set setups at s) ≡ length setups
set_long [] at s = refl
set_long (t ∷ setups) zero s = refl
set_long (t ∷ setups) (suc at) s = ap suc (set_long setups at s)

-- a line changed the registry that it names, and no other
pub record Changes (setups after : Setups) (l : Line) (reg : RegNo) : Type 0 where
  pub new : RegSetup
  pub made : setup_after l (setup_in setups reg.0) ≡ Some new
  pub here : setup_in after reg.0 ≡ new
  pub others : (other : ℕ) → 1 ≤ other → other ≢ reg.0 → setup_in after other ≡ setup_in setups other
  pub eight : length after ≡ 8

pub line_changes : (setups after : Setups) (l : Line) (reg : RegNo) → registry_named l ≡ Some reg → IsNumbered reg → length setups ≡ 8
    → after_line setups l ≡ Some after → Changes setups after l reg
line_changes setups after l reg named fit eight is =
    go (setup_after l (setup_in setups reg.0)) refl (ap (where_named setups (setup_after l)) (sym named) ∙ is)
  where
    go : (made : Option RegSetup) → setup_after l (setup_in setups reg.0) ≡ made
        → option_map (λ (setup : RegSetup). slice_set setups (reg.0 - 1) setup) made ≡ Some after → Changes setups after l reg
    go None made e = cc e
    go (Some new) made e =
        let same = some_same (slice_set setups (reg.0 - 1) new) after e in record {
          new = new;
          made = made;
          here = ap (λ (s : Setups). setup_in s reg.0) (sym same) ∙ set_same setups (reg.0 - 1) new (omega (arith, fit.some, fit.few, eight));
          others = λ other some apart.
              ap (λ (s : Setups). setup_in s other) (sym same)
              ∙ set_other setups (reg.0 - 1) (other - 1) new (λ at. apart (omega (arith, fit.some, some, at)));
          eight = ap length (sym same) ∙ set_long setups (reg.0 - 1) new ∙ eight;
        }

-- a line that names none leaves them
pub line_leaves : (setups after : Setups) (l : Line) → registry_named l ≡ None → after_line setups l ≡ Some after → setups ≡ after
line_leaves setups after l named is =
    some_same setups after (ap (where_named setups (setup_after l)) (sym named) ∙ is)

-- one line, and then the others
pub goes_ok : (behind : Setups → Result Setups ℕ) (number : ℕ) (next : Option Setups) (last : Setups) → goes_on behind number next ≡ Ok last
    → (mid : Setups) × (next ≡ Some mid) × (behind mid ≡ Ok last)
goes_ok behind number None last is = cc is
goes_ok behind number (Some mid) last is = (mid, refl, is)

-- no line more
pub ok_same : (a b : Setups) → after_lines a [] ≡ Ok b → a ≡ b
ok_same a b e = cc e
