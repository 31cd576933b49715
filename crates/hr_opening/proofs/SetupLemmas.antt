-- One registry of several, and what holds of each of them.
use Rattle.std.proofs.Common.{◌≡◌, ◌<◌, ◌-◌, ℕ, zero, suc, [], ◌∷◌, length, get_or, Option, Some, None, option_map, slice_get, slice_set, refl, sym, ap, subst, ◌∙◌, arith}
use Rattle.std.specs.Option.{unwrap_or}
use Rattle.std.specs.List.{AllByRecursion}
use Rattle.hr_base.specs.declared.number.RegNo.{RegNo}
use Rattle.hr_opening.specs.Opening.{where_named}
use Rattle.hr_opening.specs.Setup.{ArePlain, Setups, no_setup, setup_in, with_setup}
use Rattle.hr_opening.specs.Stored.{IsPlain}
use Rattle.hr_opening.specs.declared.setup.RegSetup.{RegSetup}

setup_at : (setups : Setups) (at : ℕ) (old : RegSetup) → at < length setups → old ≡ get_or setups at old
    → unwrap_or (slice_get setups at) no_setup ≡ old
setup_at [] at old within is = absurd (omega arith)
setup_at (s ∷ setups) zero old within is = sym is
setup_at (s ∷ setups) (suc at) old within is = setup_at setups at old (omega arith) is

-- one registry was changed, and the others stay
pub setup_is : (setups : Setups) (reg at : ℕ) (old new : RegSetup) (change : RegSetup → Option RegSetup) → at ≡ reg - 1
    → at < length setups → old ≡ get_or setups at old → change old ≡ Some new → with_setup setups reg change ≡ Some (slice_set setups at new)
setup_is setups reg at old new change e within is made =
    ap (λ (k : ℕ). option_map (λ (setup : RegSetup). slice_set setups k setup) (change (unwrap_or (slice_get setups k) no_setup))) (sym e)
    ∙ ap (λ (s : RegSetup). option_map (λ (setup : RegSetup). slice_set setups at setup) (change s)) (setup_at setups at old within is)
    ∙ ap (option_map (λ (setup : RegSetup). slice_set setups at setup)) made

-- it could not be changed
pub setup_lacks : (setups : Setups) (reg at : ℕ) (old : RegSetup) (change : RegSetup → Option RegSetup) → at ≡ reg - 1
    → at < length setups → old ≡ get_or setups at old → change old ≡ None → with_setup setups reg change ≡ None
setup_lacks setups reg at old change e within is lacks =
    ap (λ (k : ℕ). option_map (λ (setup : RegSetup). slice_set setups k setup) (change (unwrap_or (slice_get setups k) no_setup))) (sym e)
    ∙ ap (λ (s : RegSetup). option_map (λ (setup : RegSetup). slice_set setups at setup) (change s)) (setup_at setups at old within is)
    ∙ ap (option_map (λ (setup : RegSetup). slice_set setups at setup)) lacks

pub plain_at : (setups : Setups) (at : ℕ) (old : RegSetup) → at < length setups → old ≡ get_or setups at old → ArePlain setups → IsPlain old.content
plain_at [] at old within is all = absurd (omega arith)
plain_at (s ∷ setups) zero old within is all = subst (λ (t : RegSetup). IsPlain t.content) (sym is) all.0
plain_at (s ∷ setups) (suc at) old within is all = plain_at setups at old (omega arith) is all.1

-- ---- what holds of each

each_at : (P : RegSetup → Type 0) (setups : Setups) (at : ℕ) → P no_setup → AllByRecursion P setups → P (unwrap_or (slice_get setups at) no_setup)
each_at P [] at none all = none
each_at P (s ∷ setups) zero none all = all.0
each_at P (s ∷ setups) (suc at) none all = each_at P setups at none all.1

each_set : (P : RegSetup → Type 0) (setups : Setups) (at : ℕ) (s : RegSetup) → P s → AllByRecursion P setups → AllByRecursion P (slice_set setups at s)
each_set P [] at s is all = all
each_set P (t ∷ setups) zero s is all = (is, all.1)
each_set P (t ∷ setups) (suc at) s is all = (all.0, each_set P setups at s is all.1)

pub each_in : (P : RegSetup → Type 0) (setups : Setups) (reg : ℕ) → P no_setup → AllByRecursion P setups → P (setup_in setups reg)
each_in P setups reg none all = each_at P setups (reg - 1) none all

-- what holds of some registries holds along an equation
pub each_along : (P : RegSetup → Type 0) (some other : Setups) → Some some ≡ Some other → AllByRecursion P some → AllByRecursion P other
each_along P some other is all =
    let e : some ≡ other = cc is in
    subst (λ (s : Setups). AllByRecursion P s) e all

-- a change of one registry keeps what holds of each
pub each_named : (P : RegSetup → Type 0) (setups after : Setups) (change : RegSetup → Option RegSetup) (reg : Option RegNo) → P no_setup
    → ((old new : RegSetup) → P old → change old ≡ Some new → P new) → AllByRecursion P setups → where_named setups change reg ≡ Some after
    → AllByRecursion P after
each_named P setups after change None none keeps all is = each_along P setups after is all
each_named P setups after change (Some reg) none keeps all is =
    go (change (setup_in setups reg.0)) (λ new made. keeps (setup_in setups reg.0) new (each_in P setups reg.0 none all) made) is
  where
    go : (made : Option RegSetup) → ((new : RegSetup) → made ≡ Some new → P new)
        → option_map (λ (setup : RegSetup). slice_set setups (reg.0 - 1) setup) made ≡ Some after → AllByRecursion P after
    go None holds e = cc e
    go (Some new) holds e = each_along P (slice_set setups (reg.0 - 1) new) after e (each_set P setups (reg.0 - 1) new (holds new refl) all)
