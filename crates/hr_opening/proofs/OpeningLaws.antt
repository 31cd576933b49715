-- Laws of the opening of a script: what holds of each of its registries.
use Rattle.std.proofs.Common.{◌≡◌, ◌-◌, ℕ, zero, suc, List, [], ◌∷◌, length, Option, Some, None, option_map, slice_set, Ok, refl, sym, ap, subst, ◌∙◌, arith}
use Rattle.std.specs.List.{AllByRecursion}
use Rattle.hr_adapter.specs.Content.{Content, Honest}
use Rattle.hr_base.specs.declared.number.RegNo.{RegNo}
use Rattle.hr_memreg.specs.Mem.{Mem}
use Rattle.hr_script.specs.declared.reading.Numbered.{Numbered}
use Rattle.hr_opening.specs.Fit.{AreFit, KeepsHonest}
use Rattle.hr_opening.specs.Opening.{Opens, after_line, after_lines, registry_named, setup_after, where_named}
use Rattle.hr_opening.specs.Setup.{Setups, no_setups, registries_of, registry_of, setup_in}
use Rattle.hr_opening.specs.Stored.{IsPlain}
use Rattle.hr_opening.specs.declared.opening.Opened.{Opened}
use Rattle.hr_opening.specs.declared.setup.RegSetup.{RegSetup}
use Rattle.hr_opening.proofs.KeptLemmas.{nothing_honest, nothing_plain}
use Rattle.hr_opening.proofs.LineLemmas.{goes_ok, lines_honest, lines_plain, none_honest, none_plain}
use Rattle.hr_opening.proofs.SetupLemmas.{each_in}

-- where no line stores bytes under the digest of others, every content is honest
pub opening_honest : (lines : List Numbered) (setups : Setups) → AllByRecursion (λ numbered. KeepsHonest numbered.line) lines
    → after_lines no_setups lines ≡ Ok setups → (reg : ℕ) → Honest (setup_in setups reg).content
opening_honest lines setups keeps is reg =
    each_in (λ (s : RegSetup). Honest s.content) setups reg nothing_honest (lines_honest no_setups setups lines keeps none_honest is)

-- every manifest has a media type that an index can list
pub opening_plain : (lines : List Numbered) (setups : Setups) → AreFit lines → after_lines no_setups lines ≡ Ok setups → (reg : ℕ)
    → IsPlain (setup_in setups reg).content
opening_plain lines setups fit is reg =
    each_in (λ (s : RegSetup). IsPlain s.content) setups reg nothing_plain (lines_plain no_setups setups lines fit none_plain is)

-- ---- there are eight, numbered from 1

length_set : (setups : Setups) (at : ℕ) (s : RegSetup) → length (slice_set setups at s) ≡ length setups
length_set [] at s = refl
length_set (t ∷ setups) zero s = refl
length_set (t ∷ setups) (suc at) s = ap suc (length_set setups at s)

count_along : (some other : Setups) → Some some ≡ Some other → length other ≡ length some
count_along some other is =
    let e : some ≡ other = cc is in
    ap length (sym e)

count_named : (setups after : Setups) (change : RegSetup → Option RegSetup) (reg : Option RegNo) → where_named setups change reg ≡ Some after
    → length after ≡ length setups
count_named setups after change None is = count_along setups after is
count_named setups after change (Some reg) is = go (change (setup_in setups reg.0)) is
  where
    go : (made : Option RegSetup) → option_map (λ (setup : RegSetup). slice_set setups (reg.0 - 1) setup) made ≡ Some after → length after ≡ length setups
    go None e = cc e
    go (Some new) e = count_along (slice_set setups (reg.0 - 1) new) after e ∙ length_set setups (reg.0 - 1) new

count_after : (setups last : Setups) (lines : List Numbered) → after_lines setups lines ≡ Ok last → length last ≡ length setups
count_after setups last [] is =
    let e : setups ≡ last = cc is in
    ap length (sym e)
count_after setups last (one ∷ rest) is =
    let step = goes_ok (λ after. after_lines after rest) one.number (after_line setups one.line) last is in
    count_after step.0 last rest step.2 ∙ count_named setups step.0 (setup_after one.line) (registry_named one.line) step.1

-- there are eight registries
pub opening_has_eight : (lines : List Numbered) (setups : Setups) → after_lines no_setups lines ≡ Ok setups → length setups ≡ 8
opening_has_eight lines setups is = count_after no_setups setups lines is

-- eight registries are those of the numbers 1 to 8, in order
pub registries_in_order : (setups : Setups) → length setups ≡ 8
    → registries_of setups
    ≡ registry_of (setup_in setups 1) ∷ registry_of (setup_in setups 2) ∷ registry_of (setup_in setups 3) ∷ registry_of (setup_in setups 4)
    ∷ registry_of (setup_in setups 5) ∷ registry_of (setup_in setups 6) ∷ registry_of (setup_in setups 7) ∷ registry_of (setup_in setups 8) ∷ []
registries_in_order [] e = absurd (omega arith)
registries_in_order (a ∷ []) e = absurd (omega arith)
registries_in_order (a ∷ b ∷ []) e = absurd (omega arith)
registries_in_order (a ∷ b ∷ c ∷ []) e = absurd (omega arith)
registries_in_order (a ∷ b ∷ c ∷ d ∷ []) e = absurd (omega arith)
registries_in_order (a ∷ b ∷ c ∷ d ∷ f ∷ []) e = absurd (omega arith)
registries_in_order (a ∷ b ∷ c ∷ d ∷ f ∷ g ∷ []) e = absurd (omega arith)
registries_in_order (a ∷ b ∷ c ∷ d ∷ f ∷ g ∷ h ∷ []) e = absurd (omega arith)
registries_in_order (a ∷ b ∷ c ∷ d ∷ f ∷ g ∷ h ∷ i ∷ []) e = refl
registries_in_order (a ∷ b ∷ c ∷ d ∷ f ∷ g ∷ h ∷ i ∷ j ∷ others) e = absurd (omega arith)

-- ---- the registries that are opened

contents_hold : (P : Content → Type 0) (setups : Setups) → AllByRecursion (λ setup. P setup.content) setups
    → AllByRecursion (λ registry. P registry.content) (registries_of setups)
contents_hold P [] all = tt
contents_hold P (s ∷ setups) all = (all.0, contents_hold P setups all.1)

registries_count : (setups : Setups) → length (registries_of setups) ≡ length setups
registries_count [] = refl
registries_count (s ∷ setups) = ap suc (registries_count setups)

pub opened_are_eight : (lines : List Numbered) (opened : Opened) → Opens lines opened → length opened.regs ≡ 8
opened_are_eight lines opened is =
    ap length is.regs ∙ registries_count is.setups ∙ opening_has_eight lines is.setups is.opens

pub opened_are_honest : (lines : List Numbered) (opened : Opened) → Opens lines opened → AllByRecursion (λ numbered. KeepsHonest numbered.line) lines
    → AllByRecursion (λ registry. Honest registry.content) opened.regs
opened_are_honest lines opened is keeps =
    subst (λ (regs : List Mem). AllByRecursion (λ registry. Honest registry.content) regs) (sym is.regs)
    (contents_hold Honest is.setups (lines_honest no_setups is.setups lines keeps none_honest is.opens))
