-- Lemmas on the words of specs/Filter.antt.
use Rattle.std.proofs.Common.{◌≡◌, ◌↔◌, Bool, true, false, not, IsTrue, List, All, Contains, refl, subst, get_or}
use Rattle.std.specs.Prelude.{nat_eq}
use Rattle.std.specs.List.{list_any}
use Rattle.std.specs.Cmp.Lexicographic.{bytes_decides, pointwise}
use Rattle.std.proofs.lemmas.List.Folds.{Any-from_list_any, list_any_at}
use Rattle.hr_base.specs.Bytes.{Text}
use Rattle.hr_filter.specs.declared.filter.Decoration.{Decoration}
use Rattle.hr_filter.specs.declared.filter.Decoration.TheVariants.{Matches, Excludes}
use Rattle.hr_filter.specs.declared.filter.Filter.{Filter}
use Rattle.hr_filter.specs.declared.filter.Filter.TheVariants.{Label}
use Rattle.hr_filter.specs.declared.listed.Listed.{Listed}
use Rattle.hr_filter.specs.Filter.{selects, Decorated, Meets}

not-true : (b : Bool) → not b ≡ true → b ≡ true → ⊥
not-true true h e = cc
not-true false h e = cc

not-from : (b : Bool) → (b ≡ true → ⊥) → not b ≡ true
not-from true h = absurd (h refl)
not-from false h = refl

-- a test that tells a fact tells it also as it is decorated
pub decorated : (decoration : Decoration) (holds : Bool) (Fact : Type 0) → (IsTrue holds ↔ Fact)
    → IsTrue (selects decoration holds) ↔ Decorated decoration Fact
decorated Matches holds Fact tells = tells
decorated Excludes holds Fact tells =
    (λ yes fact. not-true holds yes (tells.1 fact), λ none. not-from holds (λ yes. none (tells.0 yes)))

-- a label is one of a list exactly where one of them is equal
pub text_there : (texts : List Text) (text : Text) → list_any (λ other. pointwise nat_eq other text) texts ≡ true → Contains texts text
text_there texts text found =
    let at = Any-from_list_any (λ (other : Text). pointwise nat_eq other text) texts found in
    let same : at.1 ≡ text = (bytes_decides at.1 text).0 at.4 in
    (at.0, at.2, subst (λ (t : Text). get_or texts at.0 t ≡ t) same at.3)

pub text_found : (texts : List Text) (text : Text) → Contains texts text → list_any (λ other. pointwise nat_eq other text) texts ≡ true
text_found texts text there =
    list_any_at (λ (other : Text). pointwise nat_eq other text) texts there.0 text there.1
    ((bytes_decides (get_or texts there.0 text) text).1 there.2)

pub text_missing : (texts : List Text) (text : Text) → list_any (λ other. pointwise nat_eq other text) texts ≡ false → Contains texts text → ⊥
text_missing texts text none there = let found = text_found texts text there in cc

-- a label filter tells whether its labels are there
pub label_told : (filter : Filter) (listed : Listed) (labels having wanted : List Text) (decoration : Decoration) (has told : Bool)
    → filter ≡ Label labels decoration → having ≡ listed.labels → wanted ≡ labels → (IsTrue has ↔ All (Contains having) wanted)
    → told ≡ selects decoration has → IsTrue told ↔ Meets listed filter
label_told filter listed labels having wanted decoration has told is same_having same_wanted tells e =
    let told_by : IsTrue (selects decoration has) ↔ Decorated decoration (All (Contains listed.labels) labels)
    = subst (λ (w : List Text). IsTrue (selects decoration has) ↔ Decorated decoration (All (Contains listed.labels) w)) same_wanted
    (subst (λ (h : List Text). IsTrue (selects decoration has) ↔ Decorated decoration (All (Contains h) wanted)) same_having
    (decorated decoration has (All (Contains having) wanted) tells)) in
    rw (is, e) told_by
