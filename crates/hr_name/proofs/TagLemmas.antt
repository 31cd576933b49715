-- Lemmas on the words of specs/Tag.antt.
use Rattle.std.proofs.Common.{◌≡◌, ◌≢◌, ℕ, suc, ap, ◌+◌, ◌<◌, ◌≤◌, Bool, true, false, ◌&&◌, cond, eqb, ltb, inl, inr, List, [], ◌∷◌, ◌++◌, length, take, get_or, refl, sym, ◌∙◌, subst, arith}
use Rattle.std.specs.Prelude.{IsTrue, codes, ⊤}
use Rattle.std.specs.List.{AllByRecursion}
use Rattle.std.proofs.lemmas.Bool.Decides.{eqb_tells, nat_tests}
use Rattle.std.proofs.lemmas.List.{append-nil, take_more, length-take-le}
use Rattle.std.proofs.Math.Seq.{take-length}
use Rattle.hr_name.specs.Alphabet.{begins_tag, goes_on_tag}
use Rattle.hr_name.specs.Front.{Begins, BeginsNone, IsFaultAt}
use Rattle.hr_name.specs.Tag.{IsTag, may_stand}
use Rattle.hr_name.proofs.FrontLemmas.{fault_here, fault_at_end}

-- behind the first byte

later_at : (zero low goes begins : Bool) → zero ≡ false → low ≡ true → goes ≡ true → cond zero begins (low && goes) ≡ true
later_at zero low goes begins e f g = rw (e, f, g) refl

later_from : (zero low goes begins : Bool) → zero ≡ false → cond zero begins (low && goes) ≡ true → (low ≡ true) × (goes ≡ true)
later_from true low goes begins e h = absurd (cc)
later_from false true true begins e h = (refl, refl)
later_from false true false begins e h = absurd (cc)
later_from false false goes begins e h = absurd (cc)

not_first : (at : ℕ) → 0 < at → eqb at 0 ≡ false
not_first at h = elim (eqb_tells at 0) [ inl e ↦ absurd (omega (arith, e.1)) | inr e ↦ e.0 ]

below-true : (m n : ℕ) → m < n → ltb m n ≡ true
below-true m n h = grind (arith, nat_tests)

true-below : (m n : ℕ) → ltb m n ≡ true → m < n
true-below m n h = grind (arith, nat_tests)

may_stand-later : (at byte : ℕ) → 0 < at → at < 128 → goes_on_tag byte ≡ true → may_stand at byte ≡ true
may_stand-later at byte h k g =
    later_at (eqb at 0) (ltb at 128) (goes_on_tag byte) (begins_tag byte) (not_first at h) (below-true at 128 k) g

later-may_stand : (at byte : ℕ) → 0 < at → may_stand at byte ≡ true → (at < 128) × (goes_on_tag byte ≡ true)
later-may_stand at byte h m =
    let both = later_from (eqb at 0) (ltb at 128) (goes_on_tag byte) (begins_tag byte) (not_first at h) m in
    (true-below at 128 both.0, both.1)

-- each byte may stand at its place, counted from here
abbrev pub StandFrom : ℕ → List ℕ → Type 0
StandFrom at [] = ⊤
StandFrom at (byte ∷ text) = IsTrue (may_stand at byte) × StandFrom (at + 1) text

rest-stands : (at : ℕ) (text : List ℕ) → 0 < at → at + length text ≤ 128
    → AllByRecursion (λ byte. IsTrue (goes_on_tag byte)) text → StandFrom at text
rest-stands at [] h k all = tt
rest-stands at (byte ∷ text) h k all =
    (may_stand-later at byte h (omega arith) all.0, rest-stands (at + 1) text (omega arith) (omega arith) all.1)

stands-rest : (at : ℕ) (text : List ℕ) → 0 < at → at ≤ 128 → StandFrom at text
    → AllByRecursion (λ byte. IsTrue (goes_on_tag byte)) text × (at + length text ≤ 128)
stands-rest at [] h k all = (tt, omega arith)
stands-rest at (byte ∷ text) h k all =
    let here = later-may_stand at byte h all.0 in
    let below : at < 128 = here.0 in
    let more = stands-rest (at + 1) text (omega arith) (omega arith) all.1 in
    let short : (at + 1) + length text ≤ 128 = more.1 in
    ((here.1, more.0), omega arith)

-- a tag's bytes may stand at their places, and some that may are a tag

whole-stands : (first : ℕ) (rest : List ℕ) → begins_tag first ≡ true → StandFrom 1 rest → StandFrom 0 (first ∷ rest)
whole-stands first rest h s = (h, s)

IsTag-stands : (text : List ℕ) → IsTag text → StandFrom 0 text
IsTag-stands text t =
    let short : length text ≤ 128 = t.short in
    let long : length text ≡ suc (length t.rest) = ap length t.whole in
    subst (StandFrom 0) (sym t.whole)
    (whole-stands t.first t.rest t.begins (rest-stands 1 t.rest (omega arith) (omega arith) t.goes_on))

stands-IsTag : (first : ℕ) (rest : List ℕ) → StandFrom 0 (first ∷ rest) → IsTag (first ∷ rest)
stands-IsTag first rest s =
    let more = stands-rest 1 rest (omega arith) (omega arith) s.1 in
    let short : 1 + length rest ≤ 128 = more.1 in
    record { first = first; rest = rest; whole = refl; begins = s.0; goes_on = more.0; short = omega arith }

stands-front : (at : ℕ) (text more : List ℕ) → StandFrom at (text ++ more) → StandFrom at text
stands-front at [] more s = tt
stands-front at (byte ∷ text) more s = (s.0, stands-front (at + 1) text more s.1)

stands-last : (at : ℕ) (text : List ℕ) (byte n : ℕ) → at + length text ≡ n → StandFrom at (text ++ byte ∷ []) → may_stand n byte ≡ true
stands-last at [] byte n e s = subst (λ n. may_stand n byte ≡ true) (let k : at ≡ n = omega arith in k) s.0
stands-last at (b ∷ text) byte n e s = stands-last (at + 1) text byte n (omega arith) s.1

stands-push : (at : ℕ) (text : List ℕ) (byte n : ℕ) → at + length text ≡ n → StandFrom at text → may_stand n byte ≡ true
    → StandFrom at (text ++ byte ∷ [])
stands-push at [] byte n e s m = (subst (λ n. may_stand n byte ≡ true) (let k : n ≡ at = omega arith in k) m, tt)
stands-push at (b ∷ text) byte n e s m = (s.0, stands-push (at + 1) text byte n (omega arith) s.1 m)

stands-short : (text : List ℕ) → StandFrom 0 text → length text ≤ 128
stands-short [] s = omega arith
stands-short (first ∷ rest) s =
    let short : 1 + length rest ≤ 128 = (stands-rest 1 rest (omega arith) (omega arith) s.1).1 in omega arith

IsTag-a : IsTag (codes "a")
IsTag-a = stands-IsTag 97 [] (refl, tt)

stands-Begins : (text : List ℕ) → StandFrom 0 text → Begins IsTag text
stands-Begins [] s = (codes "a", IsTag-a)
stands-Begins (first ∷ rest) s = ([], subst IsTag (sym (append-nil (first ∷ rest))) (stands-IsTag first rest s))

true_false : true ≡ false → ⊥
true_false e = cc

empty_cons : (first : ℕ) (rest : List ℕ) → [] ≡ first ∷ rest → ⊥
empty_cons first rest e = cc

nonempty : (text : List ℕ) → StandFrom 0 text → length text ≢ 0 → IsTag text
nonempty [] s h = absurd (h refl)
nonempty (first ∷ rest) s h = stands-IsTag first rest s

pub eqb_apart : (m n : ℕ) → eqb m n ≡ false → m ≢ n
eqb_apart m n e = elim (eqb_tells m n) [ inl h ↦ absurd (true_false (sym h.0 ∙ e)) | inr h ↦ h.1 ]

-- the walk over a text

pub stands_more : (text : List ℕ) (at d : ℕ) → at < length text → StandFrom 0 (take at text)
    → may_stand at (get_or text at d) ≡ true → StandFrom 0 (take (at + 1) text)
stands_more text at d h s m =
    let k : at ≤ length text = omega arith in
    let e : 0 + length (take at text) ≡ at = omega (arith, length-take-le at text k) in
    subst (StandFrom 0) (sym (take_more text at d h)) (stands-push 0 (take at text) (get_or text at d) at e s m)

pub tag_fault_here : (text : List ℕ) (at d : ℕ) → at < length text → StandFrom 0 (take at text)
    → may_stand at (get_or text at d) ≡ false → IsFaultAt IsTag text at
tag_fault_here text at d h s m =
    let k : at ≤ length text = omega arith in
    let byte : ℕ = get_or text at d in
    let e : 0 + length (take at text) ≡ at = omega (arith, length-take-le at text k) in
    fault_here IsTag text at h (stands-Begins (take at text) s)
    (subst (BeginsNone IsTag) (sym (take_more text at d h))
    (λ more t. let yes = stands-last 0 (take at text) byte at e
    (stands-front 0 (take at text ++ byte ∷ []) more (IsTag-stands _ t)) in
    absurd (true_false (sym yes ∙ m))))

pub near_front : (text : List ℕ) (at : ℕ) → at < length text → StandFrom 0 (take at text) → at ≤ 128
near_front text at h s =
    let k : at ≤ length text = omega arith in
    omega (arith, length-take-le at text k, stands-short (take at text) s)

pub tag_at_end : (text : List ℕ) → StandFrom 0 (take (length text) text) → length text ≢ 0 → IsTag text
tag_at_end text s h = nonempty text (subst (StandFrom 0) (take-length text) s) h

pub tag_fault_empty : (text : List ℕ) → length text ≡ 0 → IsFaultAt IsTag text 0
tag_fault_empty [] e = fault_at_end IsTag [] (codes "a", IsTag-a) (λ t. empty_cons t.first t.rest t.whole)
tag_fault_empty (b ∷ bs) e = absurd (omega arith)
