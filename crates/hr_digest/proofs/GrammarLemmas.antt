-- Algorithms as they are read byte by byte, and the colon behind them.
use Rattle.std.proofs.Common.{◌≡◌, ◌<◌, ◌≤◌, ℕ, suc, Bool, true, false, cond, ◌||◌, eqb, List, [], ◌∷◌, ◌++◌, length, drop, get_or, Option, Some, refl, sym, ap, ◌∙◌, arith}
use Rattle.std.specs.Prelude.{◌↔◌, if◌then◌else◌, not}
use Rattle.std.specs.List.{AllPass, All}
use Rattle.std.proofs.lemmas.Bool.Decides.{nat_tests}
use Rattle.std.proofs.lemmas.List.{drop_all}
use Rattle.std.proofs.lemmas.List.Elements.{All-append, All-cons, All-head, All-nil, All-same, All-tail, All-weaker}
use Rattle.std.proofs.Math.Seq.{drop-cons}
use Rattle.hr_base.specs.Bytes.{Text}
use Rattle.hr_text.specs.Cutting.{cut_at}
use Rattle.hr_text.proofs.CutLaws.{cut_at_front}
use Rattle.hr_digest.specs.Grammar.{HasParts, IsAlgorithm, IsRun, is_component_byte, is_separator}
use Rattle.hr_digest.specs.Grammar.IsAlgorithm.{One, More}

-- ---- algorithms, byte by byte

-- the bytes go on as an algorithm does, where a component begins or is going on
abbrev pub accepts : Bool → List ℕ → Bool
accepts begins [] = not begins
accepts begins (b ∷ bs) =
    if is_component_byte b then accepts false bs else
    if begins || not (is_separator b) then false else accepts true bs

-- what is left of an algorithm, before or behind the first byte of a component
abbrev Completes : Bool → List ℕ → Type 0
Completes true text = IsAlgorithm text
Completes false text = (c : ℕ) → is_component_byte c ≡ true → IsAlgorithm (c ∷ text)

run_from : (p : ℕ → Bool) (c : ℕ) (text : List ℕ) → p c ≡ true → AllPass p text → IsRun p (c ∷ text)
run_from p c text is each = record { some = omega arith; each = All-cons (λ b. p b ≡ true) c text is each }

grown : (c : ℕ) (text : List ℕ) → is_component_byte c ≡ true → IsAlgorithm text → IsAlgorithm (c ∷ text)
grown c t is (One text run) = One (c ∷ text) (run_from is_component_byte c text is run.each)
grown c t is (More text component separator rest e run sep more) =
    More (c ∷ text) (c ∷ component) separator rest (ap (λ (l : List ℕ). c ∷ l) e) (run_from is_component_byte c component is run.each) sep more

completes_step : (b : ℕ) (bs : List ℕ) → (accepts false bs ≡ true → Completes false bs) → (accepts true bs ≡ true → IsAlgorithm bs)
    → (t : Bool) → is_component_byte b ≡ t → (s : Bool) → is_separator b ≡ s → (begins : Bool)
    → cond t (accepts false bs) (cond (begins || not s) false (accepts true bs)) ≡ true → Completes begins (b ∷ bs)
completes_step b bs on anew true is s sep true h = on h b is
completes_step b bs on anew true is s sep false h = λ c ok. grown c (b ∷ bs) ok (on h b is)
completes_step b bs on anew false is s sep true h = cc h
completes_step b bs on anew false is false sep false h = cc h
completes_step b bs on anew false is true sep false h =
    λ c ok. More (c ∷ b ∷ bs) (c ∷ []) b bs refl (run_from is_component_byte c [] ok (All-nil (λ b. is_component_byte b ≡ true))) sep (anew h)

completes : (text : List ℕ) (begins : Bool) → accepts begins text ≡ true → Completes begins text
completes [] true h = cc h
completes [] false h = λ c ok. One (c ∷ []) (run_from is_component_byte c [] ok (All-nil (λ b. is_component_byte b ≡ true)))
completes (b ∷ bs) begins h =
    completes_step b bs (completes bs false) (completes bs true) (is_component_byte b) refl (is_separator b) refl begins h

-- ---- the other way

abbrev goes_by : List ℕ → Bool → ℕ → Bool → Bool
goes_by bs begins b t = cond t (accepts false bs) (cond (begins || not (is_separator b)) false (accepts true bs))

all_accepted : (text : List ℕ) → AllPass is_component_byte text → accepts false text ≡ true
all_accepted [] each = refl
all_accepted (b ∷ bs) each =
    ap (goes_by bs false b) (All-head (λ c. is_component_byte c ≡ true) b bs each)
    ∙ all_accepted bs (All-tail (λ c. is_component_byte c ≡ true) b bs each)

run_accepted : (text : List ℕ) → IsRun is_component_byte text → accepts true text ≡ true
run_accepted [] run = let some = run.some in absurd (omega (arith, some))
run_accepted (b ∷ bs) run =
    ap (goes_by bs true b) (All-head (λ c. is_component_byte c ≡ true) b bs run.each)
    ∙ all_accepted bs (All-tail (λ c. is_component_byte c ≡ true) b bs run.each)

all_passed : (text rest : List ℕ) → AllPass is_component_byte text → accepts false (text ++ rest) ≡ accepts false rest
all_passed [] rest each = refl
all_passed (b ∷ bs) rest each =
    ap (goes_by (bs ++ rest) false b) (All-head (λ c. is_component_byte c ≡ true) b bs each)
    ∙ all_passed bs rest (All-tail (λ c. is_component_byte c ≡ true) b bs each)

run_passed : (text rest : List ℕ) → IsRun is_component_byte text → accepts true (text ++ rest) ≡ accepts false rest
run_passed [] rest run = let some = run.some in absurd (omega (arith, some))
run_passed (b ∷ bs) rest run =
    ap (goes_by (bs ++ rest) true b) (All-head (λ c. is_component_byte c ≡ true) b bs run.each)
    ∙ all_passed bs rest (All-tail (λ c. is_component_byte c ≡ true) b bs run.each)

no_component : (s : ℕ) → is_separator s ≡ true → is_component_byte s ≡ false
no_component s sep = grind (arith, nat_tests)

separator_passed : (s : ℕ) (rest : List ℕ) → is_separator s ≡ true → accepts false (s ∷ rest) ≡ accepts true rest
separator_passed s rest sep =
    ap (goes_by rest false s) (no_component s sep)
    ∙ ap (λ (t : Bool). cond (not t) false (accepts true rest)) sep

accepted : (text : List ℕ) → IsAlgorithm text → accepts true text ≡ true
accepted t (One text run) = run_accepted text run
accepted t (More text component separator rest e run sep more) =
    ap (accepts true) e ∙ run_passed component (separator ∷ rest) run ∙ separator_passed separator rest sep ∙ accepted rest more

-- an algorithm is what is accepted from its first byte on
pub algorithm_accepted : (text : List ℕ) (r : Bool) → r ≡ accepts true text → (r ≡ true) ↔ IsAlgorithm text
algorithm_accepted text r e = (λ h. completes text true (sym e ∙ h), λ is. e ∙ accepted text is)

-- ---- the bytes left

-- no byte is left
pub accepted_end : (begins : Bool) (text : List ℕ) (i : ℕ) → length text ≤ i → accepts begins (drop i text) ≡ accepts true text
    → (not begins ≡ true) ↔ IsAlgorithm text
accepted_end begins text i end kept =
    algorithm_accepted text (not begins) (ap (accepts begins) (sym (drop_all i text end)) ∙ kept)

-- the next byte stands in the wrong place
pub accepted_not : (begins : Bool) (text : List ℕ) (i b : ℕ) → i < length text → b ≡ get_or text i 0 → is_component_byte b ≡ false
    → (begins || not (is_separator b)) ≡ true → accepts begins (drop i text) ≡ accepts true text → (false ≡ true) ↔ IsAlgorithm text
accepted_not begins text i b below e other wrong kept =
    let next : drop i text ≡ b ∷ drop (suc i) text = drop-cons text i 0 below ∙ ap (λ (c : ℕ). c ∷ drop (suc i) text) (sym e) in
    let not_taken : accepts begins (b ∷ drop (suc i) text) ≡ false =
    ap (goes_by (drop (suc i) text) begins b) other ∙ ap (λ (t : Bool). cond t false (accepts true (drop (suc i) text))) wrong in
    algorithm_accepted text false (sym not_taken ∙ ap (accepts begins) (sym next) ∙ kept)

-- ---- the colon

abbrev IsFree : Text → Type 0
IsFree text = All (λ b. eqb b 58 ≡ false) text

free_component : (b : ℕ) → is_component_byte b ≡ true → eqb b 58 ≡ false
free_component b is = grind (arith, nat_tests)

free_separator : (b : ℕ) → is_separator b ≡ true → eqb b 58 ≡ false
free_separator b is = grind (arith, nat_tests)

free_run : (text : Text) → IsRun is_component_byte text → IsFree text
free_run text run = All-weaker (λ b. is_component_byte b ≡ true) (λ b. eqb b 58 ≡ false) free_component text run.each

algorithm_free : (text : Text) → IsAlgorithm text → IsFree text
algorithm_free t (One text run) = free_run text run
algorithm_free t (More text component separator rest e run sep more) =
    let free = λ (b : ℕ). eqb b 58 ≡ false in
    All-same free text (component ++ separator ∷ rest) e
    (All-append free component (separator ∷ rest) (free_run component run)
    (All-cons free separator rest (free_separator separator sep) (algorithm_free rest more)))

-- the parts of a text are what stands before its first colon and what stands behind it
pub parts_cut : (text algorithm encoded : Text) → HasParts text algorithm encoded → cut_at 58 text ≡ (algorithm, Some encoded)
parts_cut text algorithm encoded parts =
    ap (cut_at 58) parts.joined ∙ cut_at_front 58 algorithm encoded (algorithm_free algorithm parts.named)

-- a text has its parts in one way
pub parts_once : (text a x b y : Text) → HasParts text a x → HasParts text b y → (a ≡ b) × (x ≡ y)
parts_once text a x b y first second =
    let same : ◌≡◌ {A = Text × Option Text} (a, Some x) (b, Some y) = sym (parts_cut text a x first) ∙ parts_cut text b y second in
    let behind : ◌≡◌ {A = Option Text} (Some x) (Some y) = ap (λ (p : Text × Option Text). p.1) same in
    let encoded : x ≡ y = cc behind in
    (ap (λ (p : Text × Option Text). p.0) same, encoded)
