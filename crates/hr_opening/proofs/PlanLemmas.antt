-- The tasks that are planned, repository by repository.
use Rattle.std.proofs.Common.{◌≡◌, ◌<◌, ◌≤◌, ◌+◌, ◌&&◌, ℕ, zero, suc, Bool, true, false, nat_le, if◌then◌else◌, List, [], ◌∷◌, ◌++◌, length, get_or, take, flat_map, Some, None, refl, sym, ap, subst, ◌∙◌, arith}
use Rattle.std.specs.List.{list_all}
use Rattle.std.proofs.lemmas.Bool.Decides.{nat_tests}
use Rattle.std.proofs.lemmas.Grind.{flat_map-append}
use Rattle.std.proofs.lemmas.List.{append-nil, take_all, take_more}
use Rattle.hr_event.specs.declared.task.TaskSpec.{TaskSpec}
use Rattle.hr_adapter.specs.Content.{Content}
use Rattle.hr_adapter.specs.Listing.{repos_of, tags_of}
use Rattle.hr_adapter.specs.declared.listed.Tagged.{Tagged}
use Rattle.hr_adapter.specs.declared.registry.TheConstants.{LIST_LIMIT}
use Rattle.hr_opening.specs.Plan.{are_listed, is_short, plan_of, spec_of, specs_for, specs_of}

le_true : (m n : ℕ) → m ≤ n → nat_le m n ≡ true
le_true m n h = grind (arith, nat_tests)

le_false : (m n : ℕ) → n < m → nat_le m n ≡ false
le_false m n h = grind (arith, nat_tests)

if_both : {X : Type 0} (a b : Bool) (x : X) → a ≡ true → b ≡ true → (if a && b then Some x else None) ≡ Some x
if_both true true x p q = refl
if_both true false x p q = cc q
if_both false b x p q = cc p

if_not_first : {X : Type 0} (a b : Bool) (x : X) → a ≡ false → (if a && b then Some x else None) ≡ None
if_not_first true b x p = cc p
if_not_first false b x p = refl

if_not_second : {X : Type 0} (a b : Bool) (x : X) → b ≡ false → (if a && b then Some x else None) ≡ None
if_not_second true true x p = cc p
if_not_second true false x p = refl
if_not_second false b x p = refl

all_more : {X : Type 0} (p : X → Bool) (xs : List X) (x : X) → list_all p xs ≡ true → p x ≡ true → list_all p (xs ++ x ∷ []) ≡ true
all_more p [] x h is = and_true (p x) true is refl
  where
    and_true : (a b : Bool) → a ≡ true → b ≡ true → (a && b) ≡ true
    and_true true b e f = f
    and_true false b e f = cc e
all_more p (y ∷ ys) x h is = step (p y) (list_all p ys) h (λ rest. all_more p ys x rest is)
  where
    step : (a b : Bool) → (a && b) ≡ true → (b ≡ true → list_all p (ys ++ x ∷ []) ≡ true) → (a && list_all p (ys ++ x ∷ [])) ≡ true
    step true b e f = f e
    step false b e f = cc e

not_all : {X : Type 0} (p : X → Bool) (xs : List X) (at : ℕ) (x : X) → at < length xs → x ≡ get_or xs at x → p x ≡ false → list_all p xs ≡ false
not_all p [] at x within is fails = absurd (omega arith)
not_all p (y ∷ ys) zero x within is fails = step (p y) (list_all p ys) (ap p (sym is) ∙ fails)
  where
    step : (a b : Bool) → a ≡ false → (a && b) ≡ false
    step true b e = cc e
    step false b e = refl
not_all p (y ∷ ys) (suc at) x within is fails = step (p y) (list_all p ys) (not_all p ys at x (omega arith) is fails)
  where
    step : (a b : Bool) → b ≡ false → (a && b) ≡ false
    step true b e = e
    step false b e = refl

-- ---- repository by repository

pub listed_more : (c : Content) (names : List (List ℕ)) (at : ℕ) (name : List ℕ) (tags : List Tagged) → are_listed c (take at names) ≡ true
    → at < length names → name ≡ get_or names at name → length tags ≤ LIST_LIMIT → tags ≡ tags_of c name → are_listed c (take (at + 1) names) ≡ true
listed_more c names at name tags listed within is few found =
    let p : List ℕ → Bool = λ repo. is_short (tags_of c repo) in
    let short : p name ≡ true = le_true (length (tags_of c name)) LIST_LIMIT (subst (λ (ts : List Tagged). length ts ≤ LIST_LIMIT) found few) in
    subst (λ (l : List (List ℕ)). are_listed c l ≡ true) (sym (take_more names at name within ∙ ap (λ (n : List ℕ). take at names ++ n ∷ []) (sym is)))
    (all_more p (take at names) name listed short)

pub specs_more : (c : Content) (names : List (List ℕ)) (at : ℕ) (name : List ℕ) (tags : List Tagged) (specs new : List TaskSpec) → specs ≡ specs_of c (take at names)
    → at < length names → name ≡ get_or names at name → tags ≡ tags_of c name → new ≡ specs ++ specs_for name tags → new ≡ specs_of c (take (at + 1) names)
specs_more c names at name tags specs new so_far within is found made =
    let f : List ℕ → List TaskSpec = λ repo. specs_for repo (tags_of c repo) in
    let step : specs_of c (take (at + 1) names) ≡ specs_of c (take at names) ++ f name =
    ap (flat_map f) (take_more names at name within ∙ ap (λ (n : List ℕ). take at names ++ n ∷ []) (sym is))
    ∙ flat_map-append f (take at names) (name ∷ [])
    ∙ ap (λ (l : List TaskSpec). flat_map f (take at names) ++ l) (append-nil (f name))
    in
    made ∙ ap (λ (l : List TaskSpec). l ++ specs_for name tags) so_far
    ∙ ap (λ (ts : List Tagged). specs_of c (take at names) ++ specs_for name ts) found ∙ sym step

pub plan_found : (c : Content) (names : List (List ℕ)) (specs : List TaskSpec) (at : ℕ) → names ≡ repos_of c → length names ≤ LIST_LIMIT → length names ≤ at
    → specs ≡ specs_of c (take at names) → are_listed c (take at names) ≡ true → Some specs ≡ plan_of c
plan_found c names specs at is few past made listed =
    let all : take at names ≡ repos_of c = take_all at names past ∙ is in
    let short : is_short (repos_of c) ≡ true = le_true (length (repos_of c)) LIST_LIMIT (subst (λ (l : List (List ℕ)). length l ≤ LIST_LIMIT) is few) in
    let each : are_listed c (repos_of c) ≡ true = subst (λ (l : List (List ℕ)). are_listed c l ≡ true) all listed in
    ap Some (made ∙ ap (specs_of c) all)
    ∙ sym (if_both (is_short (repos_of c)) (are_listed c (repos_of c)) (specs_of c (repos_of c)) short each)

-- ---- too long

pub many_repos : (c : Content) (len : ℕ) → LIST_LIMIT < len → length (repos_of c) ≡ len → None ≡ plan_of c
many_repos c len long is =
    sym (if_not_first (is_short (repos_of c)) (are_listed c (repos_of c)) (specs_of c (repos_of c))
    (le_false (length (repos_of c)) LIST_LIMIT (omega (arith, long, is))))

pub many_tags : (c : Content) (names : List (List ℕ)) (at : ℕ) (name : List ℕ) (len : ℕ) → names ≡ repos_of c → at < length names → name ≡ get_or names at name
    → LIST_LIMIT < len → length (tags_of c name) ≡ len → None ≡ plan_of c
many_tags c names at name len is within here long found =
    let p : List ℕ → Bool = λ repo. is_short (tags_of c repo) in
    let fails : are_listed c names ≡ false = not_all p names at name within here (le_false (length (tags_of c name)) LIST_LIMIT (omega (arith, long, found))) in
    sym (if_not_second (is_short (repos_of c)) (are_listed c (repos_of c)) (specs_of c (repos_of c))
    (subst (λ (l : List (List ℕ)). are_listed c l ≡ false) is fails))

pub specs_some : (name : List ℕ) (tags : List Tagged) → 0 < length tags → specs_for name tags ≡ spec_of name tags ∷ []
specs_some name [] some = absurd (omega arith)
specs_some name (tag ∷ tags) some = refl
