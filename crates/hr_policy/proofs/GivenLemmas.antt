-- Tests that passed, and lists that were read.
use Rattle.std.proofs.Common.{◌≡◌, ◌≤◌, ◌+◌, suc, Bool, true, false, cond, List, [], ◌∷◌, ◌++◌, length, map, Option, Some, None, option_and_then, Result, Ok, Err, refl, sym, ap, ◌∙◌, arith, length-append}
use Rattle.std.specs.Option.{ok_or, option_to_list}
use Rattle.hr_policy.specs.declared.refusal.ConfigRefused.{ConfigRefused}
use Rattle.hr_setting.specs.Member.{passing}
use Rattle.hr_policy.specs.Step.{◌>>=◌, each, each_some, mapped}
use Rattle.hr_policy.proofs.StepLemmas.{joined-ok}

pub record Given {A B : Type 0} (found : Result A ConfigRefused) (next : A → Result B ConfigRefused) (x : B) : Type 0 where
  pub value : A
  pub is : found ≡ Ok value
  pub then_ : next value ≡ Ok x

pub given : {A B : Type 0} (found : Result A ConfigRefused) (next : A → Result B ConfigRefused) (x : B) → found >>= next ≡ Ok x → Given found next x
given (Ok value) next x e = record { value = value; is = refl; then_ = e }
given (Err why) next x e = absurd cc

pub record Found {A B : Type 0} (o : Option A) (next : A → Result B ConfigRefused) (x : B) : Type 0 where
  pub value : A
  pub is : o ≡ Some value
  pub then_ : next value ≡ Ok x

pub found : {A B : Type 0} (o : Option A) (why : ConfigRefused) (next : A → Result B ConfigRefused) (x : B) → ok_or o why >>= next ≡ Ok x → Found o next x
found (Some value) why next x e = record { value = value; is = refl; then_ = e }
found None why next x e = absurd cc

pub ok-or : {A : Type 0} (o : Option A) (why : ConfigRefused) (x : A) → ok_or o why ≡ Ok x → o ≡ Some x
ok-or (Some y) why x e = cc
ok-or None why x e = absurd cc

chosen : {A : Type 0} (b : Bool) (y x : A) → cond b (Some y) None ≡ Some x → (b ≡ true) × (y ≡ x)
chosen true y x e = (refl, cc)
chosen false y x e = absurd cc

pub record Through {A : Type 0} (test : A → Bool) (o : Option A) (x : A) : Type 0 where
  pub is : o ≡ Some x
  pub passes : test x ≡ true

pub through : {A : Type 0} (test : A → Bool) (o : Option A) (x : A) → option_and_then (passing test) o ≡ Some x → Through test o x
through test (Some y) x e =
    let c = chosen (test y) y x e in
    record { is = ap Some c.1; passes = ap test (sym c.1) ∙ c.0 }
through test None x e = absurd cc

pub record Behind {A B : Type 0} (f : A → Option B) (o : Option A) (y : B) : Type 0 where
  pub value : A
  pub is : o ≡ Some value
  pub gives : f value ≡ Some y

pub behind : {A B : Type 0} (f : A → Option B) (o : Option A) (y : B) → option_and_then f o ≡ Some y → Behind f o y
behind f (Some x) y e = record { value = x; is = refl; gives = e }
behind f None y e = absurd cc

pub mapped-ok : {A B : Type 0} (g : A → B) (r : Result A ConfigRefused) (y : B) → mapped g r ≡ Ok y → (x : A) × (r ≡ Ok x) × (g x ≡ y)
mapped-ok g (Ok x) y e = (x, refl, cc)
mapped-ok g (Err why) y e = absurd cc

-- ---- lists

pub each-back : {A B : Type 0} (f : A → Result B ConfigRefused) (w : B → A) → ((d : A) (x : B) → f d ≡ Ok x → f (w x) ≡ Ok x) → (ds : List A) (xs : List B) → each f ds ≡ Ok xs → each f (map w xs) ≡ Ok xs
each-back f w back [] xs e = let none : [] ≡ xs = cc in rw (← none) refl
each-back f w back (d ∷ ds) xs e =
    let parts = joined-ok (mapped (λ x. x ∷ []) (f d)) (each f ds) xs e in
    let one = mapped-ok (λ x. x ∷ []) (f d) parts.xs parts.first-is in
    let later = each-back f w back ds parts.ys parts.rest-is in
    let whole : xs ≡ one.0 ∷ parts.ys = parts.all-is ∙ ap (λ l. l ++ parts.ys) (sym one.2) in
    rw whole (rw (back d one.0 one.1, later) refl)

pub each-length : {A B : Type 0} (f : A → Result B ConfigRefused) (ds : List A) (xs : List B) → each f ds ≡ Ok xs → length xs ≡ length ds
each-length f [] xs e = let none : [] ≡ xs = cc in ap length (sym none)
each-length f (d ∷ ds) xs e =
    let parts = joined-ok (mapped (λ x. x ∷ []) (f d)) (each f ds) xs e in
    let one = mapped-ok (λ x. x ∷ []) (f d) parts.xs parts.first-is in
    let whole : xs ≡ one.0 ∷ parts.ys = parts.all-is ∙ ap (λ l. l ++ parts.ys) (sym one.2) in
    ap length whole ∙ ap (λ n. suc n) (each-length f ds parts.ys parts.rest-is)

some-one : {A B : Type 0} (f : A → Result (Option B) ConfigRefused) (w : B → A) → ((d : A) (x : B) → f d ≡ Ok (Some x) → f (w x) ≡ Ok (Some x)) → (d : A) (ds : List A) (xs ys : List B) (o : Option B) → f d ≡ Ok o → xs ≡ option_to_list o ++ ys → each_some f (map w ys) ≡ Ok ys → each_some f (map w xs) ≡ Ok xs
some-one f w back d ds xs ys (Some x) is whole later = rw whole (rw (back d x is, later) refl)
some-one f w back d ds xs ys None is whole later = rw whole later

at-most-one : {B : Type 0} (o : Option B) → length (option_to_list o) ≤ 1
at-most-one None = omega arith
at-most-one (Some x) = omega arith

pub some-back : {A B : Type 0} (f : A → Result (Option B) ConfigRefused) (w : B → A) → ((d : A) (x : B) → f d ≡ Ok (Some x) → f (w x) ≡ Ok (Some x)) → (ds : List A) (xs : List B) → each_some f ds ≡ Ok xs → each_some f (map w xs) ≡ Ok xs
some-back f w back [] xs e = let none : [] ≡ xs = cc in rw (← none) refl
some-back f w back (d ∷ ds) xs e =
    let parts = joined-ok (mapped option_to_list (f d)) (each_some f ds) xs e in
    let one = mapped-ok option_to_list (f d) parts.xs parts.first-is in
    some-one f w back d ds xs parts.ys one.0 one.1 (parts.all-is ∙ ap (λ l. l ++ parts.ys) (sym one.2)) (some-back f w back ds parts.ys parts.rest-is)

pub some-length : {A B : Type 0} (f : A → Result (Option B) ConfigRefused) (ds : List A) (xs : List B) → each_some f ds ≡ Ok xs → length xs ≤ length ds
some-length f [] xs e = let none : [] ≡ xs = cc in let n : length xs ≡ 0 = ap length (sym none) in omega (arith, n)
some-length f (d ∷ ds) xs e =
    let parts = joined-ok (mapped option_to_list (f d)) (each_some f ds) xs e in
    let one = mapped-ok option_to_list (f d) parts.xs parts.first-is in
    let whole : xs ≡ option_to_list one.0 ++ parts.ys = parts.all-is ∙ ap (λ l. l ++ parts.ys) (sym one.2) in
    let split : length xs ≡ length (option_to_list one.0) + length parts.ys = ap length whole ∙ length-append _ _ in
    omega (arith, split, at-most-one one.0, some-length f ds parts.ys parts.rest-is)
