-- Each member reads back what is written for it.
use Rattle.std.proofs.Common.{◌≡◌, ◌≤◌, ◌^◌, ◌&&◌, ℕ, pos, negsuc, nat_le, nat_lt, Bool, true, false, cond, List, [], ◌∷◌, length, codes, Option, Some, None, option_and_then, option_map, refl, ap, arith, rules, tests}
use Rattle.std.specs.Option.{option_map_or}
use Rattle.std.specs.Str.{is_utf8}
use Rattle.std.proofs.lemmas.Bool.{eqb-true}
use Rattle.std.proofs.lemmas.Str.{IsUtf8-nil, is_utf8-from_IsUtf8}
use Rattle.serde_json.specs.Data.{Data, boolean, number, string}
use Rattle.serde_json.specs.Find.{as_bool, as_i64, as_number, as_str, as_u64, get, of_integer}
use Rattle.serde_json.specs.View.{items_of}
use Rattle.hr_name.specs.Place.{is_name}
use Rattle.hr_name.specs.declared.name.TheConstants.{NAME_LIMIT}
use Rattle.hr_json.specs.Node.{items_in, list_of}
use Rattle.hr_policy.specs.declared.config.Kind.{Kind}
use Rattle.hr_policy.specs.declared.config.Kind.TheVariants as kind
use Rattle.hr_filter.specs.declared.filter.Decoration.TheVariants as decoration
use Rattle.hr_setting.specs.Member.{list_in, may, must, short_text_in, text_in, whole_in}
use Rattle.hr_policy.specs.Choice.{count_in, cron_in, decoration_in, is_count, is_empty, is_manual, is_place, kind_in, namespace_in, namespace_named, pattern_in, place_in, trigger_in}
use Rattle.hr_policy.specs.Written.{decoration_text, kind_text, list_value, namespace_text, trigger_value, whole_value}
use Rattle.hr_policy.proofs.GivenLemmas.{through, behind}

-- what a reader gives it gives again of what is written for that
abbrev pub Back : {A : Type 0} → (Data → Option A) → (A → Data) → Type 0
Back {A = A} reader writer = (d : Data) (x : A) → reader d ≡ Some x → reader (writer x) ≡ Some x

pub whole-back : (low high : ℕ) → Back (whole_in low high) whole_value
whole-back low high d n e =
    let t = through (λ n. nat_le low n && nat_le n high) (option_and_then as_u64 (as_number d)) n e in
    rw t.passes refl

pub text-back : Back text_in (λ s. string s)
text-back d s e = let t = through is_utf8 (as_str d) s e in rw t.passes refl

pub short-back : (high : ℕ) → Back (short_text_in high) (λ s. string s)
short-back high d s e =
    let t = through (λ text. nat_le (length text) high) (text_in d) s e in
    rw (text-back d s t.is) (rw t.passes refl)

named-cases : (text : List ℕ) (empty named : Bool) (o : Option (List ℕ)) → is_empty text ≡ empty → cond empty (Some None) (option_map (λ t. Some t) (cond named (Some text) None)) ≡ Some o → namespace_text o ≡ text
named-cases [] true named o is e = let none : None ≡ o = cc in rw (← none) refl
named-cases (b ∷ text) true named o is e = absurd (let n : length (b ∷ text) ≡ 0 = eqb-true _ _ is in omega (arith, n))
named-cases text false true o is e = let same : Some text ≡ o = cc in rw (← same) refl
named-cases text false false o is e = absurd cc

named-is : (text : List ℕ) (o : Option (List ℕ)) → namespace_named text ≡ Some o → namespace_text o ≡ text
named-is text o e = named-cases text (is_empty text) (is_name text && nat_le (length text) NAME_LIMIT) o refl e

pub no-name : namespace_in (string []) ≡ Some None
no-name = let text : is_utf8 [] ≡ true = is_utf8-from_IsUtf8 [] IsUtf8-nil in rw text refl

pub namespace-back : Back namespace_in (λ o. string (namespace_text o))
namespace-back d o e =
    let b = behind namespace_named (text_in d) o e in
    rw (named-is b.value o b.gives) (rw (text-back d b.value b.is) b.gives)

pub count-back : Back count_in (λ z. number (of_integer z))
count-back d (pos n) e =
    let t = through is_count (option_and_then as_i64 (as_number d)) (pos n) e in
    let few : nat_le n 3 ≡ true = t.passes in
    let small : n ≤ 3 = search (rules, tests) in
    let fits : nat_lt n (2 ^ 63) ≡ true = search (arith, tests) in
    rw fits (rw few refl)
count-back d (negsuc n) e =
    let t = through is_count (option_and_then as_i64 (as_number d)) (negsuc n) e in
    rw t.passes refl

pub kind-back : Back kind_in (λ k. string (kind_text k))
kind-back d kind.Memory e = refl
kind-back d kind.Folder e = refl
kind-back d kind.Http e = refl

pub place-back : (kind : Kind) → Back (place_in kind) (λ s. string s)
place-back kind d s e =
    let t = through (is_place kind) (text_in d) s e in
    rw (text-back d s t.is) (rw t.passes refl)

pub flag-back : Back as_bool (λ b. boolean b)
flag-back d b e = refl

pub decoration-back : Back decoration_in (λ k. string (decoration_text k))
decoration-back d decoration.Matches e = refl
decoration-back d decoration.Excludes e = refl

cron-back : Back cron_in (λ s. string s)
cron-back d s e =
    let t = through _ (text_in d) s e in
    rw (text-back d s t.is) (rw t.passes refl)

pub some-cron : (b : Bool) (o : Option (List ℕ)) (cron : List ℕ) → cond b (Some None) (option_map (λ text. Some text) o) ≡ Some (Some cron) → o ≡ Some cron
some-cron true o cron e = absurd cc
some-cron false (Some text) cron e = cc
some-cron false None cron e = absurd cc

pub trigger-back : Back trigger_in trigger_value
trigger-back d None e = refl
trigger-back d (Some cron) e =
    let o = some-cron (is_manual d) (must cron_in (codes "cron") d) cron e in
    let b = behind cron_in (get (codes "cron") d) cron o in
    rw (cron-back b.value cron b.gives) refl

pub pattern-back : Back pattern_in (λ s. string s)
pattern-back d s e =
    let t = through _ (text_in d) s e in
    rw (text-back d s t.is) (rw t.passes refl)

-- ---- members

pub must-back : {A : Type 0} (reader : Data → Option A) (writer : A → Data) (name : List ℕ) (d : Data) (x : A) → Back reader writer → must reader name d ≡ Some x → reader (writer x) ≡ Some x
must-back reader writer name d x back e = let b = behind reader (get name d) x e in back b.value x b.gives

may-by : {A : Type 0} (default : A) (reader : Data → Option A) (writer : A → Data) (o : Option Data) (x : A) → Back reader writer → reader (writer default) ≡ Some default → option_map_or reader o (Some default) ≡ Some x → reader (writer x) ≡ Some x
may-by default reader writer (Some d) x back first e = back d x e
may-by default reader writer None x back first e = let same : default ≡ x = cc in rw (← same) first

pub may-back : {A : Type 0} (default : A) (reader : Data → Option A) (writer : A → Data) (name : List ℕ) (d : Data) (x : A) → Back reader writer → reader (writer default) ≡ Some default → may default reader name d ≡ Some x → reader (writer x) ≡ Some x
may-back default reader writer name d x back first e = may-by default reader writer (get name d) x back first e

-- ---- lists

pub list_of-items_of : (ds : List Data) → list_of (items_of ds) ≡ ds
list_of-items_of [] = refl
list_of-items_of (d ∷ ds) = ap (λ r. d ∷ r) (list_of-items_of ds)

pub list-written : (high : ℕ) (ds : List Data) → length ds ≤ high → list_in high (list_value ds) ≡ Some ds
list-written high ds few =
    let test : nat_le (length ds) high ≡ true = search (arith, tests) in
    rw (list_of-items_of ds) (rw test refl)

pub list-few : (high : ℕ) (d : Data) (ds : List Data) → list_in high d ≡ Some ds → length ds ≤ high
list-few high d ds e =
    let t = through (λ items. nat_le (length items) high) (items_in d) ds e in
    let test : nat_le (length ds) high ≡ true = t.passes in
    search (rules, tests)
