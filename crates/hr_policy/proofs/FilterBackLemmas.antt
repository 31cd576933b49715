-- A filter's value says the filter.
use Rattle.std.proofs.Common.{◌≡◌, ◌≤◌, ℕ, Bool, true, false, cond, List, [], ◌∷◌, length, map, codes, Option, Some, None, option_and_then, Result, Ok, Err, suc, subst, refl, sym, ap, arith}
use Rattle.std.specs.Option.{option_map_or}
use Rattle.serde_json.specs.Data.{Data, string}
use Rattle.serde_json.specs.Find.{get}
use Rattle.hr_json.specs.Node.{items_in}
use Rattle.hr_filter.specs.declared.filter.Decoration.{Decoration}
use Rattle.hr_filter.specs.declared.filter.Decoration.TheVariants as decoration
use Rattle.hr_filter.specs.declared.filter.Filter.{Filter}
use Rattle.hr_filter.specs.declared.filter.Filter.TheVariants as filter
use Rattle.hr_setting.specs.Member.{list_in, may, must, passing, text_in}
use Rattle.hr_policy.specs.declared.choice.FilterKind.{FilterKind}
use Rattle.hr_policy.specs.declared.choice.FilterKind.TheVariants as filter_kind
use Rattle.hr_policy.specs.declared.key.Key.TheVariants as key
use Rattle.hr_policy.specs.declared.refusal.ConfigRefused.{ConfigRefused}
use Rattle.hr_policy.specs.Choice.{decoration_in, filter_kind_in, is_empty, is_matches, label_in, pattern_in, resource_in}
use Rattle.hr_policy.specs.Filter.{decoration_of, filter_by, filter_of, filters_of, labelled, labels_of, patterned, resourced}
use Rattle.hr_policy.specs.Step.{◌>>=◌, each, each_some, field}
use Rattle.hr_policy.specs.Written.{decoration_text, filter_value, list_value}
use Rattle.hr_policy.proofs.GivenLemmas.{each-back, found, ok-or, some-back, some-length, through}
use Rattle.hr_policy.proofs.MemberBackLemmas.{decoration-back, list-few, list-written, list_of-items_of, may-back, must-back, pattern-back, text-back}

-- the decoration that a filter has or hasn't is read again where it is written
decoration_of-back : (d : Data) (k : Decoration) → decoration_of d ≡ Some k → decoration_in (string (decoration_text k)) ≡ Some k
decoration_of-back d k e = may-back decoration.Matches decoration_in (λ k. string (decoration_text k)) (codes "decoration") d k decoration-back refl e

some-made : (b : Bool) (g f : Filter) → cond b None (Some g) ≡ Some f → (b ≡ false) × (g ≡ f)
some-made true g f e = absurd cc
some-made false g f e = (refl, cc)

-- a filter of a pattern by its members
pub record Patterned (o-pattern : Option (List ℕ)) (o-decoration : Option Decoration) (made : List ℕ → Decoration → Filter) (f : Filter) : Type 0 where
  pub pattern : List ℕ
  pub decoration : Decoration
  pub pattern-is : o-pattern ≡ Some pattern
  pub decoration-is : o-decoration ≡ Some decoration
  pub some : is_empty pattern ≡ false
  pub made-is : made pattern decoration ≡ f

abbrev patterned-from : (List ℕ → Decoration → Filter) → ℕ → Option (List ℕ) → Option Decoration → Result (Option Filter) ConfigRefused
patterned-from made policy o-pattern o-decoration = do
  pattern ← field policy key.Value o-pattern
  decoration ← field policy key.Decoration o-decoration
  Ok (cond (is_empty pattern) None (Some (made pattern decoration)))

pub patterned-parts : (made : List ℕ → Decoration → Filter) (policy : ℕ) (o-pattern : Option (List ℕ)) (o-decoration : Option Decoration) (f : Filter) → patterned-from made policy o-pattern o-decoration ≡ Ok (Some f) → Patterned o-pattern o-decoration made f
patterned-parts made policy (Some pattern) (Some decoration) f e =
    let inner : cond (is_empty pattern) None (Some (made pattern decoration)) ≡ Some f = cc in
    let s = some-made (is_empty pattern) (made pattern decoration) f inner in
    record { pattern = pattern; decoration = decoration; pattern-is = refl; decoration-is = refl; some = s.0; made-is = s.1 }
patterned-parts made policy None o-decoration f e = absurd cc
patterned-parts made policy (Some pattern) None f e = absurd cc

patterned-says : (made : List ℕ → Decoration → Filter) (policy : ℕ) (o-pattern : Option (List ℕ)) (o-decoration : Option Decoration) (pattern : List ℕ) (decoration : Decoration) → o-pattern ≡ Some pattern → o-decoration ≡ Some decoration → is_empty pattern ≡ false
    → patterned-from made policy o-pattern o-decoration ≡ Ok (Some (made pattern decoration))
patterned-says made policy o-pattern o-decoration pattern decoration p d some = rw (p, d) (rw some refl)

name-back : (policy : ℕ) (d : Data) (f : Filter) → patterned filter.Name policy d ≡ Ok (Some f) → filter_of policy (filter_value f) ≡ Ok (Some f)
name-back policy d f e =
    let s = patterned-parts filter.Name policy (must pattern_in (codes "value") d) (decoration_of d) f e in
    subst (λ (g : Filter). filter_of policy (filter_value g) ≡ Ok (Some g)) s.made-is
    (patterned-says filter.Name policy (pattern_in (string s.pattern)) (decoration_in (string (decoration_text s.decoration))) s.pattern s.decoration
    (must-back pattern_in (λ t. string t) (codes "value") d s.pattern pattern-back s.pattern-is)
    (decoration_of-back d s.decoration s.decoration-is) s.some)

tag-back : (policy : ℕ) (d : Data) (f : Filter) → patterned filter.Tag policy d ≡ Ok (Some f) → filter_of policy (filter_value f) ≡ Ok (Some f)
tag-back policy d f e =
    let s = patterned-parts filter.Tag policy (must pattern_in (codes "value") d) (decoration_of d) f e in
    subst (λ (g : Filter). filter_of policy (filter_value g) ≡ Ok (Some g)) s.made-is
    (patterned-says filter.Tag policy (pattern_in (string s.pattern)) (decoration_in (string (decoration_text s.decoration))) s.pattern s.decoration
    (must-back pattern_in (λ t. string t) (codes "value") d s.pattern pattern-back s.pattern-is)
    (decoration_of-back d s.decoration s.decoration-is) s.some)

label-read : (policy : ℕ) (d : Data) (l : List ℕ) → field policy key.Value (label_in d) ≡ Ok l → field policy key.Value (label_in (string l)) ≡ Ok l
label-read policy d l e =
    let t = through _ (text_in d) l (ok-or (label_in d) _ l e) in
    rw (text-back d l t.is) (rw t.passes refl)

abbrev labels-from : ℕ → Option (List Data) → Result (List (List ℕ)) ConfigRefused
labels-from policy o-items = do
  items ← field policy key.Value o-items
  each (λ item. field policy key.Value (label_in item)) items

labels-back : (policy : ℕ) (o-items : Option (List Data)) (labels : List (List ℕ)) → labels-from policy o-items ≡ Ok labels → labels-from policy (Some (map (λ l. string l) labels)) ≡ Ok labels
labels-back policy (Some items) labels e = each-back (λ item. field policy key.Value (label_in item)) (λ l. string l) (label-read policy) items labels e
labels-back policy None labels e = absurd cc

labels-written : (policy : ℕ) (o : Option (List Data)) (items : List Data) (labels : List (List ℕ)) → o ≡ Some items → labels-from policy (Some items) ≡ Ok labels → labels-from policy o ≡ Ok labels
labels-written policy o items labels is e = rw is e

pub record Labelled (r : Result (List (List ℕ)) ConfigRefused) (o-decoration : Option Decoration) (f : Filter) : Type 0 where
  pub labels : List (List ℕ)
  pub decoration : Decoration
  pub labels-is : r ≡ Ok labels
  pub decoration-is : o-decoration ≡ Some decoration
  pub made-is : filter.Label labels decoration ≡ f

abbrev labelled-from : ℕ → Result (List (List ℕ)) ConfigRefused → Option Decoration → Result (Option Filter) ConfigRefused
labelled-from policy r o-decoration = do
  labels ← r
  decoration ← field policy key.Decoration o-decoration
  Ok (Some (filter.Label labels decoration))

pub labelled-parts : (policy : ℕ) (r : Result (List (List ℕ)) ConfigRefused) (o-decoration : Option Decoration) (f : Filter) → labelled-from policy r o-decoration ≡ Ok (Some f) → Labelled r o-decoration f
labelled-parts policy (Ok labels) (Some decoration) f e = record { labels = labels; decoration = decoration; labels-is = refl; decoration-is = refl; made-is = cc }
labelled-parts policy (Err why) o-decoration f e = absurd cc
labelled-parts policy (Ok labels) None f e = absurd cc

labelled-says : (policy : ℕ) (r : Result (List (List ℕ)) ConfigRefused) (o-decoration : Option Decoration) (labels : List (List ℕ)) (decoration : Decoration) → r ≡ Ok labels → o-decoration ≡ Some decoration
    → labelled-from policy r o-decoration ≡ Ok (Some (filter.Label labels decoration))
labelled-says policy r o-decoration labels decoration l d = rw (l, d) refl

label-back : (policy : ℕ) (d : Data) (f : Filter) → labelled policy d ≡ Ok (Some f) → filter_of policy (filter_value f) ≡ Ok (Some f)
label-back policy d f e =
    let s = labelled-parts policy (labels_of policy d) (decoration_of d) f e in
    let written = map (λ l. string l) s.labels in
    subst (λ (g : Filter). filter_of policy (filter_value g) ≡ Ok (Some g)) s.made-is
    (labelled-says policy (labels-from policy (items_in (list_value written))) (decoration_in (string (decoration_text s.decoration))) s.labels s.decoration
    (labels-written policy (items_in (list_value written)) written s.labels (ap Some (list_of-items_of written)) (labels-back policy (must items_in (codes "value") d) s.labels s.labels-is))
    (decoration_of-back d s.decoration s.decoration-is))

-- a filter by resource by its members
abbrev resourced-from : ℕ → Option (List ℕ) → Option Decoration → Result (Option Filter) ConfigRefused
resourced-from policy o-resource o-decoration = do
  resource ← field policy key.Value o-resource
  decoration ← field policy key.Decoration o-decoration
  Ok (Some filter.Resource)

pub resource-made : (policy : ℕ) (o-resource : Option (List ℕ)) (o-decoration : Option Decoration) (f : Filter) → resourced-from policy o-resource o-decoration ≡ Ok (Some f) → filter.Resource ≡ f
resource-made policy (Some resource) (Some decoration) f e = cc
resource-made policy None o-decoration f e = absurd cc
resource-made policy (Some resource) None f e = absurd cc

resource-back : (policy : ℕ) (d : Data) (f : Filter) → resourced policy d ≡ Ok (Some f) → filter_of policy (filter_value f) ≡ Ok (Some f)
resource-back policy d f e =
    let made = resource-made policy (must resource_in (codes "value") d) (option_and_then (passing is_matches) (decoration_of d)) f e in
    subst (λ (g : Filter). filter_of policy (filter_value g) ≡ Ok (Some g)) made refl

by-back : (kind : FilterKind) (policy : ℕ) (d : Data) (f : Filter) → filter_by kind policy d ≡ Ok (Some f) → filter_of policy (filter_value f) ≡ Ok (Some f)
by-back filter_kind.Name policy d f e = name-back policy d f e
by-back filter_kind.Tag policy d f e = tag-back policy d f e
by-back filter_kind.Label policy d f e = label-back policy d f e
by-back filter_kind.Resource policy d f e = resource-back policy d f e

pub filter-back : (policy : ℕ) (d : Data) (f : Filter) → filter_of policy d ≡ Ok (Some f) → filter_of policy (filter_value f) ≡ Ok (Some f)
filter-back policy d f e =
    let k = found (must filter_kind_in (codes "kind") d) _ _ (Some f) e in
    by-back k.value policy d f k.then_

abbrev pub filters-from : ℕ → Option (List Data) → Result (List Filter) ConfigRefused
filters-from policy o-items = do
  items ← field policy key.Filters o-items
  each_some (filter_of policy) items

may-few-of : (high : ℕ) (o : Option Data) (items : List Data) → option_map_or (list_in high) o (Some []) ≡ Some items → length items ≤ high
may-few-of high (Some d) items e = list-few high d items e
may-few-of high None items e = let none : [] ≡ items = cc in let n : length items ≡ 0 = ap length (sym none) in omega (arith, n)

may-few : (high : ℕ) (d : Data) (items : List Data) → may [] (list_in high) (codes "filters") d ≡ Some items → length items ≤ high
may-few high d items e = may-few-of high (get (codes "filters") d) items e

pub length-map : {A B : Type 0} (f : A → B) (xs : List A) → length (map f xs) ≡ length xs
length-map f [] = refl
length-map f (x ∷ xs) = ap (λ n. suc n) (length-map f xs)

pub filters-back : (policy : ℕ) (d : Data) (fs : List Filter) → filters_of policy d ≡ Ok fs → filters-from policy (list_in 16 (list_value (map filter_value fs))) ≡ Ok fs
filters-back policy d fs e =
    let items = found (may [] (list_in 16) (codes "filters") d) _ _ fs e in
    let few : length (map filter_value fs) ≤ 16 = omega (arith, length-map filter_value fs, some-length (filter_of policy) items.value fs items.then_, may-few 16 d items.value items.is) in
    rw (list-written 16 (map filter_value fs) few) (some-back (filter_of policy) filter_value (filter-back policy) items.value fs items.then_)
