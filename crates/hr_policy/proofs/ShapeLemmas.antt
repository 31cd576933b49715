-- A configuration's value nests little and has no float.
use Rattle.std.proofs.Common.{◌≡◌, ◌≤◌, ℕ, ℤ, pos, negsuc, false, List, [], ◌∷◌, map, Option, Some, None, refl, arith}
use Rattle.serde_json.specs.Data.{Data, string, depth, items_depth}
use Rattle.serde_json.specs.Find.{is_float, of_integer}
use Rattle.serde_json.specs.View.{items_of}
use Rattle.serde_json.specs.Written.{has_float, items_have_float}
use Rattle.hr_policy.specs.declared.config.Config.{Config}
use Rattle.hr_policy.specs.declared.config.RegAt.{RegAt}
use Rattle.hr_policy.specs.declared.config.Policy.{Policy}
use Rattle.hr_filter.specs.declared.filter.Filter.{Filter}
use Rattle.hr_filter.specs.declared.filter.Filter.TheVariants as filter
use Rattle.hr_policy.specs.Written.{config_value, filter_value, policy_value, registry_value, trigger_value}

list-depth : {A : Type 0} (w : A → Data) (n : ℕ) → ((x : A) → depth (w x) ≤ n) → (xs : List A) → items_depth (items_of (map w xs)) ≤ n
list-depth w n h [] = omega arith
list-depth w n h (x ∷ xs) = omega (arith, h x, list-depth w n h xs)

list-float : {A : Type 0} (w : A → Data) → ((x : A) → has_float (w x) ≡ false) → (xs : List A) → items_have_float (items_of (map w xs)) ≡ false
list-float w h [] = refl
list-float w h (x ∷ xs) = rw (h x) (list-float w h xs)

filter-depth : (f : Filter) → depth (filter_value f) ≤ 2
filter-depth (filter.Name p d) = omega arith
filter-depth (filter.Tag p d) = omega arith
filter-depth (filter.Label ls d) = omega (arith, list-depth (λ l. string l) 0 (λ l. omega arith) ls)
filter-depth filter.Resource = omega arith

filter-float : (f : Filter) → has_float (filter_value f) ≡ false
filter-float (filter.Name p d) = refl
filter-float (filter.Tag p d) = refl
filter-float (filter.Label ls d) = rw (list-float (λ l. string l) (λ l. refl) ls) refl
filter-float filter.Resource = refl

trigger-depth : (o : Option (List ℕ)) → depth (trigger_value o) ≤ 1
trigger-depth None = omega arith
trigger-depth (Some c) = omega arith

trigger-float : (o : Option (List ℕ)) → has_float (trigger_value o) ≡ false
trigger-float None = refl
trigger-float (Some c) = refl

count-float : (z : ℤ) → is_float (of_integer z) ≡ false
count-float (pos n) = refl
count-float (negsuc n) = refl

policy-depth : (p : Policy) → depth (policy_value p) ≤ 4
policy-depth p = omega (arith, list-depth filter_value 2 filter-depth p.filters, trigger-depth p.cron)

policy-float : (p : Policy) → has_float (policy_value p) ≡ false
policy-float p = rw (list-float filter_value filter-float p.filters) (rw (count-float p.replace) (rw (trigger-float p.cron) refl))

registry-depth : (r : RegAt) → depth (registry_value r) ≤ 1
registry-depth r = omega arith

pub config-depth : (c : Config) → depth (config_value c) ≤ 127
config-depth c = omega (arith, list-depth policy_value 4 policy-depth c.policies, list-depth registry_value 1 registry-depth c.registries)

pub config-float : (c : Config) → has_float (config_value c) ≡ false
config-float c = rw (list-float policy_value policy-float c.policies) (rw (list-float registry_value (λ r. refl) c.registries) refl)
