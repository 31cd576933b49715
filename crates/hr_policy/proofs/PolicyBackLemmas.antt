-- A policy's value says the policy.
use Rattle.std.proofs.Common.{◌≡◌, ℕ, ℤ, pos, Bool, true, List, map, codes, Option, Some, None, Result, Ok, Err, subst, refl}
use Rattle.serde_json.specs.Data.{Data, boolean, string, number}
use Rattle.serde_json.specs.Find.{as_bool, of_integer}
use Rattle.hr_filter.specs.declared.filter.Filter.{Filter}
use Rattle.hr_policy.specs.declared.config.Policy.{Policy}
use Rattle.hr_policy.specs.declared.key.Key.TheVariants as key
use Rattle.hr_policy.specs.declared.policy.Route.{Route}
use Rattle.hr_policy.specs.declared.refusal.ConfigRefused.{ConfigRefused}
use Rattle.hr_setting.specs.Member.{list_in, may, must, short_text_in, whole_in}
use Rattle.hr_policy.specs.Choice.{count_in, namespace_in, trigger_in}
use Rattle.hr_policy.specs.Filter.{filters_of}
use Rattle.hr_policy.specs.Reading.{policy_of, route_of}
use Rattle.hr_policy.specs.Step.{◌>>=◌, field}
use Rattle.hr_policy.specs.Written.{filter_value, list_value, namespace_text, policy_value, trigger_value, whole_value}
use Rattle.hr_policy.proofs.FilterBackLemmas.{filters-back, filters-from}
use Rattle.hr_policy.proofs.MemberBackLemmas.{count-back, may-back, must-back, namespace-back, no-name, short-back, trigger-back, whole-back}

-- ---- a route by its members, each an option

abbrev route-from : ℕ → Option ℕ → Option ℕ → Option (Option (List ℕ)) → Option ℤ → Result Route ConfigRefused
route-from policy o-src o-dst o-namespace o-replace = do
  src ← field policy key.Src o-src
  dst ← field policy key.Dst o-dst
  namespace ← field policy key.Namespace o-namespace
  replace ← field policy key.Replace o-replace
  Ok (record { src = record { 0 = src }; dst = record { 0 = dst }; namespace = namespace; replace = replace })

pub record SaidRoute (o-src o-dst : Option ℕ) (o-namespace : Option (Option (List ℕ))) (o-replace : Option ℤ) (r : Route) : Type 0 where
  pub src : o-src ≡ Some r.src.0
  pub dst : o-dst ≡ Some r.dst.0
  pub namespace : o-namespace ≡ Some r.namespace
  pub replace : o-replace ≡ Some r.replace

pub said-route : (policy : ℕ) (o-src o-dst : Option ℕ) (o-namespace : Option (Option (List ℕ))) (o-replace : Option ℤ) (r : Route) → route-from policy o-src o-dst o-namespace o-replace ≡ Ok r → SaidRoute o-src o-dst o-namespace o-replace r
said-route policy (Some src) (Some dst) (Some namespace) (Some replace) r e =
    let made : Route = record { src = record { 0 = src }; dst = record { 0 = dst }; namespace = namespace; replace = replace } in
    let same : made ≡ r = cc in
    subst (λ (q : Route). SaidRoute (Some src) (Some dst) (Some namespace) (Some replace) q) same (record { src = refl; dst = refl; namespace = refl; replace = refl })
said-route policy None o-dst o-namespace o-replace r e = absurd cc
said-route policy (Some src) None o-namespace o-replace r e = absurd cc
said-route policy (Some src) (Some dst) None o-replace r e = absurd cc
said-route policy (Some src) (Some dst) (Some namespace) None r e = absurd cc

says-route : (policy : ℕ) (o-src o-dst : Option ℕ) (o-namespace : Option (Option (List ℕ))) (o-replace : Option ℤ) (r : Route) → SaidRoute o-src o-dst o-namespace o-replace r → route-from policy o-src o-dst o-namespace o-replace ≡ Ok r
says-route policy o-src o-dst o-namespace o-replace r s = rw (s.src, s.dst, s.namespace, s.replace) refl

-- the route of a policy
abbrev pub route-in : Policy → Route
route-in p = record { src = p.src; dst = p.dst; namespace = p.namespace; replace = p.replace }

route-back : (policy : ℕ) (d : Data) (r : Route) → route_of policy d ≡ Ok r
    → route-from policy (whole_in 1 250 (whole_value r.src.0)) (whole_in 1 250 (whole_value r.dst.0)) (namespace_in (string (namespace_text r.namespace))) (count_in (number (of_integer r.replace))) ≡ Ok r
route-back policy d r e =
    let s = said-route policy (must (whole_in 1 250) (codes "src") d) (must (whole_in 1 250) (codes "dst") d) (may None namespace_in (codes "namespace") d) (may (pos 1) count_in (codes "replace") d) r e in
    says-route policy (whole_in 1 250 (whole_value r.src.0)) (whole_in 1 250 (whole_value r.dst.0)) (namespace_in (string (namespace_text r.namespace))) (count_in (number (of_integer r.replace))) r
    (record {
      src = must-back (whole_in 1 250) whole_value (codes "src") d r.src.0 (whole-back 1 250) s.src;
      dst = must-back (whole_in 1 250) whole_value (codes "dst") d r.dst.0 (whole-back 1 250) s.dst;
      namespace = may-back None namespace_in (λ o. string (namespace_text o)) (codes "namespace") d r.namespace namespace-back no-name s.namespace;
      replace = may-back (pos 1) count_in (λ z. number (of_integer z)) (codes "replace") d r.replace count-back refl s.replace;
    })

-- ---- a policy by its members, each an option

abbrev policy-from : Option ℕ → Option (List ℕ) → Option Bool → (ℕ → Result Route ConfigRefused) → Option Bool → Option ℕ → Option (Option (List ℕ)) → (ℕ → Result (List Filter) ConfigRefused) → Result Policy ConfigRefused
policy-from o-id o-name o-enabled route-at o-override o-attempts o-cron filters-at = do
  id ← field 0 key.Id o-id
  name ← field id key.Name o-name
  enabled ← field id key.Enabled o-enabled
  route ← route-at id
  overrides ← field id key.Override o-override
  attempts ← field id key.Attempts o-attempts
  cron ← field id key.Trigger o-cron
  filters ← filters-at id
  Ok (record {
    id = record { 0 = id };
    name = name;
    enabled = enabled;
    src = route.src;
    dst = route.dst;
    namespace = route.namespace;
    replace = route.replace;
    override_it = overrides;
    attempts = attempts;
    cron = cron;
    filters = filters;
  })

pub record Said (o-id : Option ℕ) (o-name : Option (List ℕ)) (o-enabled : Option Bool) (route-at : ℕ → Result Route ConfigRefused) (o-override : Option Bool) (o-attempts : Option ℕ) (o-cron : Option (Option (List ℕ))) (filters-at : ℕ → Result (List Filter) ConfigRefused) (p : Policy) : Type 0 where
  pub id : o-id ≡ Some p.id.0
  pub name : o-name ≡ Some p.name
  pub enabled : o-enabled ≡ Some p.enabled
  pub route : route-at p.id.0 ≡ Ok (route-in p)
  pub overrides : o-override ≡ Some p.override_it
  pub attempts : o-attempts ≡ Some p.attempts
  pub cron : o-cron ≡ Some p.cron
  pub filters : filters-at p.id.0 ≡ Ok p.filters

abbrev made-of : ℕ → List ℕ → Bool → Route → Bool → ℕ → Option (List ℕ) → List Filter → Policy
made-of id name enabled route overrides attempts cron filters = record {
  id = record { 0 = id };
  name = name;
  enabled = enabled;
  src = route.src;
  dst = route.dst;
  namespace = route.namespace;
  replace = route.replace;
  override_it = overrides;
  attempts = attempts;
  cron = cron;
  filters = filters;
}

said-last : (id : ℕ) (name : List ℕ) (enabled : Bool) (route-at : ℕ → Result Route ConfigRefused) (route : Route) (overrides : Bool) (attempts : ℕ) (cron : Option (List ℕ)) (filters-at : ℕ → Result (List Filter) ConfigRefused) (r : Result (List Filter) ConfigRefused) (p : Policy)
    → route-at id ≡ Ok route → filters-at id ≡ r → r >>= (λ filters. Ok (made-of id name enabled route overrides attempts cron filters)) ≡ Ok p
    → Said (Some id) (Some name) (Some enabled) route-at (Some overrides) (Some attempts) (Some cron) filters-at p
said-last id name enabled route-at route overrides attempts cron filters-at (Ok filters) p there is e =
    let made : Policy = made-of id name enabled route overrides attempts cron filters in
    let same : made ≡ p = cc in
    subst (λ (q : Policy). Said (Some id) (Some name) (Some enabled) route-at (Some overrides) (Some attempts) (Some cron) filters-at q) same
    (record { id = refl; name = refl; enabled = refl; route = there; overrides = refl; attempts = refl; cron = refl; filters = is })
said-last id name enabled route-at route overrides attempts cron filters-at (Err why) p there is e = absurd cc

said-routed : (id : ℕ) (name : List ℕ) (enabled : Bool) (route-at : ℕ → Result Route ConfigRefused) (r : Result Route ConfigRefused) (o-override : Option Bool) (o-attempts : Option ℕ) (o-cron : Option (Option (List ℕ))) (filters-at : ℕ → Result (List Filter) ConfigRefused) (p : Policy)
    → route-at id ≡ r
    → r >>= (λ route. field id key.Override o-override >>= (λ overrides. field id key.Attempts o-attempts >>= (λ attempts. field id key.Trigger o-cron >>= (λ cron. filters-at id >>= (λ filters. Ok (made-of id name enabled route overrides attempts cron filters)))))) ≡ Ok p
    → Said (Some id) (Some name) (Some enabled) route-at o-override o-attempts o-cron filters-at p
said-routed id name enabled route-at (Ok route) (Some overrides) (Some attempts) (Some cron) filters-at p there e =
    said-last id name enabled route-at route overrides attempts cron filters-at (filters-at id) p there refl e
said-routed id name enabled route-at (Err why) o-override o-attempts o-cron filters-at p there e = absurd cc
said-routed id name enabled route-at (Ok route) None o-attempts o-cron filters-at p there e = absurd cc
said-routed id name enabled route-at (Ok route) (Some overrides) None o-cron filters-at p there e = absurd cc
said-routed id name enabled route-at (Ok route) (Some overrides) (Some attempts) None filters-at p there e = absurd cc

pub said : (o-id : Option ℕ) (o-name : Option (List ℕ)) (o-enabled : Option Bool) (route-at : ℕ → Result Route ConfigRefused) (o-override : Option Bool) (o-attempts : Option ℕ) (o-cron : Option (Option (List ℕ))) (filters-at : ℕ → Result (List Filter) ConfigRefused) (p : Policy)
    → policy-from o-id o-name o-enabled route-at o-override o-attempts o-cron filters-at ≡ Ok p → Said o-id o-name o-enabled route-at o-override o-attempts o-cron filters-at p
said (Some id) (Some name) (Some enabled) route-at o-override o-attempts o-cron filters-at p e =
    said-routed id name enabled route-at (route-at id) o-override o-attempts o-cron filters-at p refl e
said None name enabled route-at o-override o-attempts o-cron filters-at p e = absurd cc
said (Some id) None enabled route-at o-override o-attempts o-cron filters-at p e = absurd cc
said (Some id) (Some name) None route-at o-override o-attempts o-cron filters-at p e = absurd cc

says : (o-id : Option ℕ) (o-name : Option (List ℕ)) (o-enabled : Option Bool) (route-at : ℕ → Result Route ConfigRefused) (o-override : Option Bool) (o-attempts : Option ℕ) (o-cron : Option (Option (List ℕ))) (filters-at : ℕ → Result (List Filter) ConfigRefused) (p : Policy)
    → Said o-id o-name o-enabled route-at o-override o-attempts o-cron filters-at p → policy-from o-id o-name o-enabled route-at o-override o-attempts o-cron filters-at ≡ Ok p
says o-id o-name o-enabled route-at o-override o-attempts o-cron filters-at p s =
    rw (s.id, s.name, s.enabled, s.route, s.overrides, s.attempts, s.cron, s.filters) refl

-- what a value says as a policy, member by member
pub policy-said : (d : Data) (p : Policy) → policy_of d ≡ Ok p
    → Said (must (whole_in 1 4294967295) (codes "id") d) (must (short_text_in 255) (codes "name") d) (may true as_bool (codes "enabled") d) (λ id. route_of id d) (may true as_bool (codes "override") d) (may 3 (whole_in 1 4) (codes "attempts") d) (may None trigger_in (codes "trigger") d) (λ id. filters_of id d) p
policy-said d p e =
    said (must (whole_in 1 4294967295) (codes "id") d) (must (short_text_in 255) (codes "name") d) (may true as_bool (codes "enabled") d) (λ id. route_of id d) (may true as_bool (codes "override") d) (may 3 (whole_in 1 4) (codes "attempts") d) (may None trigger_in (codes "trigger") d) (λ id. filters_of id d) p e

pub policy-back : (d : Data) (p : Policy) → policy_of d ≡ Ok p → policy_of (policy_value p) ≡ Ok p
policy-back d p e =
    let s = policy-said d p e in
    says (whole_in 1 4294967295 (whole_value p.id.0)) (short_text_in 255 (string p.name)) (as_bool (boolean p.enabled))
    (λ id. route-from id (whole_in 1 250 (whole_value p.src.0)) (whole_in 1 250 (whole_value p.dst.0)) (namespace_in (string (namespace_text p.namespace))) (count_in (number (of_integer p.replace))))
    (as_bool (boolean p.override_it)) (whole_in 1 4 (whole_value p.attempts)) (trigger_in (trigger_value p.cron)) (λ id. filters-from id (list_in 16 (list_value (map filter_value p.filters)))) p
    (record {
      id = must-back (whole_in 1 4294967295) whole_value (codes "id") d p.id.0 (whole-back 1 4294967295) s.id;
      name = must-back (short_text_in 255) (λ t. string t) (codes "name") d p.name (short-back 255) s.name;
      enabled = refl;
      route = route-back p.id.0 d (route-in p) s.route;
      overrides = refl;
      attempts = may-back 3 (whole_in 1 4) whole_value (codes "attempts") d p.attempts (whole-back 1 4) refl s.attempts;
      cron = may-back None trigger_in trigger_value (codes "trigger") d p.cron trigger-back refl s.cron;
      filters = filters-back p.id.0 d p.filters s.filters;
    })
