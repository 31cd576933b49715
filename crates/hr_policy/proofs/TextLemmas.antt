-- The texts of a configuration that was read are in UTF-8.
use Rattle.std.proofs.Common.{◌≡◌, ℕ, pos, Bool, cond, List, [], ◌∷◌, ◌++◌, codes, Option, Some, None, option_and_then, Result, Ok, subst, refl, sym, ap, ◌∙◌}
use Rattle.std.specs.List.{AllByRecursion}
use Rattle.std.specs.Option.{option_to_list}
use Rattle.std.specs.Str.{is_utf8}
use Rattle.std.proofs.lemmas.Str.{IsUtf8-from_is_utf8}
use Rattle.std.proofs.lemmas.List.Elements.{All-from_recursion}
use Rattle.serde_json.specs.Data.{Data, string}
use Rattle.serde_json.specs.Find.{as_str, get}
use Rattle.hr_json.specs.Node.{items_in}
use Rattle.hr_filter.specs.declared.filter.Filter.{Filter}
use Rattle.hr_filter.specs.declared.filter.Filter.TheVariants as filter
use Rattle.hr_setting.specs.Member.{list_in, may, must, passing, text_in, whole_in}
use Rattle.hr_policy.specs.declared.choice.FilterKind.{FilterKind}
use Rattle.hr_policy.specs.declared.choice.FilterKind.TheVariants as filter_kind
use Rattle.hr_policy.specs.declared.config.Config.{Config}
use Rattle.hr_policy.specs.declared.config.Policy.{Policy}
use Rattle.hr_policy.specs.declared.config.RegAt.{RegAt}
use Rattle.hr_policy.specs.declared.key.Key.TheVariants as key
use Rattle.hr_policy.specs.declared.refusal.ConfigRefused.{ConfigRefused}
use Rattle.hr_policy.specs.Choice.{count_in, cron_in, filter_kind_in, is_manual, is_matches, is_place, kind_in, label_in, namespace_in, namespace_named, pattern_in, place_in, resource_in, trigger_in}
use Rattle.hr_policy.specs.Fault.{fault_of}
use Rattle.hr_policy.specs.Filter.{decoration_of, filter_by, filter_of, labels_of}
use Rattle.hr_policy.specs.Reading.{config_in, content_of, policy_of, registry_of}
use Rattle.hr_policy.specs.Step.{each, each_some, field, mapped}
use Rattle.hr_policy.specs.Text.{IsText, IsTextConfig, IsTextCron, IsTextFilter, IsTextPolicy, IsTextRegistry}
use Rattle.hr_policy.specs.Written.{namespace_text, trigger_value}
use Rattle.hr_policy.proofs.StepLemmas.{joined-ok}
use Rattle.hr_policy.proofs.GivenLemmas.{behind, found, given, mapped-ok, ok-or, through}
use Rattle.hr_policy.proofs.MemberBackLemmas.{may-back, namespace-back, no-name, some-cron, trigger-back}
use Rattle.hr_policy.proofs.FilterBackLemmas.{labelled-parts, patterned-parts, resource-made}
use Rattle.hr_policy.proofs.PolicyBackLemmas.{policy-said, route-in, said-route}
use Rattle.hr_policy.proofs.ConfigBackLemmas.{content-said, said-registry, unless-is}

text-of : (d : Data) (s : List ℕ) → text_in d ≡ Some s → IsText s
text-of d s e = let t = through is_utf8 (as_str d) s e in record { is = IsUtf8-from_is_utf8 s t.passes }

must-text : (test : List ℕ → Bool) (o : Option Data) (s : List ℕ) → option_and_then (λ d. option_and_then (λ text. cond (test text) (Some text) None) (text_in d)) o ≡ Some s → IsText s
must-text test o s e =
    let b = behind _ o s e in
    let t = through test (text_in b.value) s b.gives in
    text-of b.value s t.is

each-all : {A B : Type 0} (f : A → Result B ConfigRefused) (P : B → Type 0) → ((d : A) (x : B) → f d ≡ Ok x → P x) → (ds : List A) (xs : List B) → each f ds ≡ Ok xs → AllByRecursion P xs
each-all f P h [] xs e = let none : [] ≡ xs = cc in subst (AllByRecursion P) none tt
each-all f P h (d ∷ ds) xs e =
    let parts = joined-ok (mapped (λ x. x ∷ []) (f d)) (each f ds) xs e in
    let one = mapped-ok (λ x. x ∷ []) (f d) parts.xs parts.first-is in
    let whole : xs ≡ one.0 ∷ parts.ys = parts.all-is ∙ ap (λ l. l ++ parts.ys) (sym one.2) in
    subst (AllByRecursion P) (sym whole) (h d one.0 one.1, each-all f P h ds parts.ys parts.rest-is)

with-one : {B : Type 0} (P : B → Type 0) (o : Option B) (ys : List B) → ((x : B) → o ≡ Some x → P x) → AllByRecursion P ys → AllByRecursion P (option_to_list o ++ ys)
with-one P None ys h rest = rest
with-one P (Some x) ys h rest = (h x refl, rest)

some-all : {A B : Type 0} (f : A → Result (Option B) ConfigRefused) (P : B → Type 0) → ((d : A) (x : B) → f d ≡ Ok (Some x) → P x) → (ds : List A) (xs : List B) → each_some f ds ≡ Ok xs → AllByRecursion P xs
some-all f P h [] xs e = let none : [] ≡ xs = cc in subst (AllByRecursion P) none tt
some-all f P h (d ∷ ds) xs e =
    let parts = joined-ok (mapped option_to_list (f d)) (each_some f ds) xs e in
    let one = mapped-ok option_to_list (f d) parts.xs parts.first-is in
    let whole : xs ≡ option_to_list one.0 ++ parts.ys = parts.all-is ∙ ap (λ l. l ++ parts.ys) (sym one.2) in
    subst (AllByRecursion P) (sym whole) (with-one P one.0 parts.ys (λ x is. h d x (one.1 ∙ ap Ok is)) (some-all f P h ds parts.ys parts.rest-is))

-- ---- filters

label-text : (policy : ℕ) (d : Data) (l : List ℕ) → field policy key.Value (label_in d) ≡ Ok l → IsText l
label-text policy d l e = let t = through _ (text_in d) l (ok-or (label_in d) _ l e) in text-of d l t.is

by-text : (kind : FilterKind) (policy : ℕ) (d : Data) (f : Filter) → filter_by kind policy d ≡ Ok (Some f) → IsTextFilter f
by-text filter_kind.Name policy d f e =
    let s = patterned-parts filter.Name policy (must pattern_in (codes "value") d) (decoration_of d) f e in
    subst IsTextFilter s.made-is (must-text _ (get (codes "value") d) s.pattern s.pattern-is)
by-text filter_kind.Tag policy d f e =
    let s = patterned-parts filter.Tag policy (must pattern_in (codes "value") d) (decoration_of d) f e in
    subst IsTextFilter s.made-is (must-text _ (get (codes "value") d) s.pattern s.pattern-is)
by-text filter_kind.Label policy d f e =
    let s = labelled-parts policy (labels_of policy d) (decoration_of d) f e in
    let items = found (must items_in (codes "value") d) _ _ s.labels s.labels-is in
    subst IsTextFilter s.made-is (All-from_recursion IsText s.labels (each-all _ IsText (label-text policy) items.value s.labels items.then_))
by-text filter_kind.Resource policy d f e =
    let made = resource-made policy (must resource_in (codes "value") d) (option_and_then (passing is_matches) (decoration_of d)) f e in
    subst IsTextFilter made tt

filter-text : (policy : ℕ) (d : Data) (f : Filter) → filter_of policy d ≡ Ok (Some f) → IsTextFilter f
filter-text policy d f e = let k = found (must filter_kind_in (codes "kind") d) _ _ (Some f) e in by-text k.value policy d f k.then_

-- ---- policies

cron-text : (o : Option (List ℕ)) → trigger_in (trigger_value o) ≡ Some o → IsTextCron o
cron-text None e = tt
cron-text (Some t) e =
    let c = some-cron (is_manual (trigger_value (Some t))) (must cron_in (codes "cron") (trigger_value (Some t))) t e in
    let s : IsText t = must-text _ (get (codes "cron") (trigger_value (Some t))) t c in s

namespace-written : (t : List ℕ) (o : Option (List ℕ)) → namespace_in (string t) ≡ Some o → IsText t
namespace-written t o e =
    let b = behind namespace_named (text_in (string t)) o e in
    let u = through is_utf8 (Some t) b.value b.is in
    let same : b.value ≡ t = (let h = u.is in cc) in
    subst IsText same (text-of (string t) b.value b.is)

policy-text : (d : Data) (p : Policy) → policy_of d ≡ Ok p → IsTextPolicy p
policy-text d p e =
    let s = policy-said d p e in
    let r = said-route p.id.0 (must (whole_in 1 250) (codes "src") d) (must (whole_in 1 250) (codes "dst") d) (may None namespace_in (codes "namespace") d) (may (pos 1) count_in (codes "replace") d) (route-in p) s.route in
    let items = found (may [] (list_in 16) (codes "filters") d) _ _ p.filters s.filters in
    record {
      name = must-text _ (get (codes "name") d) p.name s.name;
      namespace = namespace-written (namespace_text p.namespace) p.namespace (may-back None namespace_in (λ o. string (namespace_text o)) (codes "namespace") d p.namespace namespace-back no-name r.namespace);
      cron = cron-text p.cron (may-back None trigger_in trigger_value (codes "trigger") d p.cron trigger-back refl s.cron);
      filters = All-from_recursion IsTextFilter p.filters (some-all (filter_of p.id.0) IsTextFilter (filter-text p.id.0) items.value p.filters items.then_);
    }

registry-text : (d : Data) (r : RegAt) → registry_of d ≡ Ok r → IsTextRegistry r
registry-text d r e =
    let s = said-registry (must (whole_in 1 250) (codes "id") d) (must kind_in (codes "kind") d) (λ kind. must (place_in kind) (codes "at") d) r e in
    record { at = must-text (is_place r.kind) (get (codes "at") d) r.at s.at }

pub config-text : (d : Data) (c : Config) → config_in d ≡ Ok c → IsTextConfig c
config-text d c e =
    let g = given (content_of d) _ c e in
    let u = unless-is (fault_of g.value) g.value c g.then_ in
    let s = content-said d c (g.is ∙ ap Ok u.1) in
    record {
      registries = All-from_recursion IsTextRegistry c.registries (each-all registry_of IsTextRegistry registry-text s.registries c.registries s.regs);
      policies = All-from_recursion IsTextPolicy c.policies (each-all policy_of IsTextPolicy policy-text s.policies c.policies s.pols);
    }
