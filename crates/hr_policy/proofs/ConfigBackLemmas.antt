-- A configuration's value says the configuration.
use Rattle.std.proofs.Common.{◌≡◌, ◌≤◌, ℕ, List, length, map, codes, Option, Some, None, Result, Ok, Err, subst, refl, sym, ap, ◌∙◌, arith}
use Rattle.serde_json.specs.Data.{Data, string}
use Rattle.serde_json.specs.Find.{get}
use Rattle.hr_policy.specs.declared.config.Config.{Config}
use Rattle.hr_policy.specs.declared.config.Kind.{Kind}
use Rattle.hr_policy.specs.declared.config.Policy.{Policy}
use Rattle.hr_policy.specs.declared.config.RegAt.{RegAt}
use Rattle.hr_policy.specs.declared.refusal.ConfigRefused.{ConfigRefused}
use Rattle.hr_policy.specs.declared.key.Key.TheVariants as key
use Rattle.hr_setting.specs.Member.{list_in, may, must, whole_in}
use Rattle.hr_policy.specs.Choice.{kind_in, place_in}
use Rattle.hr_policy.specs.Fault.{fault_of}
use Rattle.hr_policy.specs.Reading.{config_in, content_of, policy_of, registry_of, unless}
use Rattle.hr_policy.specs.Step.{◌>>=◌, each, field}
use Rattle.hr_policy.specs.Written.{config_value, kind_text, list_value, policy_value, registry_value, whole_value}
use Rattle.hr_policy.proofs.GivenLemmas.{behind, each-back, each-length, given}
use Rattle.hr_policy.proofs.MemberBackLemmas.{kind-back, place-back, list-few, list-written, may-back, must-back, whole-back}
use Rattle.hr_policy.proofs.FilterBackLemmas.{length-map}
use Rattle.hr_policy.proofs.PolicyBackLemmas.{policy-back}

-- ---- registries

abbrev registry-from : Option ℕ → Option Kind → (Kind → Option (List ℕ)) → Result RegAt ConfigRefused
registry-from o-id o-kind at-of = do
  id ← field 0 key.Id o-id
  kind ← field 0 key.Kind o-kind
  at ← field 0 key.At (at-of kind)
  Ok (record { id = record { 0 = id }; kind = kind; at = at })

pub record SaidRegistry (o-id : Option ℕ) (o-kind : Option Kind) (at-of : Kind → Option (List ℕ)) (r : RegAt) : Type 0 where
  pub id : o-id ≡ Some r.id.0
  pub kind : o-kind ≡ Some r.kind
  pub at : at-of r.kind ≡ Some r.at

said-place : (id : ℕ) (kind : Kind) (at-of : Kind → Option (List ℕ)) (o-at : Option (List ℕ)) (r : RegAt) → at-of kind ≡ o-at
    → field 0 key.At o-at >>= (λ at. Ok (record { id = record { 0 = id }; kind = kind; at = at })) ≡ Ok r → SaidRegistry (Some id) (Some kind) at-of r
said-place id kind at-of (Some at) r there e =
    let made : RegAt = record { id = record { 0 = id }; kind = kind; at = at } in
    let same : made ≡ r = cc in
    subst (λ (q : RegAt). SaidRegistry (Some id) (Some kind) at-of q) same (record { id = refl; kind = refl; at = there })
said-place id kind at-of None r there e = absurd cc

pub said-registry : (o-id : Option ℕ) (o-kind : Option Kind) (at-of : Kind → Option (List ℕ)) (r : RegAt) → registry-from o-id o-kind at-of ≡ Ok r → SaidRegistry o-id o-kind at-of r
said-registry (Some id) (Some kind) at-of r e = said-place id kind at-of (at-of kind) r refl e
said-registry None kind at-of r e = absurd cc
said-registry (Some id) None at-of r e = absurd cc

says-registry : (o-id : Option ℕ) (o-kind : Option Kind) (at-of : Kind → Option (List ℕ)) (r : RegAt) → SaidRegistry o-id o-kind at-of r → registry-from o-id o-kind at-of ≡ Ok r
says-registry o-id o-kind at-of r s = rw (s.id, s.kind, s.at) refl

registry-back : (d : Data) (r : RegAt) → registry_of d ≡ Ok r → registry_of (registry_value r) ≡ Ok r
registry-back d r e =
    let s = said-registry (must (whole_in 1 250) (codes "id") d) (must kind_in (codes "kind") d) (λ kind. must (place_in kind) (codes "at") d) r e in
    says-registry (whole_in 1 250 (whole_value r.id.0)) (kind_in (string (kind_text r.kind))) (λ kind. place_in kind (string r.at)) r
    (record {
      id = must-back (whole_in 1 250) whole_value (codes "id") d r.id.0 (whole-back 1 250) s.id;
      kind = must-back kind_in (λ k. string (kind_text k)) (codes "kind") d r.kind kind-back s.kind;
      at = must-back (place_in r.kind) (λ t. string t) (codes "at") d r.at (place-back r.kind) s.at;
    })

-- ---- the whole

abbrev content-from : Option ℕ → Option ℕ → Option ℕ → Option ℕ → Option (List Data) → Option (List Data) → Result Config ConfigRefused
content-from o-version o-lanes o-jobs o-keep o-registries o-policies = do
  version ← field 0 key.Version o-version
  lanes ← field 0 key.Lanes o-lanes
  jobs ← field 0 key.Jobs o-jobs
  keep ← field 0 key.Keep o-keep
  registries ← field 0 key.Registries o-registries
  policies ← field 0 key.Policies o-policies
  regs ← each registry_of registries
  pols ← each policy_of policies
  Ok (record { lanes = lanes; jobs = jobs; keep = keep; registries = regs; policies = pols })

pub record SaidContent (o-version o-lanes o-jobs o-keep : Option ℕ) (o-registries o-policies : Option (List Data)) (c : Config) : Type 0 where
  pub version : ℕ
  pub registries : List Data
  pub policies : List Data
  pub version-is : o-version ≡ Some version
  pub lanes : o-lanes ≡ Some c.lanes
  pub jobs : o-jobs ≡ Some c.jobs
  pub keep : o-keep ≡ Some c.keep
  pub registries-is : o-registries ≡ Some registries
  pub policies-is : o-policies ≡ Some policies
  pub regs : each registry_of registries ≡ Ok c.registries
  pub pols : each policy_of policies ≡ Ok c.policies

content-last : (version lanes jobs keep : ℕ) (rs ps : List Data) (regs : Result (List RegAt) ConfigRefused) (pols : Result (List Policy) ConfigRefused) (c : Config) → each registry_of rs ≡ regs → each policy_of ps ≡ pols
    → regs >>= (λ r. pols >>= (λ p. Ok (record { lanes = lanes; jobs = jobs; keep = keep; registries = r; policies = p }))) ≡ Ok c → SaidContent (Some version) (Some lanes) (Some jobs) (Some keep) (Some rs) (Some ps) c
content-last version lanes jobs keep rs ps (Ok regs) (Ok pols) c r-is p-is e =
    let made : Config = record { lanes = lanes; jobs = jobs; keep = keep; registries = regs; policies = pols } in
    let same : made ≡ c = cc in
    subst (λ (q : Config). SaidContent (Some version) (Some lanes) (Some jobs) (Some keep) (Some rs) (Some ps) q) same
    (record { version = version; registries = rs; policies = ps; version-is = refl; lanes = refl; jobs = refl; keep = refl; registries-is = refl; policies-is = refl; regs = r-is; pols = p-is })
content-last version lanes jobs keep rs ps (Err why) pols c r-is p-is e = absurd cc
content-last version lanes jobs keep rs ps (Ok regs) (Err why) c r-is p-is e = absurd cc

pub said-content : (o-version o-lanes o-jobs o-keep : Option ℕ) (o-registries o-policies : Option (List Data)) (c : Config) → content-from o-version o-lanes o-jobs o-keep o-registries o-policies ≡ Ok c → SaidContent o-version o-lanes o-jobs o-keep o-registries o-policies c
said-content (Some version) (Some lanes) (Some jobs) (Some keep) (Some rs) (Some ps) c e = content-last version lanes jobs keep rs ps (each registry_of rs) (each policy_of ps) c refl refl e
said-content None lanes jobs keep rs ps c e = absurd cc
said-content (Some version) None jobs keep rs ps c e = absurd cc
said-content (Some version) (Some lanes) None keep rs ps c e = absurd cc
said-content (Some version) (Some lanes) (Some jobs) None rs ps c e = absurd cc
said-content (Some version) (Some lanes) (Some jobs) (Some keep) None ps c e = absurd cc
said-content (Some version) (Some lanes) (Some jobs) (Some keep) (Some rs) None c e = absurd cc

says-content : (o-version o-lanes o-jobs o-keep : Option ℕ) (o-registries o-policies : Option (List Data)) (c : Config) → SaidContent o-version o-lanes o-jobs o-keep o-registries o-policies c → content-from o-version o-lanes o-jobs o-keep o-registries o-policies ≡ Ok c
says-content o-version o-lanes o-jobs o-keep o-registries o-policies c s = rw (s.version-is, s.lanes, s.jobs, s.keep, s.registries-is, s.policies-is, s.regs, s.pols) refl

one : whole_in 1 1 (whole_value 1) ≡ Some 1
one = refl

must-few : (high : ℕ) (name : List ℕ) (d : Data) (ds : List Data) → must (list_in high) name d ≡ Some ds → length ds ≤ high
must-few high name d ds m = let b = behind (list_in high) (get name d) ds m in list-few high b.value ds b.gives

few-list : {A : Type 0} (high : ℕ) (name : List ℕ) (d : Data) (read : Data → Result A ConfigRefused) (write : A → Data) (ds : List Data) (xs : List A) → must (list_in high) name d ≡ Some ds → each read ds ≡ Ok xs → length (map write xs) ≤ high
few-list high name d read write ds xs m e =
    omega (arith, length-map write xs, each-length read ds xs e, must-few high name d ds m)

-- what a value says in the members of a root
pub content-said : (d : Data) (c : Config) → content_of d ≡ Ok c
    → SaidContent (must (whole_in 1 1) (codes "version") d) (may 4 (whole_in 1 64) (codes "lanes") d) (may 16384 (whole_in 1 262144) (codes "jobs") d) (may 50 (whole_in 0 1000000) (codes "keep") d) (must (list_in 64) (codes "registries") d) (must (list_in 1024) (codes "policies") d) c
content-said d c e =
    said-content (must (whole_in 1 1) (codes "version") d) (may 4 (whole_in 1 64) (codes "lanes") d) (may 16384 (whole_in 1 262144) (codes "jobs") d) (may 50 (whole_in 0 1000000) (codes "keep") d) (must (list_in 64) (codes "registries") d) (must (list_in 1024) (codes "policies") d) c e

pub content-back : (d : Data) (c : Config) → content_of d ≡ Ok c → content_of (config_value c) ≡ Ok c
content-back d c e =
    let s = content-said d c e in
    says-content (whole_in 1 1 (whole_value 1)) (whole_in 1 64 (whole_value c.lanes)) (whole_in 1 262144 (whole_value c.jobs)) (whole_in 0 1000000 (whole_value c.keep)) (list_in 64 (list_value (map registry_value c.registries))) (list_in 1024 (list_value (map policy_value c.policies))) c
    (record {
      version = 1;
      registries = map registry_value c.registries;
      policies = map policy_value c.policies;
      version-is = one;
      lanes = may-back 4 (whole_in 1 64) whole_value (codes "lanes") d c.lanes (whole-back 1 64) refl s.lanes;
      jobs = may-back 16384 (whole_in 1 262144) whole_value (codes "jobs") d c.jobs (whole-back 1 262144) refl s.jobs;
      keep = may-back 50 (whole_in 0 1000000) whole_value (codes "keep") d c.keep (whole-back 0 1000000) refl s.keep;
      registries-is = list-written 64 (map registry_value c.registries) (few-list 64 (codes "registries") d registry_of registry_value s.registries c.registries s.registries-is s.regs);
      policies-is = list-written 1024 (map policy_value c.policies) (few-list 1024 (codes "policies") d policy_of policy_value s.policies c.policies s.policies-is s.pols);
      regs = each-back registry_of registry_value registry-back s.registries c.registries s.regs;
      pols = each-back policy_of policy_value policy-back s.policies c.policies s.pols;
    })

pub unless-is : (o : Option ConfigRefused) (made c : Config) → unless o made ≡ Ok c → (o ≡ None) × (made ≡ c)
unless-is None made c e = (refl, cc)
unless-is (Some why) made c e = absurd cc

pub config-back : (d : Data) (c : Config) → config_in d ≡ Ok c → config_in (config_value c) ≡ Ok c
config-back d c e =
    let g = given (content_of d) _ c e in
    let u = unless-is (fault_of g.value) g.value c g.then_ in
    let read : content_of d ≡ Ok c = g.is ∙ ap Ok u.1 in
    let sound : fault_of c ≡ None = ap fault_of (sym u.1) ∙ u.0 in
    rw (content-back d c read) (rw sound refl)
