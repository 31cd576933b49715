-- Which bytes are a configuration, and the first fault of what is none. (Our own, after Harbor's.)
use Rattle.std.specs.Prelude.{◌≡◌, ℕ, pos, nat_le, true, length, codes, Option, Some, None, option_and_then, Result, Ok, Err}
use Rattle.std.specs.Option.{ok_or}
use Rattle.serde_json.specs.Data.{Data}
use Rattle.serde_json.specs.Find.{as_bool}
use Rattle.hr_base.specs.Bytes.{ByteList}
use Rattle.hr_json.specs.Doc.{document_of}
use Rattle.hr_setting.specs.Member.{list_in, may, must, object_in, short_text_in, whole_in}
use Rattle.hr_policy.specs.declared.config.Config.{Config}
use Rattle.hr_policy.specs.declared.config.Policy.{Policy}
use Rattle.hr_policy.specs.declared.config.RegAt.{RegAt}
use Rattle.hr_policy.specs.declared.key.Key.TheVariants as key
use Rattle.hr_policy.specs.declared.policy.Route.{Route}
use Rattle.hr_policy.specs.declared.reading.TheConstants.{CONFIG_LIMIT}
use Rattle.hr_policy.specs.declared.refusal.ConfigRefused.{ConfigRefused}
use Rattle.hr_policy.specs.declared.refusal.ConfigRefused.TheVariants as why
use Rattle.hr_policy.specs.Choice.{count_in, kind_in, namespace_in, place_in, trigger_in}
use Rattle.hr_policy.specs.Fault.{fault_of}
use Rattle.hr_policy.specs.Filter.{filters_of}
use Rattle.hr_policy.specs.Step.{◌>>=◌, ◌>>◌, check, each, field}

-- a registry
abbrev pub registry_of : Data → Result RegAt ConfigRefused
registry_of value = do
  id ← field 0 key.Id (must (whole_in 1 250) (codes "id") value)
  kind ← field 0 key.Kind (must kind_in (codes "kind") value)
  at ← field 0 key.At (must (place_in kind) (codes "at") value)
  Ok (record { id = record { 0 = id }; kind = kind; at = at })

-- from where to where the policy with this number copies
abbrev pub route_of : ℕ → Data → Result Route ConfigRefused
route_of policy value = do
  src ← field policy key.Src (must (whole_in 1 250) (codes "src") value)
  dst ← field policy key.Dst (must (whole_in 1 250) (codes "dst") value)
  namespace ← field policy key.Namespace (may None namespace_in (codes "namespace") value)
  replace ← field policy key.Replace (may (pos 1) count_in (codes "replace") value)
  Ok (record { src = record { 0 = src }; dst = record { 0 = dst }; namespace = namespace; replace = replace })

-- a policy
abbrev pub policy_of : Data → Result Policy ConfigRefused
policy_of value = do
  id ← field 0 key.Id (must (whole_in 1 4294967295) (codes "id") value)
  name ← field id key.Name (must (short_text_in 255) (codes "name") value)
  enabled ← field id key.Enabled (may true as_bool (codes "enabled") value)
  route ← route_of id value
  overrides ← field id key.Override (may true as_bool (codes "override") value)
  attempts ← field id key.Attempts (may 3 (whole_in 1 4) (codes "attempts") value)
  cron ← field id key.Trigger (may None trigger_in (codes "trigger") value)
  filters ← filters_of id value
  Ok (record {
    id = record { 0 = id };
    name = name;
    enabled = enabled;
    src = route.src;
    dst = route.dst;
    namespace = route.namespace;
    replace = route.replace;
    override_it = overrides;
    attempts = attempts;
    cron = cron;
    filters = filters;
  })

-- what the members of the root say, each by itself
abbrev pub content_of : Data → Result Config ConfigRefused
content_of value = do
  version ← field 0 key.Version (must (whole_in 1 1) (codes "version") value)
  lanes ← field 0 key.Lanes (may 4 (whole_in 1 64) (codes "lanes") value)
  jobs ← field 0 key.Jobs (may 16384 (whole_in 1 262144) (codes "jobs") value)
  keep ← field 0 key.Keep (may 50 (whole_in 0 1000000) (codes "keep") value)
  registries ← field 0 key.Registries (must (list_in 64) (codes "registries") value)
  policies ← field 0 key.Policies (must (list_in 1024) (codes "policies") value)
  regs ← each registry_of registries
  pols ← each policy_of policies
  Ok (record { lanes = lanes; jobs = jobs; keep = keep; registries = regs; policies = pols })

-- a configuration, unless it has a fault as a whole
abbrev pub unless : Option ConfigRefused → Config → Result Config ConfigRefused
unless None config = Ok config
unless (Some why) config = Err why

-- what a JSON value says as a configuration, or its first fault
abbrev pub config_in : Data → Result Config ConfigRefused
config_in value = do
  config ← content_of value
  unless (fault_of config) config

-- what some bytes say as a configuration, or their first fault
abbrev pub config_of : ByteList → Result Config ConfigRefused
config_of bytes = do
  check (nat_le (length bytes) CONFIG_LIMIT) (why.TooLong (length bytes))
  value ← ok_or (option_and_then object_in (document_of bytes)) why.NotJson
  config_in value

-- a configuration that some bytes say
pub record IsConfig (config : Config) : Type 0 where
  pub bytes : ByteList
  pub said : config_of bytes ≡ Ok config
