-- The texts of a check, each a line ended by a line feed. (Our own.)
use Rattle.std.specs.Prelude.{ℕ, ◌∷◌, ◌++◌, codes}
use Rattle.std.specs.Fmt.{decimal}
use Rattle.hr_base.specs.Bytes.{Text}
use Rattle.hr_policy.specs.declared.key.Key.{Key}
use Rattle.hr_policy.specs.declared.key.Key.TheVariants as key
use Rattle.hr_policy.specs.declared.refusal.ConfigRefused.{ConfigRefused}
use Rattle.hr_policy.specs.declared.refusal.ConfigRefused.TheVariants as why
use Rattle.hr_replay.specs.Text.{line}

-- what is said of a configuration with so many registries and policies
abbrev pub fit_text : ℕ → ℕ → Text
fit_text registries policies =
    line (codes "ok registries " ++ decimal registries ++ codes " policies " ++ decimal policies)

-- what is said where no file stands
abbrev pub missing_text : Text
missing_text = line (codes "config missing")

-- a member, by the name that it has in a configuration
abbrev pub key_text : Key → Text
key_text key.Version = codes "version"
key_text key.Lanes = codes "lanes"
key_text key.Jobs = codes "jobs"
key_text key.Keep = codes "keep"
key_text key.Registries = codes "registries"
key_text key.Id = codes "id"
key_text key.Kind = codes "kind"
key_text key.At = codes "at"
key_text key.Policies = codes "policies"
key_text key.Name = codes "name"
key_text key.Enabled = codes "enabled"
key_text key.Src = codes "src"
key_text key.Dst = codes "dst"
key_text key.Namespace = codes "namespace"
key_text key.Replace = codes "replace"
key_text key.Override = codes "override"
key_text key.Attempts = codes "attempts"
key_text key.Trigger = codes "trigger"
key_text key.Filters = codes "filters"
key_text key.Value = codes "value"
key_text key.Decoration = codes "decoration"

-- what is said of a bad member of the policy with this number
abbrev pub field_text : ℕ → Text → Text
field_text policy key = line (codes "config field " ++ decimal policy ++ 32 ∷ key)

-- what is said of a fault by a word and a number
abbrev pub numbered_text : Text → ℕ → Text
numbered_text what number = line (codes "config " ++ what ++ codes " " ++ decimal number)

-- what is said of the first fault of a configuration
abbrev pub refused_text : ConfigRefused → Text
refused_text (why.TooLong len) = numbered_text (codes "long") len
refused_text why.NotJson = line (codes "config json")
refused_text (why.Field policy name) = field_text policy (key_text name)
refused_text (why.Repeated id) = numbered_text (codes "repeated") id
refused_text (why.Unknown reg) = numbered_text (codes "unknown") reg
refused_text (why.SameRegistry policy) = numbered_text (codes "same") policy
refused_text (why.Chain reg) = numbered_text (codes "chain") reg
refused_text why.Memory = line (codes "memory")
