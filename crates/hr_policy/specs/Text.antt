-- Which texts of a configuration are in UTF-8 (RFC 8259, section 8.1): all of them.
use Rattle.std.specs.Prelude.{⊤, Option, Some, None}
use Rattle.std.specs.List.{All}
use Rattle.std.specs.Str.{IsUtf8}
use Rattle.hr_base.specs.Bytes.{Text}
use Rattle.hr_filter.specs.declared.filter.Filter.{Filter}
use Rattle.hr_filter.specs.declared.filter.Filter.TheVariants as filter
use Rattle.hr_policy.specs.declared.config.Config.{Config}
use Rattle.hr_policy.specs.declared.config.Policy.{Policy}
use Rattle.hr_policy.specs.declared.config.RegAt.{RegAt}
use Rattle.hr_policy.specs.Written.{namespace_text}

-- bytes that are in UTF-8
pub record IsText (bytes : Text) : Type 0 where
  pub is : IsUtf8 bytes

-- a filter whose pattern or labels are
abbrev pub IsTextFilter : Filter → Type 0
IsTextFilter (filter.Name pattern how) = IsText pattern
IsTextFilter (filter.Tag pattern how) = IsText pattern
IsTextFilter (filter.Label labels how) = All IsText labels
IsTextFilter filter.Resource = ⊤

-- a schedule that is, where there is one
abbrev pub IsTextCron : Option Text → Type 0
IsTextCron None = ⊤
IsTextCron (Some cron) = IsText cron

-- a policy whose texts are
pub record IsTextPolicy (p : Policy) : Type 0 where
  pub name : IsText p.name
  pub namespace : IsText (namespace_text p.namespace)
  pub cron : IsTextCron p.cron
  pub filters : All IsTextFilter p.filters

-- a registry whose address is
pub record IsTextRegistry (r : RegAt) : Type 0 where
  pub at : IsText r.at

-- a configuration whose texts are
pub record IsTextConfig (c : Config) : Type 0 where
  pub registries : All IsTextRegistry c.registries
  pub policies : All IsTextPolicy c.policies
