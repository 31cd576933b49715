-- The JSON value of a configuration, with the members of each object in the order of their bytes.
-- (Our own.)
use Rattle.std.specs.Prelude.{ℕ, List, [], map, codes, Option, Some, None}
use Rattle.serde_json.specs.Data.{Data, boolean, number, string, array, object, no_members, member, unsigned}
use Rattle.serde_json.specs.Find.{of_integer}
use Rattle.serde_json.specs.View.{items_of}
use Rattle.hr_base.specs.Bytes.{Text}
use Rattle.hr_filter.specs.declared.filter.Decoration.{Decoration}
use Rattle.hr_filter.specs.declared.filter.Decoration.TheVariants as decoration
use Rattle.hr_filter.specs.declared.filter.Filter.{Filter}
use Rattle.hr_filter.specs.declared.filter.Filter.TheVariants as filter
use Rattle.hr_policy.specs.declared.config.Config.{Config}
use Rattle.hr_policy.specs.declared.config.Kind.{Kind}
use Rattle.hr_policy.specs.declared.config.Kind.TheVariants as kind
use Rattle.hr_policy.specs.declared.config.Policy.{Policy}
use Rattle.hr_policy.specs.declared.config.RegAt.{RegAt}

-- a JSON list of these values
abbrev pub list_value : List Data → Data
list_value items = array (items_of items)

-- a whole number
abbrev pub whole_value : ℕ → Data
whole_value n = number (unsigned n)

-- the name of a registry's kind
abbrev pub kind_text : Kind → Text
kind_text kind.Memory = codes "memory"
kind_text kind.Folder = codes "folder"
kind_text kind.Http = codes "http"

-- the name of a decoration
abbrev pub decoration_text : Decoration → Text
decoration_text decoration.Matches = codes "matches"
decoration_text decoration.Excludes = codes "excludes"

-- the value of a registry
abbrev pub registry_value : RegAt → Data
registry_value r =
    object (member (codes "at") (string r.at)
    (member (codes "id") (whole_value r.id.0)
    (member (codes "kind") (string (kind_text r.kind)) no_members)))

-- the value of a filter with this decoration, kind and value
abbrev pub filter_with : Decoration → Text → Data → Data
filter_with how kind value =
    object (member (codes "decoration") (string (decoration_text how))
    (member (codes "kind") (string kind)
    (member (codes "value") value no_members)))

-- the value of a filter
abbrev pub filter_value : Filter → Data
filter_value (filter.Name pattern how) = filter_with how (codes "name") (string pattern)
filter_value (filter.Tag pattern how) = filter_with how (codes "tag") (string pattern)
filter_value (filter.Label labels how) = filter_with how (codes "label") (list_value (map (λ l. string l) labels))
filter_value filter.Resource = filter_with decoration.Matches (codes "resource") (string (codes "image"))

-- the text of a namespace, empty where there is none
abbrev pub namespace_text : Option Text → Text
namespace_text None = []
namespace_text (Some name) = name

-- the value of a trigger, by its schedule where it has one
abbrev pub trigger_value : Option Text → Data
trigger_value None = string (codes "manual")
trigger_value (Some cron) = object (member (codes "cron") (string cron) no_members)

-- the value of a policy
abbrev pub policy_value : Policy → Data
policy_value p =
    object (member (codes "attempts") (whole_value p.attempts)
    (member (codes "dst") (whole_value p.dst.0)
    (member (codes "enabled") (boolean p.enabled)
    (member (codes "filters") (list_value (map filter_value p.filters))
    (member (codes "id") (whole_value p.id.0)
    (member (codes "name") (string p.name)
    (member (codes "namespace") (string (namespace_text p.namespace))
    (member (codes "override") (boolean p.override_it)
    (member (codes "replace") (number (of_integer p.replace))
    (member (codes "src") (whole_value p.src.0)
    (member (codes "trigger") (trigger_value p.cron) no_members)))))))))))

-- the value of a configuration
abbrev pub config_value : Config → Data
config_value c =
    object (member (codes "jobs") (whole_value c.jobs)
    (member (codes "keep") (whole_value c.keep)
    (member (codes "lanes") (whole_value c.lanes)
    (member (codes "policies") (list_value (map policy_value c.policies))
    (member (codes "registries") (list_value (map registry_value c.registries))
    (member (codes "version") (whole_value 1) no_members))))))
