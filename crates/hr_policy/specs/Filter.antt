-- Which JSON values are filters, and the first fault of what is none. (Our own, after Harbor's.)
use Rattle.std.specs.Prelude.{ℕ, List, [], codes, Option, Some, None, option_and_then, Result, Ok, if◌then◌else◌}
use Rattle.serde_json.specs.Data.{Data}
use Rattle.hr_base.specs.Bytes.{Text}
use Rattle.hr_json.specs.Node.{items_in}
use Rattle.hr_filter.specs.declared.filter.Decoration.{Decoration}
use Rattle.hr_filter.specs.declared.filter.Decoration.TheVariants as decoration
use Rattle.hr_filter.specs.declared.filter.Filter.{Filter}
use Rattle.hr_filter.specs.declared.filter.Filter.TheVariants as filter
use Rattle.hr_setting.specs.Member.{list_in, may, must, passing}
use Rattle.hr_policy.specs.declared.choice.FilterKind.{FilterKind}
use Rattle.hr_policy.specs.declared.choice.FilterKind.TheVariants as filter_kind
use Rattle.hr_policy.specs.declared.key.Key.TheVariants as key
use Rattle.hr_policy.specs.declared.refusal.ConfigRefused.{ConfigRefused}
use Rattle.hr_policy.specs.Choice.{decoration_in, filter_kind_in, is_empty, is_matches, label_in, pattern_in, resource_in}
use Rattle.hr_policy.specs.Step.{◌>>=◌, each, each_some, field}

-- the decoration of a filter, which matches where it has none
abbrev pub decoration_of : Data → Option Decoration
decoration_of value = may decoration.Matches decoration_in (codes "decoration") value

-- a filter of a pattern, which is left out where that is empty
abbrev pub patterned : (Text → Decoration → Filter) → ℕ → Data → Result (Option Filter) ConfigRefused
patterned made policy value = do
  pattern ← field policy key.Value (must pattern_in (codes "value") value)
  decoration ← field policy key.Decoration (decoration_of value)
  Ok (if is_empty pattern then None else Some (made pattern decoration))

-- the labels of a filter
abbrev pub labels_of : ℕ → Data → Result (List Text) ConfigRefused
labels_of policy value = do
  items ← field policy key.Value (must items_in (codes "value") value)
  each (λ item. field policy key.Value (label_in item)) items

-- a filter by labels
abbrev pub labelled : ℕ → Data → Result (Option Filter) ConfigRefused
labelled policy value = do
  labels ← labels_of policy value
  decoration ← field policy key.Decoration (decoration_of value)
  Ok (Some (filter.Label labels decoration))

-- a filter by resource, which only matches
abbrev pub resourced : ℕ → Data → Result (Option Filter) ConfigRefused
resourced policy value = do
  resource ← field policy key.Value (must resource_in (codes "value") value)
  decoration ← field policy key.Decoration (option_and_then (passing is_matches) (decoration_of value))
  Ok (Some filter.Resource)

-- a filter of this kind
abbrev pub filter_by : FilterKind → ℕ → Data → Result (Option Filter) ConfigRefused
filter_by filter_kind.Name policy value = patterned filter.Name policy value
filter_by filter_kind.Tag policy value = patterned filter.Tag policy value
filter_by filter_kind.Label policy value = labelled policy value
filter_by filter_kind.Resource policy value = resourced policy value

-- a filter of the policy with this number, or none where it is left out
abbrev pub filter_of : ℕ → Data → Result (Option Filter) ConfigRefused
filter_of policy value = do
  kind ← field policy key.Kind (must filter_kind_in (codes "kind") value)
  filter_by kind policy value

-- the filters of the policy with this number
abbrev pub filters_of : ℕ → Data → Result (List Filter) ConfigRefused
filters_of policy value = do
  items ← field policy key.Filters (may [] (list_in 16) (codes "filters") value)
  each_some (filter_of policy) items
