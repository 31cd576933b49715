-- The values that the members of registries, policies and filters may have. (Our own, after Harbor's.)
use Rattle.std.specs.Prelude.{◌==◌, ◌&&◌, ◌||◌, ℤ, pos, negsuc, nat_le, Bool, true, false, length, codes, Option, Some, None, is_none, option_and_then, option_map, if◌then◌else◌}
use Rattle.std.specs.Option.{option_map_or}
use Rattle.std.specs.Str.{bytes_eq}
use Rattle.serde_json.specs.Data.{Data}
use Rattle.serde_json.specs.Find.{as_i64, as_number, as_str}
use Rattle.hr_base.specs.Bytes.{Text}
use Rattle.hr_name.specs.Name.{RepoName}
use Rattle.hr_name.specs.Place.{is_name}
use Rattle.hr_name.specs.declared.name.TheConstants.{NAME_LIMIT}
use Rattle.hr_pattern.specs.Form.{fault_of}
use Rattle.hr_periodic.specs.Reading.{fault_of as cron_fault_of}
use Rattle.hr_filter.specs.declared.filter.Decoration.{Decoration}
use Rattle.hr_filter.specs.declared.filter.Decoration.TheVariants as decoration
use Rattle.hr_setting.specs.Address.{is_base}
use Rattle.hr_setting.specs.Member.{must, passing, text_in}
use Rattle.hr_tree.specs.Path.{is_path}
use Rattle.hr_policy.specs.declared.config.Kind.{Kind}
use Rattle.hr_policy.specs.declared.config.Kind.TheVariants as kind
use Rattle.hr_policy.specs.declared.choice.FilterKind.{FilterKind}
use Rattle.hr_policy.specs.declared.choice.FilterKind.TheVariants as filter_kind

-- a text of no bytes
abbrev pub is_empty : Text → Bool
is_empty text = length text == 0

-- ---- registries

-- the kind of registry that a text names
abbrev pub kind_named : Text → Option Kind
kind_named text =
    if bytes_eq text (codes "memory") then Some kind.Memory else
    if bytes_eq text (codes "folder") then Some kind.Folder else
    if bytes_eq text (codes "http") then Some kind.Http else None

-- the kind of a registry
abbrev pub kind_in : Data → Option Kind
kind_in value = option_and_then kind_named (as_str value)

-- whether a registry of this kind may lie there
abbrev pub is_place : Kind → Text → Bool
is_place kind.Memory text = is_empty text || is_path text
is_place kind.Folder text = is_empty text || is_path text
is_place kind.Http text = is_base text

-- where a registry of this kind lies
abbrev pub place_in : Kind → Data → Option Text
place_in kind value = option_and_then (passing (is_place kind)) (text_in value)

-- ---- policies

-- no namespace, or the name that a text is
abbrev pub namespace_named : Text → Option (Option RepoName)
namespace_named text =
    if is_empty text then Some None
    else option_map (λ t. Some t) (passing (λ t. is_name t && nat_le (length t) NAME_LIMIT) text)

-- the namespace of a policy, where it has one
abbrev pub namespace_in : Data → Option (Option RepoName)
namespace_in value = option_and_then namespace_named (text_in value)

-- from -1 to 3
abbrev pub is_count : ℤ → Bool
is_count (pos n) = nat_le n 3
is_count (negsuc n) = n == 0

-- how many leading components go, -1 for all but the last one
abbrev pub count_in : Data → Option ℤ
count_in value = option_and_then (passing is_count) (option_and_then as_i64 (as_number value))

-- the text of a schedule
abbrev pub cron_in : Data → Option Text
cron_in value = option_and_then (passing (λ text. is_none (cron_fault_of text))) (text_in value)

-- a value that is the text `manual`
abbrev pub is_manual : Data → Bool
is_manual value = option_map_or (λ text. bytes_eq text (codes "manual")) (as_str value) false

-- the schedule of a policy, where it has one
abbrev pub trigger_in : Data → Option (Option Text)
trigger_in value = if is_manual value then Some None else option_map (λ text. Some text) (must cron_in (codes "cron") value)

-- ---- filters

-- what the text names that a filter looks at
abbrev pub filter_kind_named : Text → Option FilterKind
filter_kind_named text =
    if bytes_eq text (codes "name") then Some filter_kind.Name else
    if bytes_eq text (codes "tag") then Some filter_kind.Tag else
    if bytes_eq text (codes "label") then Some filter_kind.Label else
    if bytes_eq text (codes "resource") then Some filter_kind.Resource else None

-- what a filter looks at
abbrev pub filter_kind_in : Data → Option FilterKind
filter_kind_in value = option_and_then filter_kind_named (as_str value)

-- the text of a pattern
abbrev pub pattern_in : Data → Option Text
pattern_in value = option_and_then (passing (λ text. is_none (fault_of text))) (text_in value)

-- a label: a text of 1 to 64 bytes
abbrev pub label_in : Data → Option Text
label_in value = option_and_then (passing (λ text. nat_le 1 (length text) && nat_le (length text) 64)) (text_in value)

-- the names of what each listed tag is
abbrev pub is_resource : Text → Bool
is_resource text = bytes_eq text (codes "image") || bytes_eq text (codes "artifact")

-- the resource of a filter
abbrev pub resource_in : Data → Option Text
resource_in value = option_and_then (passing is_resource) (as_str value)

-- the decoration that a text names
abbrev pub decoration_named : Text → Option Decoration
decoration_named text =
    if bytes_eq text (codes "matches") then Some decoration.Matches else
    if bytes_eq text (codes "excludes") then Some decoration.Excludes else None

-- the decoration of a filter
abbrev pub decoration_in : Data → Option Decoration
decoration_in value = option_and_then decoration_named (as_str value)

-- whether it is the decoration of a filter by resource
abbrev pub is_matches : Decoration → Bool
is_matches decoration.Matches = true
is_matches decoration.Excludes = false
