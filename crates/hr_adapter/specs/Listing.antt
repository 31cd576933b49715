-- What a registry lists (OCI Distribution 1.1, "Listing Tags"; the catalog of the Docker registry).
use Rattle.std.specs.Prelude.{List, [], Option, map, option_map, unwrap_or}
use Rattle.std.specs.List.{filter_map, flat_map}
use Rattle.std.specs.Map.{keys_of, lookup}
use Rattle.std.specs.BTreeMap.{is_at}
use Rattle.std.specs.Cmp.Lexicographic.{slice_cmp}
use Rattle.std.specs.Ordering.{nat_cmp}
use Rattle.hr_name.specs.Name.{RepoName}
use Rattle.hr_name.specs.Tag.{TagName}
use Rattle.hr_adapter.specs.Content.{Content, Labels, Repo, Target, repo_at}
use Rattle.hr_adapter.specs.declared.listed.Tagged.{Tagged}
use Rattle.hr_adapter.specs.declared.listed.TagNow.{TagNow}

-- the names of all repositories, in byte order
abbrev pub repos_of : Content → List RepoName
repos_of c = keys_of c

-- the labels that a repository keeps beside a tag: none where it keeps no text there
abbrev pub labels_in : Repo → TagName → Labels
labels_in held tag = unwrap_or (lookup (is_at (slice_cmp nat_cmp tag)) held.labels) []

-- a tag of a repository as a list of tags has it, with its labels
abbrev pub tagged_in : Repo → TagName → Tagged
tagged_in held tag = record { tag = tag; labels = labels_in held tag }

-- all tags of a repository with their labels, in byte order, whatever they name
abbrev pub tagged_of : Repo → List Tagged
tagged_of held = map (tagged_in held) (keys_of held.tags)

-- all tags of the repository of a name; none of a repository that is not there
abbrev pub tags_of : Content → RepoName → List Tagged
tags_of c repo = unwrap_or (option_map tagged_of (repo_at c repo)) []

-- a tag of a repository with the digest that it names, where it names one
abbrev pub tag_now : RepoName → TagName × Target → Option TagNow
tag_now repo entry = option_map (λ d. record { repo = repo; tag = entry.0; digest = d }) entry.1

-- all tags of all repositories that name a digest, in byte order of repository and tag
abbrev pub tags_shown : Content → List TagNow
tags_shown c = flat_map (λ entry. filter_map (tag_now entry.0) entry.1.tags) c
