-- The bodies of listings (OCI Distribution 1.1, "Listing tags"; the catalog is that of the Docker
-- Registry HTTP API V2, "Listing Repositories").
use Rattle.std.specs.Prelude.{nat_le, List, [], ◌∷◌, ◌++◌, length, map, codes, Option, Some, None, is_some, option_and_then, if◌then◌else◌}
use Rattle.std.specs.List.{join_with_byte}
use Rattle.serde_json.specs.Data.{Data}
use Rattle.serde_json.specs.Find.{as_null, as_str, get}
use Rattle.hr_base.specs.Bytes.{ByteList, Text}
use Rattle.hr_call.specs.Reading.{name_in, tag_in}
use Rattle.hr_json.specs.Doc.{document_of}
use Rattle.hr_json.specs.Node.{items_in}
use Rattle.hr_json.specs.declared.doc.TheConstants.{DOC_LIMIT}
use Rattle.hr_name.specs.Name.{RepoName}
use Rattle.hr_name.specs.Tag.{TagName}

-- ---- written

-- a text between quotes
abbrev pub quoted : Text → Text
quoted text = 34 ∷ (text ++ 34 ∷ [])

-- texts between quotes, with commas between them
abbrev pub listed : List Text → Text
listed texts = join_with_byte 44 (map quoted texts)

-- the body of a page of repositories
abbrev pub repos_text : List RepoName → Text
repos_text repos = codes "{\"repositories\":[" ++ (listed repos ++ codes "]}")

-- the body of a page of the tags of a repository
abbrev pub tags_text : RepoName → List TagName → Text
tags_text repo tags =
    codes "{\"name\":\"" ++ (repo ++ (codes "\",\"tags\":[" ++ (listed tags ++ codes "]}")))

-- ---- read

-- the JSON value of a body within the limit
abbrev pub json_in : ByteList → Option Data
json_in body = if nat_le (length body) DOC_LIMIT then document_of body else None

-- a first item and further ones, where there are both
abbrev pub with_first : {A : Type 0} → Option A → Option (List A) → Option (List A)
with_first None rest = None
with_first (Some first) None = None
with_first (Some first) (Some rest) = Some (first ∷ rest)

-- what each value reads as, where each is a text that reads
abbrev pub each_read : {A : Type 0} → (Text → Option A) → List Data → Option (List A)
each_read read [] = Some []
each_read read (value ∷ values) =
    with_first (option_and_then read (as_str value)) (each_read read values)

-- the repositories that the list `repositories` of a value has
abbrev pub repos_within : Data → Option (List RepoName)
repos_within value =
    option_and_then (each_read name_in) (option_and_then items_in (get (codes "repositories") value))

-- the repositories that a body lists
abbrev pub repos_in : ByteList → Option (List RepoName)
repos_in body = option_and_then repos_within (json_in body)

-- the tags that a value lists, of which null has none
abbrev pub tags_of : Data → Option (List TagName)
tags_of value =
    if is_some (as_null value) then Some [] else option_and_then (each_read tag_in) (items_in value)

-- the tags that the list `tags` of a value has
abbrev pub tags_within : Data → Option (List TagName)
tags_within value = option_and_then tags_of (get (codes "tags") value)

-- the tags that a body lists
abbrev pub tags_in : ByteList → Option (List TagName)
tags_in body = option_and_then tags_within (json_in body)
