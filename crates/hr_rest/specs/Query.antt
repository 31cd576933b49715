-- The queries of targets (RFC 3986, section 3.4; WHATWG URL, "application/x-www-form-urlencoded").
-- Of a repeated key the first counts.
use Rattle.std.specs.Prelude.{ℕ, List, [], ◌∷◌, codes, Option, Some, None, unwrap_or, if◌then◌else◌}
use Rattle.std.specs.Str.{bytes_eq}
use Rattle.hr_base.specs.Bytes.{Text}
use Rattle.hr_text.specs.Cutting.{cut_at, split_at_byte}
use Rattle.hr_rest.specs.Number.{page_in, size_in}

-- what stands before the `?` of a target
abbrev pub path_of : Text → Text
path_of target = (cut_at 63 target).0

-- what stands behind the `?` of a target
abbrev pub query_of : Text → Text
query_of target = unwrap_or (cut_at 63 target).1 []

-- the value of a piece with this key: what stands behind its first `=`
abbrev pub value_of : Text → Text → Option Text
value_of key piece =
    if bytes_eq (cut_at 61 piece).0 key then Some (unwrap_or (cut_at 61 piece).1 []) else None

-- the first of two values that is there
abbrev pub first_of : Option Text → Option Text → Option Text
first_of (Some value) other = Some value
first_of None other = other

-- the first value of a key among the pieces of a query
abbrev pub value_among : Text → List Text → Option Text
value_among key [] = None
value_among key (piece ∷ pieces) = first_of (value_of key piece) (value_among key pieces)

-- the first value of a key in a query, whose pieces stand between its `&`
abbrev pub value_in : Text → Text → Option Text
value_in key query = value_among key (split_at_byte 38 query)

-- the number of a page, by the value of its key
abbrev pub page_by : Option Text → Option ℕ
page_by None = Some 1
page_by (Some value) = page_in value

-- how many items a page has, by the value of its key
abbrev pub size_by : Option Text → Option ℕ
size_by None = Some 10
size_by (Some value) = size_in value

-- both numbers, where there are both
abbrev pub both : Option ℕ → Option ℕ → Option (ℕ × ℕ)
both None other = None
both (Some one) None = None
both (Some one) (Some other) = Some (one, other)

-- the page that a query asks for: its number and how many items it has
abbrev pub paging_of : Text → Option (ℕ × ℕ)
paging_of query =
    both (page_by (value_in (codes "page") query)) (size_by (value_in (codes "page_size") query))
