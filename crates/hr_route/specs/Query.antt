-- The queries of targets (RFC 3986, section 3.4; WHATWG URL, "application/x-www-form-urlencoded").
use Rattle.std.specs.Prelude.{ℕ, ◌&&◌, nat_le, List, [], ◌∷◌, ◌++◌, codes, flat_map, Option, Some, None, is_some, unwrap_or, if◌then◌else◌}
use Rattle.std.specs.Str.{bytes_eq}
use Rattle.form_urlencoded.specs.Form.{decode}
use Rattle.hr_base.specs.Bytes.{Text}
use Rattle.hr_call.specs.Reading as call
use Rattle.hr_digest.specs.declared.digest.Digest.{Digest}
use Rattle.hr_frame.specs.Length.{length_of}
use Rattle.hr_text.specs.Cutting.{cut_at, split_at_byte}
use Rattle.hr_route.specs.declared.query.TheConstants.{PAGE, PAGE_LIMIT}
use Rattle.hr_route.specs.Found.{as_list}

-- what stands before the `?` of a target
abbrev pub path_of : Text → Text
path_of target = (cut_at 63 target).0

-- what stands behind the `?` of a target
abbrev pub query_of : Text → Text
query_of target = unwrap_or (cut_at 63 target).1 []

-- the pieces of a query between its `&`
abbrev pub pieces : Text → List Text
pieces query = split_at_byte 38 query

-- the value of a piece with this key: what stands behind its first `=`
abbrev pub value_of : Text → Text → Option Text
value_of key piece =
    if bytes_eq (cut_at 61 piece).0 key then Some (unwrap_or (cut_at 61 piece).1 []) else None

-- the values of the pieces with this key, in order
unfoldable pub values_in : Text → List Text → List Text
values_in key parts = flat_map (λ piece. as_list (value_of key piece)) parts

-- the values of a key in a query, in order
abbrev pub values_of : Text → Text → List Text
values_of key query = values_in key (pieces query)

-- the pieces that don't have this key, in order
unfoldable pub others : Text → List Text → List Text
others key [] = []
others key (piece ∷ rest) =
    if is_some (value_of key piece) then others key rest else piece ∷ others key rest

-- pieces behind a mark: this one before the first, and `&` before each other
abbrev pub marked : ℕ → List Text → Text
marked mark [] = []
marked mark (piece ∷ rest) = mark ∷ (piece ++ marked 38 rest)

-- a target without the pieces of this key
abbrev pub without : Text → Text → Text
without key target = path_of target ++ marked 63 (others key (pieces (query_of target)))

-- the size of a page that a value says
abbrev pub page_of : Option ℕ → Option ℕ
page_of None = None
page_of (Some size) = if nat_le 1 size && nat_le size PAGE_LIMIT then Some size else None

-- the size of a page that the text of a value says
abbrev pub page_value : Text → Option ℕ
page_value value = page_of (length_of value)

-- the size of a page by the values of the key `n`
abbrev pub page_asked : List Text → Option ℕ
page_asked [] = Some PAGE
page_asked (value ∷ []) = page_value value
page_asked (value ∷ other ∷ values) = None

-- the size of a page that a query asks for
abbrev pub page_in : Text → Option ℕ
page_in query = page_asked (values_of (codes "n") query)

-- the item behind which a page is to begin, by the values of the key `last`
abbrev pub last_asked : List Text → Option (Option Text)
last_asked [] = Some None
last_asked (value ∷ []) = Some (Some (decode value))
last_asked (value ∷ other ∷ values) = None

-- what a query asks of a listing, where its size is sound
abbrev pub listing_of : Option ℕ → Option (Option Text) → Option (Option Text)
listing_of None last = None
listing_of (Some size) last = last

-- what a query asks of a listing
abbrev pub listing_asked : Text → Option (Option Text)
listing_asked query = listing_of (page_in query) (last_asked (values_of (codes "last") query))

-- the digest by the values of the key `digest`
abbrev pub digest_asked : List Text → Option Digest
digest_asked [] = None
digest_asked (value ∷ []) = call.digest_in (decode value)
digest_asked (value ∷ other ∷ values) = None
