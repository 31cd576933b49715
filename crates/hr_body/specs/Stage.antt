-- The bodies of messages byte by byte: from a stage, a byte leads to the next one, or no body goes
-- on so (RFC 9112, sections 6.3 and 7.1).
use Rattle.std.specs.Prelude.{⊤, ℕ, ◌+◌, ◌-◌, ◌*◌, ◌≤◌, [], ◌∷◌, Option, Some, None, if◌then◌else◌, nat_lt, ◌==◌}
use Rattle.std.specs.Char.{is_ascii_hexdigit, digit_value}
use Rattle.httparse.specs.Grammar.{is_token_byte, is_value_byte, is_ows}
use Rattle.hr_base.specs.Bytes.{ByteList}
use Rattle.hr_body.specs.declared.stage.TheConstants.{LINE_LIMIT}
use Rattle.hr_body.specs.declared.stage.Part.{Part}
use Rattle.hr_body.specs.declared.stage.Part.TheVariants.{Size, Blank, Extension, SizeFeed, FieldStart, FieldName, FieldValue, FieldFeed, LastFeed}
use Rattle.hr_body.specs.declared.stage.Coding.{Coding}
use Rattle.hr_body.specs.declared.stage.Coding.TheVariants.{Line, DataEnd, DataFeed}
use Rattle.hr_body.specs.declared.stage.Stage.{Stage}
use Rattle.hr_body.specs.declared.stage.Stage.TheVariants.{Between, Chunk, Sized, ToEnd, Done}

-- in this part of a line, which may have so many bytes more
abbrev pub in_line : ℕ → Part → Option Stage
in_line room part = Some (Between (Line room part))

-- behind the digits of a size, or the blanks that follow them: a blank, an extension, or the end
abbrev pub size_step : ℕ → ℕ → ℕ → Option Stage
size_step room value b =
    if is_ows b then in_line room (Blank value)
    else (if b == 59 then in_line room (Extension value)
    else (if b == 13 then in_line room (SizeFeed value) else None))

-- a digit more, of which there are at most 16, so that the size is below 2^64
abbrev pub digit_more : ℕ → ℕ → ℕ → ℕ → Option Stage
digit_more room count value b =
    if nat_lt count 16
    then (if nat_lt value 1152921504606846976
    then in_line room (Size (count + 1) (value * 16 + digit_value b)) else None)
    else None

-- among the digits of a size
abbrev pub digit_step : ℕ → ℕ → ℕ → ℕ → Option Stage
digit_step room count value b =
    if is_ascii_hexdigit b then digit_more room count value b
    else (if count == 0 then None else size_step room value b)

-- behind a line that gives a size: the data, or the trailer section where the size is 0
abbrev pub chunk_start : ℕ → Stage
chunk_start value = if value == 0 then Between (Line LINE_LIMIT FieldStart) else Chunk (value - 1)

-- behind a byte of a line, which may have so many bytes more
abbrev pub part_step : ℕ → Part → ℕ → Option Stage
part_step room (Size count value) b = digit_step room count value b
part_step room (Blank value) b = size_step room value b
part_step room (Extension value) b =
    if b == 13 then in_line room (SizeFeed value)
    else (if b == 10 then None else in_line room (Extension value))
part_step room (SizeFeed value) b = if b == 10 then Some (chunk_start value) else None
part_step room FieldStart b =
    if is_token_byte b then in_line room FieldName
    else (if b == 13 then in_line room LastFeed else (if b == 10 then Some Done else None))
part_step room FieldName b =
    if is_token_byte b then in_line room FieldName
    else (if b == 58 then in_line room FieldValue else None)
part_step room FieldValue b =
    if is_value_byte b then in_line room FieldValue
    else (if b == 13 then in_line room FieldFeed
    else (if b == 10 then in_line room FieldStart else None))
part_step room FieldFeed b = if b == 10 then in_line room FieldStart else None
part_step room LastFeed b = if b == 10 then Some Done else None

-- behind a byte of the chunked coding that is no data
abbrev pub coding_step : Coding → ℕ → Option Stage
coding_step (Line room part) b = if room == 0 then None else part_step (room - 1) part b
coding_step DataEnd b = if b == 13 then Some (Between DataFeed) else None
coding_step DataFeed b = if b == 10 then in_line LINE_LIMIT (Size 0 0) else None

-- where a chunked body begins
abbrev pub chunked_start : Stage
chunked_start = Between (Line LINE_LIMIT (Size 0 0))

-- behind so many bytes of a chunk's data
abbrev pub chunk_past : ℕ → ℕ → Stage
chunk_past more n = if nat_lt more n then Between DataEnd else Chunk (more - n)

-- behind so many bytes of a body of a known length
abbrev pub sized_past : ℕ → ℕ → Stage
sized_past more n = if nat_lt more n then Done else Sized (more - n)

-- the stage behind a byte, or none where no body goes on with it
unfoldable pub step_of : Stage → ℕ → Option Stage
step_of (Between coding) b = coding_step coding b
step_of (Chunk more) b = Some (chunk_past more 1)
step_of (Sized more) b = Some (sized_past more 1)
step_of ToEnd b = Some ToEnd
step_of Done b = None

-- what a byte gives of the body: itself where it is data
abbrev pub data_of : Stage → ℕ → ByteList
data_of (Between coding) b = []
data_of (Chunk more) b = b ∷ []
data_of (Sized more) b = b ∷ []
data_of ToEnd b = b ∷ []
data_of Done b = []

-- the next byte, if one comes, is data
abbrev pub WantsData : Stage → Type 0
WantsData (Between coding) = ⊥
WantsData (Chunk more) = ⊤
WantsData (Sized more) = ⊤
WantsData ToEnd = ⊤
WantsData Done = ⊥

-- so many bytes, if they come, are all data
abbrev pub WantsAtLeast : Stage → ℕ → Type 0
WantsAtLeast (Between coding) n = ⊥
WantsAtLeast (Chunk more) n = n ≤ more + 1
WantsAtLeast (Sized more) n = n ≤ more + 1
WantsAtLeast ToEnd n = ⊤
WantsAtLeast Done n = ⊥

-- the stage behind so many bytes of data
abbrev pub stage_past : Stage → ℕ → Stage
stage_past (Between coding) n = Between coding
stage_past (Chunk more) n = chunk_past more n
stage_past (Sized more) n = sized_past more n
stage_past ToEnd n = ToEnd
stage_past Done n = Done

-- what a part adds to the bytes that may come before the next data
abbrev pub part_ahead : Part → ℕ
part_ahead (Size count value) = 65540
part_ahead (Blank value) = 65540
part_ahead (Extension value) = 65540
part_ahead (SizeFeed value) = 65540
part_ahead FieldStart = 1
part_ahead FieldName = 1
part_ahead FieldValue = 1
part_ahead FieldFeed = 1
part_ahead LastFeed = 1

-- a bound on the bytes of the coding that may come before the next data
abbrev pub coding_ahead : Coding → ℕ
coding_ahead (Line room part) = room + part_ahead part
coding_ahead DataEnd = 131078
coding_ahead DataFeed = 131077

-- the same bound, for any stage
abbrev pub ahead : Stage → ℕ
ahead (Between coding) = coding_ahead coding
ahead (Chunk more) = 0
ahead (Sized more) = 0
ahead ToEnd = 0
ahead Done = 0
