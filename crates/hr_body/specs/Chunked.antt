-- A chunked body in httparse's grammar of size lines and of field lines (RFC 9112, section 7.1).
use Rattle.std.specs.Prelude.{◌≡◌, ℕ, ◌<◌, ◌≤◌, List, [], ◌∷◌, ◌++◌, length}
use Rattle.httparse.specs.Grammar.{ChunkLine, ReadsChunkLine, print_chunk_line, chunk_size, Field, LineEnd, ReadsSection, print_section}
use Rattle.hr_base.specs.Bytes.{ByteList}
use Rattle.hr_body.specs.declared.stage.TheConstants.{LINE_LIMIT}

-- the bytes begin with a size line within the limit of lines
pub record ReadsSizeLine (bytes : ByteList) (size : ℕ) (rest : ByteList) : Type 0 where
  pub line : ChunkLine
  pub reads : ReadsChunkLine bytes line rest
  pub size_is : size ≡ chunk_size line
  pub short : length (print_chunk_line line) ≤ LINE_LIMIT

-- the bytes begin with a trailer section within the same limit, the empty line behind it counted
pub record ReadsTrailer (bytes rest : ByteList) : Type 0 where
  pub fields : List Field
  pub last : LineEnd
  pub reads : ReadsSection bytes fields last rest
  pub short : length (print_section fields last) ≤ LINE_LIMIT

-- the bytes begin with this chunked body, and the rest follows it: chunks that aren't empty, each
-- behind its size, then the size 0 and the trailer section
pub data IsChunked : ByteList → ByteList → ByteList → Type 0 where
  last : (bytes trailer rest : ByteList) → ReadsSizeLine bytes 0 trailer
      → ReadsTrailer trailer rest → IsChunked bytes [] rest
  chunk : (bytes piece after body rest : ByteList) → 0 < length piece
      → ReadsSizeLine bytes (length piece) (piece ++ 13 ∷ 10 ∷ after)
      → IsChunked after body rest → IsChunked bytes (piece ++ body) rest
