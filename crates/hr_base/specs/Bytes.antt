-- The lists of bytes that contracts speak of, by what they are. (Our own.)
use Rattle.std.specs.Prelude.{ℕ, List}

-- any bytes, as the content of a blob, a manifest or a message
abbrev pub ByteList : Type 0
ByteList = List ℕ

-- the bytes of something written, as a line, a word or a pattern
abbrev pub Text : Type 0
Text = List ℕ

-- the text of a media type (RFC 6838, section 4.2)
abbrev pub Media : Type 0
Media = List ℕ
