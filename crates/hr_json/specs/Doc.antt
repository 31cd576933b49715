-- Which value some bytes are as a document (RFC 8259, sections 2 and 8.1).
use Rattle.std.specs.Prelude.{Option, None, if◌then◌else◌}
use Rattle.std.specs.Str.{is_utf8}
use Rattle.serde_json.specs.Data.{Data}
use Rattle.serde_json.specs.Read.{read}
use Rattle.serde_json.specs.View.{view}
use Rattle.hr_base.specs.Bytes.{ByteList}
use Rattle.hr_json.specs.declared.doc.Doc.{Doc}

-- The JSON value that some bytes are read as, where they are a text in UTF-8.
abbrev pub document_of : ByteList → Option Data
document_of bytes = if is_utf8 bytes then read bytes else None

-- The JSON value of a document that was read.
abbrev pub content_of : Doc → Data
content_of doc = view doc.value
