-- The requests of calls (OCI Distribution 1.1, "Endpoints").
use Rattle.std.specs.Prelude.{⊤, ◌+◌, ◌-◌, ℕ, List, [], ◌∷◌, ◌++◌, length, codes, Option, Some, None}
use Rattle.hr_adapter.specs.Media.{FitsHeader}
use Rattle.hr_base.specs.Bytes.{ByteList, Text}
use Rattle.hr_call.specs.declared.call.Call.{Call}
use Rattle.hr_call.specs.declared.call.Call.TheVariants as call
use Rattle.hr_frame.specs.declared.head.Head.{Head}
use Rattle.hr_http1.specs.declared.message.Request.{Request}
use Rattle.hr_manifest.specs.declared.media.TheConstants.{DOCKER_IMAGE, DOCKER_INDEX, OCI_IMAGE, OCI_INDEX}
use Rattle.hr_route.specs.Target.{IsFit, route_asked, target_text, verb_of}
use Rattle.hr_wire.specs.Line.{line}
use Rattle.hr_wire.specs.Range.{FitsRange, range_text}

-- the media types of manifests that are read here
abbrev pub accepted : Text
accepted =
    OCI_IMAGE.now ++ (codes ", " ++ (OCI_INDEX.now ++ (codes ", "
    ++ (DOCKER_IMAGE.now ++ (codes ", " ++ DOCKER_INDEX.now)))))

-- the line of the place of a chunk, where that is told
abbrev pub range_lines : Option ℕ → ByteList → List Head
range_lines None bytes = []
range_lines (Some from) bytes =
    line (codes "Content-Range") (range_text from (from + length bytes - 1)) ∷ []

-- the lines of a call that others don't have
abbrev pub own_lines : Call → List Head
own_lines call.Ping = []
own_lines (call.Catalog last) = []
own_lines (call.Tags repo last) = []
own_lines (call.HeadManifest repo reference) = line (codes "Accept") accepted ∷ []
own_lines (call.GetManifest repo reference) = line (codes "Accept") accepted ∷ []
own_lines (call.HeadBlob repo digest) = []
own_lines (call.GetBlob repo digest) = []
own_lines (call.BeginUpload repo) = []
own_lines (call.EndUpload at digest bytes) = []
own_lines (call.PutManifest repo reference media bytes) = line (codes "Content-Type") media ∷ []
own_lines (call.Chunk at from bytes) =
    line (codes "Content-Type") (codes "application/octet-stream") ∷ range_lines from bytes
own_lines (call.Progress at) = []

-- the field lines of a call to a host
abbrev pub lines_of : Text → Call → List Head
lines_of host called =
    line (codes "Host") host ∷ (own_lines called ++ line (codes "Connection") (codes "close") ∷ [])

-- the bytes that a call sends
abbrev pub body_of : Call → ByteList
body_of call.Ping = []
body_of (call.Catalog last) = []
body_of (call.Tags repo last) = []
body_of (call.HeadManifest repo reference) = []
body_of (call.GetManifest repo reference) = []
body_of (call.HeadBlob repo digest) = []
body_of (call.GetBlob repo digest) = []
body_of (call.BeginUpload repo) = []
body_of (call.EndUpload at digest bytes) = bytes
body_of (call.PutManifest repo reference media bytes) = bytes
body_of (call.Chunk at from bytes) = bytes
body_of (call.Progress at) = []

-- the request of a call to a host
abbrev pub request_value : Text → Call → Request
request_value host called = record {
  verb = verb_of (route_asked called);
  target = target_text (route_asked called);
  heads = lines_of host called;
  body = body_of called;
}

-- the range of a chunk can be written
abbrev pub CanBeSent : Call → Type 0
CanBeSent call.Ping = ⊤
CanBeSent (call.Catalog last) = ⊤
CanBeSent (call.Tags repo last) = ⊤
CanBeSent (call.HeadManifest repo reference) = ⊤
CanBeSent (call.GetManifest repo reference) = ⊤
CanBeSent (call.HeadBlob repo digest) = ⊤
CanBeSent (call.GetBlob repo digest) = ⊤
CanBeSent (call.BeginUpload repo) = ⊤
CanBeSent (call.EndUpload at digest bytes) = ⊤
CanBeSent (call.PutManifest repo reference media bytes) = ⊤
CanBeSent (call.Chunk at from bytes) = FitsRange from bytes
CanBeSent (call.Progress at) = ⊤

-- the media type of a manifest is plain
abbrev pub HasPlainMedia : Call → Type 0
HasPlainMedia call.Ping = ⊤
HasPlainMedia (call.Catalog last) = ⊤
HasPlainMedia (call.Tags repo last) = ⊤
HasPlainMedia (call.HeadManifest repo reference) = ⊤
HasPlainMedia (call.GetManifest repo reference) = ⊤
HasPlainMedia (call.HeadBlob repo digest) = ⊤
HasPlainMedia (call.GetBlob repo digest) = ⊤
HasPlainMedia (call.BeginUpload repo) = ⊤
HasPlainMedia (call.EndUpload at digest bytes) = ⊤
HasPlainMedia (call.PutManifest repo reference media bytes) = FitsHeader media
HasPlainMedia (call.Chunk at from bytes) = ⊤
HasPlainMedia (call.Progress at) = ⊤

-- a call that is read back from its request: what its first line says is fit to be asked, and so is
-- what stands in its lines
pub record IsSendable (called : Call) : Type 0 where
  pub asked : IsFit (route_asked called)
  pub ranged : CanBeSent called
  pub plain : HasPlainMedia called
