-- The text that is written for a message (RFC 9112, sections 3 to 6).
use Rattle.std.specs.Prelude.{ℕ, Bool, true, false, not, ◌&&◌, nat_le, List, [], ◌∷◌, ◌++◌, length, map, if◌then◌else◌, codes, decimal, unwrap_or}
use Rattle.http.specs.StatusCode.{reason_phrase}
use Rattle.http1.specs.Head.{response_text, request_text, status_digits, print_headers}
use Rattle.hr_base.specs.Bytes.{ByteList, Text}
use Rattle.hr_frame.specs.declared.head.Head.{Head}
use Rattle.hr_frame.specs.Framing.{has_no_body}
use Rattle.hr_head.specs.declared.verb.Verb.{Verb}
use Rattle.hr_head.specs.declared.verb.Verb.TheVariants as Method
use Rattle.hr_head.specs.Field.{pair_of}
use Rattle.hr_http1.specs.declared.message.Reply.{Reply}
use Rattle.hr_http1.specs.declared.message.Request.{Request}

-- the reason of a status (RFC 9110, section 15), which is empty where it has none
unfoldable pub reason_of : ℕ → Text
reason_of status =
    if nat_le 100 status && nat_le status 999 then unwrap_or (reason_phrase status) [] else []

-- the line that says the length of the body, where one is written
abbrev pub length_lines : Bool → ℕ → List Head
length_lines false len = []
length_lines true len = record { name = codes "Content-Length"; value = decimal len } ∷ []

-- the body, where one is written
abbrev pub sent_body : Bool → ByteList → ByteList
sent_body false body = []
sent_body true body = body

-- the text of field lines
abbrev pub print_lines : List Head → ByteList
print_lines heads = print_headers (map pair_of heads)

-- whether a reply is written with its body, and with the length of it
abbrev pub has_content : Bool → ℕ → Bool
has_content head_only status = not (has_no_body head_only status)

-- the field lines that are written for a reply
abbrev pub reply_lines : Bool → Reply → List Head
reply_lines content reply = reply.heads ++ length_lines content (length reply.body)

-- the head that is written for a reply
abbrev pub reply_head : Bool → Reply → ByteList
reply_head content reply =
    response_text 1 reply.status (reason_of reply.status) (map pair_of (reply_lines content reply))

-- all that is written for a reply
abbrev pub reply_text : Bool → Reply → ByteList
reply_text head_only reply =
    reply_head (has_content head_only reply.status) reply
    ++ sent_body (has_content head_only reply.status) reply.body

-- the method that is written for a verb
abbrev pub method_of : Verb → Text
method_of Method.Get = codes "GET"
method_of Method.Head = codes "HEAD"
method_of Method.Post = codes "POST"
method_of Method.Put = codes "PUT"
method_of Method.Patch = codes "PATCH"
method_of Method.Delete = codes "DELETE"
method_of Method.Other = []

-- whether the length of the body is written with this verb
abbrev pub has_length : Verb → Bool
has_length Method.Get = false
has_length Method.Head = false
has_length Method.Post = true
has_length Method.Put = true
has_length Method.Patch = true
has_length Method.Delete = false
has_length Method.Other = true

-- the field lines that are written for a request
abbrev pub request_lines : Request → List Head
request_lines request =
    request.heads ++ length_lines (has_length request.verb) (length request.body)

-- the head that is written for a request
abbrev pub request_head : Request → ByteList
request_head request =
    request_text (method_of request.verb) request.target 1 (map pair_of (request_lines request))

-- all that is written for a request
abbrev pub request_text_of : Request → ByteList
request_text_of request = request_head request ++ request.body

-- the first line of a reply
abbrev pub status_line : ℕ → ByteList
status_line status =
    codes "HTTP/1.1 " ++ (status_digits status ++ (32 ∷ (reason_of status ++ (13 ∷ 10 ∷ []))))

-- the first line of a request
abbrev pub request_line : Verb → Text → ByteList
request_line verb target =
    method_of verb ++ (32 ∷ (target ++ (codes " HTTP/1.1" ++ (13 ∷ 10 ∷ []))))
