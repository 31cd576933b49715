-- Lemmas on messages that are written and read back.
use Rattle.std.proofs.Common.{◌≡◌, ◌≢◌, ℕ, ◌<◌, ◌≤◌, ◌^◌, rules, reverse, not, Bool, true, false, ◌&&◌, if◌then◌else◌, List, [], ◌∷◌, ◌++◌, length, map, refl, sym, ap, subst, ◌∙◌, append_assoc, append-nil, zero, suc, arith, Some, None}
use Rattle.std.specs.Prelude.{codes, decimal, nat_lt, nat_le}
use Rattle.std.specs.List.{list_all}
use Rattle.std.specs.Char.{is_ascii_digit}
use Rattle.std.specs.Str.{all_ascii_digits}
use Rattle.std.specs.Str.Parse.{digits_value}
use Rattle.std.proofs.lemmas.Bool.{and_parts}
use Rattle.std.proofs.lemmas.Bool.Decides.{nat_tests, Decides-below_and}
use Rattle.std.proofs.lemmas.Fmt.{digits_decimal, digits_value-decimal, decimal_nonempty, length-decimal-le}
use Rattle.std.proofs.lemmas.Grind.{flat_map-append}
use Rattle.std.proofs.lemmas.List.{length-map, map-append}
use Rattle.std.proofs.lemmas.List.Folds.{list_all-append}
use Rattle.std.proofs.lemmas.List.Sums.{list_all-from_AllPass, AllPass-from_list_all}
use Rattle.std.proofs.lemmas.Str.Parse.{IsNumeralModel, numerals_by_value}
use Rattle.httparse.specs.Grammar.{is_ows, is_token, is_value_byte, print_request, print_response}
use Rattle.httparse.proofs.OnLiterals.{httparse_on_literals}
use Rattle.httparse.proofs.TrimLemmas.{AllPass-reverse}
use Rattle.http1.specs.Head.{starts_visible, response_head, request_head as request_tree, field_of, is_header, is_trimmed_value, is_field_value, are_headers, is_status_line, is_request_line, head_refusal}
use Rattle.http1.proofs.HeadRoundTrip.{response_reads_back, request_reads_back}
use Rattle.hr_base.specs.Bytes.{ByteList, Text}
use Rattle.hr_frame.specs.declared.framing.Framing.{Framing}
use Rattle.hr_frame.specs.declared.framing.Framing.TheVariants.{NoBody, Sized, ToEnd}
use Rattle.hr_frame.specs.declared.head.Head.{Head}
use Rattle.hr_frame.specs.Framing.{framed_by, framing_of, has_no_body, reply_framing, request_framing, sized_by}
use Rattle.hr_frame.specs.Length.{is_length, length_of}
use Rattle.hr_frame.specs.Named.{named_value, values_named}
use Rattle.hr_head.specs.declared.verb.Verb.{Verb}
use Rattle.hr_head.specs.declared.verb.Verb.TheVariants as Method
use Rattle.hr_head.specs.Field.{pair_of}
use Rattle.hr_head.specs.Verb.{IsVerb}
use Rattle.hr_http1.specs.declared.message.Reply.{Reply}
use Rattle.hr_http1.specs.declared.message.Request.{Request}
use Rattle.hr_http1.specs.Body.{ReadsBody}
use Rattle.hr_http1.specs.Message.{line_of}
use Rattle.hr_http1.specs.Reply.{is_interim, SpellsReply}
use Rattle.hr_http1.specs.Request.{SpellsRequest}
use Rattle.hr_http1.specs.Sendable.{IsSendableReply, IsSendableRequest, reply_as_read, request_as_read}
use Rattle.hr_http1.specs.Written.{reason_of, length_lines, sent_body, has_content, has_length, reply_lines, reply_text, method_of, request_lines, request_text_of}
use Rattle.hr_http1.proofs.MessageLemmas.{lines_are}

own : IsNumeralModel (λ ds. list_all is_ascii_digit ds ≡ true) (digits_value 10)
own = numerals_by_value _ (search rules)

digit_visible : (x : ℕ) → is_ascii_digit x ≡ true → not (is_ows x) ≡ true
digit_visible x d = grind (arith, nat_tests)

digit_value_byte : (x : ℕ) → is_ascii_digit x ≡ true → is_value_byte x ≡ true
digit_value_byte x d = grind (arith, nat_tests)

digits_visible : (ds : List ℕ) → list_all is_ascii_digit ds ≡ true → starts_visible ds ≡ true
digits_visible [] all = refl
digits_visible (x ∷ xs) all = digit_visible x (and_parts (is_ascii_digit x) (list_all is_ascii_digit xs) all).0

digits_are_text : (ds : List ℕ) → list_all is_ascii_digit ds ≡ true → list_all is_value_byte ds ≡ true
digits_are_text [] all = refl
digits_are_text (x ∷ xs) all =
    let parts = and_parts (is_ascii_digit x) (list_all is_ascii_digit xs) all in
    λ i. digit_value_byte x parts.0 i && digits_are_text xs parts.1 i

digits_reverse : (ds : List ℕ) → list_all is_ascii_digit ds ≡ true → list_all is_ascii_digit (reverse ds) ≡ true
digits_reverse ds all = list_all-from_AllPass is_ascii_digit (reverse ds) (AllPass-reverse is_ascii_digit ds (AllPass-from_list_all is_ascii_digit ds all))

-- decimal digits are a value, and a length
decimal_value : (n : ℕ) → n < 2 ^ 63 → is_trimmed_value (decimal n) ≡ true
decimal_value n small =
    let big : n < 2 ^ 64 = omega arith in
    let all = digits_decimal own n big in
    λ i. digits_visible (decimal n) all i && (digits_visible (reverse (decimal n)) (digits_reverse (decimal n) all) i && digits_are_text (decimal n) all i)

decimal_length : (n : ℕ) → n < 2 ^ 63 → length_of (decimal n) ≡ Some n
decimal_length n small =
    let big : n < 2 ^ 64 = omega arith in
    let all = digits_decimal own n big in
    let digits : all_ascii_digits (decimal n) ≡ true = all in
    let value = digits_value-decimal own n big in
    let some = decimal_nonempty n big in
    let few : length (decimal n) ≤ 19 = length-decimal-le 19 n (omega arith) (omega arith) big in
    let fits : digits_value 10 (decimal n) < 2 ^ 63 = omega (arith, value, small) in
    let a : nat_lt 0 (length (decimal n)) ≡ true = grind (arith, nat_tests) in
    let b : nat_le (length (decimal n)) 19 ≡ true = grind (arith, nat_tests) in
    let d : nat_lt (digits_value 10 (decimal n)) (2 ^ 63) ≡ true = grind (arith, nat_tests) in
    let is : is_length (decimal n) ≡ true = (λ i. a i && (b i && (digits i && d i))) in
    ap (λ t. if t then Some (digits_value 10 (decimal n)) else None) is ∙ ap (λ k. Some k) value

length_name : is_token (codes "Content-Length") ≡ true
unfolding httparse_on_literals
length_name = refl

lines_valid : (w : Bool) (n : ℕ) → n < 2 ^ 63 → list_all is_header (map pair_of (length_lines w n)) ≡ true
lines_valid false n small = refl
lines_valid true n small = λ i. (length_name i && decimal_value n small i) && true

all_valid : (hs : List Head) (w : Bool) (n : ℕ) → n < 2 ^ 63 → are_headers (map pair_of hs) ≡ true → are_headers (map pair_of (hs ++ length_lines w n)) ≡ true
unfolding are_headers
all_valid hs w n small valid =
    ap (list_all is_header) (map-append pair_of hs (length_lines w n))
    ∙ list_all-append is_header (map pair_of hs) (map pair_of (length_lines w n)) ∙ (λ i. valid i && lines_valid w n small i)

named_more : (name : Text) (hs ls : List Head) → values_named name (hs ++ ls) ≡ values_named name hs ++ values_named name ls
unfolding values_named
named_more name hs ls = flat_map-append (named_value name) hs ls

one_length : (v : Text) → values_named (codes "content-length") (record { name = codes "Content-Length"; value = v } ∷ []) ≡ v ∷ []
unfolding values_named
one_length v = refl

no_coding : (v : Text) → values_named (codes "transfer-encoding") (record { name = codes "Content-Length"; value = v } ∷ []) ≡ []
unfolding values_named
no_coding v = refl

-- the framing of what is written, where it is this without the length
abbrev written_form : Framing → Bool → ℕ → Framing
written_form neither false n = neither
written_form neither true n = Sized n

framed_lines : (neither : Framing) (w : Bool) (hs : List Head) (n : ℕ) → n < 2 ^ 63 → values_named (codes "content-length") hs ≡ [] → values_named (codes "transfer-encoding") hs ≡ []
    → framing_of neither (hs ++ length_lines w n) ≡ Some (written_form neither w n)
framed_lines neither false hs n small len cod =
    let lens : values_named (codes "content-length") (hs ++ []) ≡ [] = ap (λ l. values_named (codes "content-length") l) (append-nil hs) ∙ len in
    let cods : values_named (codes "transfer-encoding") (hs ++ []) ≡ [] = ap (λ l. values_named (codes "transfer-encoding") l) (append-nil hs) ∙ cod in
    (λ i. framed_by neither (lens i) (cods i))
framed_lines neither true hs n small len cod =
    let lines = length_lines true n in
    let lens : values_named (codes "content-length") (hs ++ lines) ≡ decimal n ∷ [] =
    named_more (codes "content-length") hs lines ∙ ap (λ l. l ++ values_named (codes "content-length") lines) len ∙ one_length (decimal n) in
    let cods : values_named (codes "transfer-encoding") (hs ++ lines) ≡ [] =
    named_more (codes "transfer-encoding") hs lines ∙ ap (λ l. l ++ values_named (codes "transfer-encoding") lines) cod ∙ no_coding (decimal n) in
    (λ i. framed_by neither (lens i) (cods i)) ∙ ap sized_by (decimal_length n small)

-- the framing of a written reply, by whether it has no body
framed_reply : (none : Bool) (hs : List Head) (n : ℕ) → n < 2 ^ 63 → (not none ≡ true → values_named (codes "content-length") hs ≡ []) → (not none ≡ true → values_named (codes "transfer-encoding") hs ≡ [])
    → (if none then Some NoBody else framing_of ToEnd (hs ++ length_lines (not none) n)) ≡ Some (written_form NoBody (not none) n)
framed_reply true hs n small len cod = refl
framed_reply false hs n small len cod = framed_lines ToEnd true hs n small (len refl) (cod refl)

body_written : (w : Bool) (body rest : ByteList) → ReadsBody (written_form NoBody w (length body)) (sent_body w body ++ rest) (sent_body w body) rest
body_written false body rest = (refl, refl)
body_written true body rest = (refl, refl)

reasons_below : ℕ → Bool
reasons_below zero = true
reasons_below (suc n) = is_field_value (reason_of n) && reasons_below n

-- each reason may be written
reason_valid : (n : ℕ) → n ≤ 999 → is_field_value (reason_of n) ≡ true
unfolding reasons_below reason_of
reason_valid n small =
    let test = λ (k : ℕ). is_field_value (reason_of k) in
    (Decides-below_and test (λ k. test k ≡ true) reasons_below (λ k. (λ x. x, λ x. x)) refl (λ _. refl) 1000).0 refl n (omega (arith, small))

start_valid : (status : ℕ) (reason : Text) → 200 ≤ status → status ≤ 999 → is_field_value reason ≡ true → is_status_line 1 status reason ≡ true
start_valid status reason low high text =
    let a : nat_le 100 status ≡ true = grind (arith, nat_tests) in
    let b : nat_le status 999 ≡ true = grind (arith, nat_tests) in
    λ i. true && (a i && (b i && text i))

accepted : (line : Bool) (hs : List (Text × Text)) → line ≡ true → are_headers hs ≡ true → head_refusal line hs ≡ None
accepted line hs is valid = rw (is, valid) refl

not_interim : (status : ℕ) → 200 ≤ status → is_interim status ≡ false
not_interim status low = grind (arith, nat_tests)

-- a reply that was written is read back
pub reply_back : (head_only : Bool) (reply : Reply) (rest : ByteList) → IsSendableReply head_only reply → SpellsReply head_only (reply_text head_only reply ++ rest) (reply_as_read head_only reply) rest
reply_back head_only reply rest fine =
    let w = has_content head_only reply.status in
    let n = length reply.body in
    let heads = reply_lines w reply in
    let hs = map pair_of heads in
    let h = response_head 1 reply.status (reason_of reply.status) hs in
    let after = sent_body w reply.body ++ rest in
    let valid = all_valid reply.heads w n fine.body fine.lines in
    let line = start_valid reply.status (reason_of reply.status) fine.low fine.high (reason_valid reply.status fine.high) in
    let back = response_reads_back 1 reply.status (reason_of reply.status) hs after (accepted (is_status_line 1 reply.status (reason_of reply.status)) hs line valid) in
    let lines : heads ≡ map line_of h.fields = lines_are heads h.fields (sym back.fields) in
    let few : length h.fields ≤ 100 = subst (λ k. k ≤ 100) (sym (length-map hs field_of ∙ length-map heads pair_of)) fine.few in
    let framed = framed_reply (has_no_body head_only reply.status) reply.heads n fine.body fine.no_length fine.no_coding in
    record {
      heads = record { passed = []; head = h };
      holds = record {
        form = written_form NoBody w n;
        after = after;
        frames = record {
          ok = record {
            few = omega arith;
            interim = tt;
            within = record { valid = back.reads.0; few = few; short = fine.short };
            last = ap is_interim back.code ∙ not_interim reply.status fine.low;
          };
          cut = append_assoc (print_response h) (sent_body w reply.body) rest;
          framed = (λ i. reply_framing head_only (back.code i) (sym lines i)) ∙ framed;
        };
        reads = body_written w reply.body rest;
      };
      status = sym back.code;
      lines = lines;
    }

verb_written : (verb : Verb) → verb ≢ Method.Other → IsVerb (method_of verb) verb
verb_written Method.Get known = refl
verb_written Method.Head known = refl
verb_written Method.Post known = refl
verb_written Method.Put known = refl
verb_written Method.Patch known = refl
verb_written Method.Delete known = refl
verb_written Method.Other known = absurd (known refl)

method_valid : (verb : Verb) → verb ≢ Method.Other → is_token (method_of verb) ≡ true
unfolding httparse_on_literals
method_valid Method.Get known = refl
method_valid Method.Head known = refl
method_valid Method.Post known = refl
method_valid Method.Put known = refl
method_valid Method.Patch known = refl
method_valid Method.Delete known = refl
method_valid Method.Other known = absurd (known refl)

no_bytes : (body : ByteList) → length body ≡ 0 → body ≡ []
no_bytes [] e = refl
no_bytes (b ∷ body) e = absurd (omega (arith, e))

request_body : (w : Bool) (body rest : ByteList) → (w ≡ false → length body ≡ 0) → ReadsBody (written_form NoBody w (length body)) (body ++ rest) body rest
request_body false body rest empty = let none = no_bytes body (empty refl) in (none, sym (ap (λ b. b ++ rest) none))
request_body true body rest empty = (refl, refl)

-- a request that was written is read back
pub request_back : (request : Request) (rest : ByteList) → IsSendableRequest request → SpellsRequest (request_text_of request ++ rest) (request_as_read request) rest
request_back request rest fine =
    let w = has_length request.verb in
    let n = length request.body in
    let heads = request_lines request in
    let hs = map pair_of heads in
    let method = method_of request.verb in
    let h = request_tree method request.target 1 hs in
    let after = request.body ++ rest in
    let valid = all_valid request.heads w n fine.body fine.lines in
    let line : is_request_line method request.target 1 ≡ true = (λ i. method_valid request.verb fine.verb i && (fine.target i && true)) in
    let back = request_reads_back method request.target 1 hs after (accepted (is_request_line method request.target 1) hs line valid) in
    let lines : heads ≡ map line_of h.fields = lines_are heads h.fields (sym back.fields) in
    let few : length h.fields ≤ 100 = subst (λ k. k ≤ 100) (sym (length-map hs field_of ∙ length-map heads pair_of)) fine.few in
    record {
      head = h;
      holds = record {
        form = written_form NoBody w n;
        after = after;
        frames = record {
          ok = record { valid = back.reads.0; few = few; short = fine.short };
          cut = append_assoc (print_request h) request.body rest;
          framed = ap request_framing (sym lines) ∙ framed_lines NoBody w request.heads n fine.body fine.no_length fine.no_coding;
        };
        reads = request_body w request.body rest fine.empty;
      };
      verb = verb_written request.verb fine.verb;
      target = refl;
      lines = lines;
    }
