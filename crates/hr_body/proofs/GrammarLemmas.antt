-- Lemmas on the chunked bodies of httparse's grammar: their bytes lead to an end.
use Rattle.std.proofs.Common.{◌≡◌, ℕ, ◌+◌, ◌-◌, ◌<◌, ◌≤◌, true, false, List, [], ◌∷◌, ◌++◌, length, refl, sym, ap, subst, ◌∙◌, arith, append_assoc, append-nil, length-append, Some}
use Rattle.std.specs.Prelude.{nat_lt, ◌==◌}
use Rattle.std.specs.List.{flat_map, All}
use Rattle.std.proofs.lemmas.Bool.Decides.{nat_tests}
use Rattle.std.proofs.lemmas.List.Elements.{All-head, All-tail}
use Rattle.httparse.specs.Grammar.{AllPass, is_token_byte, is_value_byte, LineEnd, crlf, lf, print_end, print_chunk_line, Field, IsField, print_field, print_section}
use Rattle.hr_base.specs.Bytes.{ByteList}
use Rattle.hr_body.specs.declared.stage.Part.TheVariants.{Size, FieldStart, FieldName, FieldValue, FieldFeed, LastFeed}
use Rattle.hr_body.specs.declared.stage.Coding.TheVariants.{DataEnd}
use Rattle.hr_body.specs.declared.stage.Stage.TheVariants.{Between, Chunk, Done}
use Rattle.hr_body.specs.Leading.{Leads, HoldsBody}
use Rattle.hr_body.specs.Stage.{step_of, part_step, chunk_start, in_line, chunk_past}
use Rattle.hr_body.specs.Chunked.{ReadsSizeLine, IsChunked, last, chunk}
use Rattle.hr_body.proofs.LeadingLemmas.{leads_more, leads_none, chunk_leads, whole_of}
use Rattle.hr_body.proofs.LineLemmas.{at, line_leads, line_on, stay, size_line_leads}

name_stays : (room b : ℕ) → is_token_byte b ≡ true → part_step room FieldName b ≡ in_line room FieldName
name_stays room b e = rw e refl

value_stays : (room b : ℕ) → is_value_byte b ≡ true → part_step room FieldValue b ≡ in_line room FieldValue
value_stays room b e = rw e refl

pub colon_ends : (room : ℕ) → part_step room FieldName 58 ≡ in_line room FieldValue
unfolding is_token_byte
colon_ends room = refl

end_goes : (e : LineEnd) (room left : ℕ) → room ≡ length (print_end e) + left → Leads (at room FieldValue) (print_end e) [] (at left FieldStart)
end_goes crlf room left e =
    let mid : room ≡ (left + 1) + 1 = omega (arith, e) in
    leads_more (at room FieldValue) (at (left + 1) FieldFeed) (at left FieldStart) (13 ∷ []) (10 ∷ []) [] []
    (line_on room (left + 1) FieldValue FieldFeed 13 mid refl) (line_on (left + 1) left FieldFeed FieldStart 10 refl refl)
end_goes lf room left e = line_on room left FieldValue FieldStart 10 (omega (arith, e)) refl

last_cr : (room : ℕ) → part_step room FieldStart 13 ≡ in_line room LastFeed
unfolding is_token_byte
last_cr room = refl

pub last_lf : (room : ℕ) → part_step room FieldStart 10 ≡ Some Done
unfolding is_token_byte
last_lf room = refl

pub last_goes : (e : LineEnd) (room : ℕ) → length (print_end e) ≤ room → Leads (at room FieldStart) (print_end e) [] Done
last_goes crlf room e =
    let left = room - 2 in
    let mid : room ≡ (left + 1) + 1 = omega (arith, e) in
    let some : 0 < left + 1 = omega arith in
    leads_more (at room FieldStart) (at (left + 1) LastFeed) Done (13 ∷ []) (10 ∷ []) [] []
    (line_on room (left + 1) FieldStart LastFeed 13 mid (last_cr (left + 1))) (line_leads (left + 1) LastFeed 10 Done some refl)
last_goes lf room e = line_leads room FieldStart 10 Done (omega (arith, e)) (last_lf (room - 1))

name_goes : (name : ByteList) (room left : ℕ) → 0 < length name → AllPass is_token_byte name → room ≡ length name + left → Leads (at room FieldStart) name [] (at left FieldName)
name_goes [] room left some all e = absurd (omega (arith, some))
name_goes (b ∷ name) room left some all e =
    let mid : room ≡ (length name + left) + 1 = omega (arith, e) in
    let token = All-head (λ v. is_token_byte v ≡ true) b name all in
    leads_more (at room FieldStart) (at (length name + left) FieldName) (at left FieldName) (b ∷ []) name [] []
    (line_on room (length name + left) FieldStart FieldName b mid (rw token refl))
    (stay is_token_byte FieldName name_stays name (length name + left) left (All-tail (λ v. is_token_byte v ≡ true) b name all) refl)

field_length : (f : Field) → length (print_field f) ≡ (length f.name + (1 + length f.raw)) + length (print_end f.end)
field_length f =
    let a : length ((f.name ++ 58 ∷ f.raw) ++ print_end f.end) ≡ length (f.name ++ 58 ∷ f.raw) + length (print_end f.end) = length-append (f.name ++ 58 ∷ f.raw) (print_end f.end) in
    let b : length (f.name ++ 58 ∷ f.raw) ≡ length f.name + length (58 ∷ f.raw) = length-append f.name (58 ∷ f.raw) in
    omega (arith, a, b)

field_goes : (f : Field) (room left : ℕ) → IsField f → room ≡ length (print_field f) + left → Leads (at room FieldStart) (print_field f) [] (at left FieldStart)
field_goes f room left is e =
    let len = field_length f in
    let r3 = length (print_end f.end) + left in
    let r2 = length f.raw + r3 in
    let r1 = r2 + 1 in
    let all : room ≡ length f.name + r1 = omega (arith, e, len) in
    leads_more (at room FieldStart) (at r3 FieldValue) (at left FieldStart) (f.name ++ 58 ∷ f.raw) (print_end f.end) [] []
    (leads_more (at room FieldStart) (at r1 FieldName) (at r3 FieldValue) f.name (58 ∷ f.raw) [] []
    (name_goes f.name room r1 is.name.0 is.name.1 all)
    (leads_more (at r1 FieldName) (at r2 FieldValue) (at r3 FieldValue) (58 ∷ []) f.raw [] []
    (line_on r1 r2 FieldName FieldValue 58 refl (colon_ends r2))
    (stay is_value_byte FieldValue value_stays f.raw r2 r3 is.raw refl)))
    (end_goes f.end r3 left refl)

fields_go : (fields : List Field) (room left : ℕ) → All IsField fields → room ≡ length (flat_map print_field fields) + left → Leads (at room FieldStart) (flat_map print_field fields) [] (at left FieldStart)
fields_go [] room left all e =
    let same : room ≡ left = omega (arith, e) in subst (λ r. Leads (at room FieldStart) [] [] (at r FieldStart)) same (leads_none (at room FieldStart))
fields_go (f ∷ fields) room left all e =
    let len : length (print_field f ++ flat_map print_field fields) ≡ length (print_field f) + length (flat_map print_field fields) = length-append (print_field f) (flat_map print_field fields) in
    let mid = length (flat_map print_field fields) + left in
    let here : room ≡ length (print_field f) + mid = omega (arith, e, len) in
    leads_more (at room FieldStart) (at mid FieldStart) (at left FieldStart) (print_field f) (flat_map print_field fields) [] []
    (field_goes f room mid (All-head IsField f fields all) here)
    (fields_go fields mid left (All-tail IsField f fields all) refl)

pub section_goes : (fields : List Field) (end : LineEnd) → All IsField fields → length (print_section fields end) ≤ 65536 → Leads (at 65536 FieldStart) (print_section fields end) [] Done
section_goes fields end all short =
    let len : length (print_section fields end) ≡ length (flat_map print_field fields) + length (print_end end) = length-append (flat_map print_field fields) (print_end end) in
    let left = 65536 - length (flat_map print_field fields) in
    let here : 65536 ≡ length (flat_map print_field fields) + left = omega (arith, len, short) in
    let fits : length (print_end end) ≤ left = omega (arith, len, short) in
    leads_more (at 65536 FieldStart) (at left FieldStart) Done (flat_map print_field fields) (print_end end) [] []
    (fields_go fields 65536 left all here) (last_goes end left fits)

pub chunk_place : (n : ℕ) → 0 < n → chunk_start n ≡ Chunk (n - 1)
chunk_place n some = let t : (n == 0) ≡ false = grind (arith, nat_tests) in rw t refl

pub chunk_over : (n : ℕ) → 0 < n → chunk_past (n - 1) n ≡ Between DataEnd
chunk_over n some = let t : nat_lt (n - 1) n ≡ true = grind (arith, nat_tests) in rw t refl

pub ends_go : Leads (Between DataEnd) (13 ∷ 10 ∷ []) [] (at 65536 (Size 0 0))
unfolding step_of
ends_go = record { ends = refl; gives = refl }

piece_goes : (piece : ByteList) → 0 < length piece → Leads (chunk_start (length piece)) (piece ++ 13 ∷ 10 ∷ []) piece (at 65536 (Size 0 0))
piece_goes piece some =
    let fits : length piece ≤ (length piece - 1) + 1 = omega (arith, some) in
    let data_on = subst (λ q. Leads (Chunk (length piece - 1)) piece piece q) (chunk_over (length piece) some) (chunk_leads piece (length piece - 1) some fits) in
    let both = leads_more (Chunk (length piece - 1)) (Between DataEnd) (at 65536 (Size 0 0)) piece (13 ∷ 10 ∷ []) piece [] data_on ends_go in
    subst (λ q. Leads q (piece ++ 13 ∷ 10 ∷ []) piece (at 65536 (Size 0 0))) (sym (chunk_place (length piece) some))
    (subst (λ l. Leads (Chunk (length piece - 1)) (piece ++ 13 ∷ 10 ∷ []) l (at 65536 (Size 0 0))) (append-nil piece) both)

line_goes_to : (bytes : ByteList) (size : ℕ) (rest : ByteList) (r : ReadsSizeLine bytes size rest) → Leads (at 65536 (Size 0 0)) (print_chunk_line r.line) [] (chunk_start size)
line_goes_to bytes size rest r =
    subst (λ n. Leads (at 65536 (Size 0 0)) (print_chunk_line r.line) [] (chunk_start n)) (sym r.size_is) (size_line_leads r.line r.reads.0 r.short)

-- a body of the grammar is one to which the bytes lead
pub chunked_holds : (bytes body rest : ByteList) → IsChunked bytes body rest → HoldsBody (at 65536 (Size 0 0)) bytes body rest
chunked_holds _ _ _ (last bytes trailers rest line t) = record {
  front = print_chunk_line line.line ++ print_section t.fields t.last;
  end = Done;
  cut = line.reads.1 ∙ ap (λ l. print_chunk_line line.line ++ l) t.reads.1 ∙ sym (append_assoc (print_chunk_line line.line) (print_section t.fields t.last) rest);
  leads = leads_more (at 65536 (Size 0 0)) (at 65536 FieldStart) Done (print_chunk_line line.line) (print_section t.fields t.last) [] []
      (line_goes_to bytes 0 trailers line) (section_goes t.fields t.last t.reads.0 t.short);
  may_end = tt;
}
chunked_holds _ _ _ (chunk bytes piece after body rest some line more) =
    whole_of (at 65536 (Size 0 0)) (at 65536 (Size 0 0)) bytes (print_chunk_line line.line ++ (piece ++ 13 ∷ 10 ∷ [])) piece after body rest
    (line.reads.1 ∙ ap (λ l. print_chunk_line line.line ++ l) (sym (append_assoc piece (13 ∷ 10 ∷ []) after)) ∙ sym (append_assoc (print_chunk_line line.line) (piece ++ 13 ∷ 10 ∷ []) after))
    (leads_more (at 65536 (Size 0 0)) (chunk_start (length piece)) (at 65536 (Size 0 0)) (print_chunk_line line.line) (piece ++ 13 ∷ 10 ∷ []) [] piece
    (line_goes_to bytes (length piece) (piece ++ 13 ∷ 10 ∷ after) line) (piece_goes piece some))
    (chunked_holds after body rest more)
