-- Lemmas on bytes that lead to an end of a chunked body: their size lines, their data and the whole
-- are those of httparse's grammar.
use Rattle.std.proofs.Common.{◌≡◌, ℕ, ◌+◌, ◌-◌, ◌*◌, ◌<◌, ◌≤◌, inl, inr, zero, suc, Bool, true, false, [], ◌∷◌, ◌++◌, length, refl, sym, ap, subst, ◌∙◌, arith, append_assoc, length-append, Option, Some, None, IfSome}
use Rattle.std.specs.Prelude.{if◌then◌else◌, nat_lt, ◌==◌}
use Rattle.std.specs.Char.{is_ascii_hexdigit, digit_value}
use Rattle.std.specs.Str.Parse.{digits_value_after}
use Rattle.std.proofs.lemmas.Bool.Decides.{nat_tests}
use Rattle.std.proofs.lemmas.List.Elements.{All-cons, All-nil}
use Rattle.httparse.specs.Grammar.{AllPass, is_ows, is_extension_byte, is_token_byte, is_value_byte, print_extension, IsExtension, ChunkLine, print_chunk_line, IsChunkLine}
use Rattle.hr_base.specs.Bytes.{ByteList}
use Rattle.hr_body.specs.declared.stage.Part.TheVariants.{Size, Blank, Extension, SizeFeed, FieldStart, FieldName, FieldValue, FieldFeed, LastFeed}
use Rattle.hr_body.specs.declared.stage.Part.{Part}
use Rattle.hr_body.specs.declared.stage.Coding.{Coding}
use Rattle.hr_body.specs.declared.stage.Coding.TheVariants.{Line, DataEnd, DataFeed}
use Rattle.hr_body.specs.declared.stage.Stage.{Stage}
use Rattle.hr_body.specs.declared.stage.Stage.TheVariants.{Between, Chunk, Sized, ToEnd, Done}
use Rattle.hr_body.specs.Leading.{end_of, data_in, Leads, MayEnd, HoldsBody}
use Rattle.hr_body.specs.Stage.{step_of, part_step, size_step, chunk_start, in_line, chunk_past}
use Rattle.hr_body.specs.Reading.{WhereTold, HeldNone}
use Rattle.hr_body.proofs.GrammarLemmas.{chunked_holds}
use Rattle.hr_body.specs.Chunked.{ReadsSizeLine, IsChunked, last, chunk}
use Rattle.hr_body.proofs.LeadingLemmas.{end_none}
use Rattle.hr_body.proofs.LineLemmas.{at}
use Rattle.hr_body.proofs.TrailerLemmas.{tests_as, none_some, some_is, takes, not_done, trailers_of}

record Fed (room v : ℕ) (front piece : ByteList) : Type 0 where
  after : ByteList
  is : front ≡ 10 ∷ after
  fits : 1 ≤ room
  leads : Leads (chunk_start v) after piece Done

record Texted (room v : ℕ) (front piece : ByteList) : Type 0 where
  text : ByteList
  after : ByteList
  all : AllPass is_extension_byte text
  is : front ≡ text ++ 13 ∷ 10 ∷ after
  fits : length text + 2 ≤ room
  leads : Leads (chunk_start v) after piece Done

record Padded (room v : ℕ) (front piece : ByteList) : Type 0 where
  pad : ByteList
  extension : Option ByteList
  after : ByteList
  all : AllPass is_ows pad
  ok : IsExtension extension
  is : front ≡ pad ++ (print_extension extension ++ 13 ∷ 10 ∷ after)
  fits : (length pad + length (print_extension extension)) + 2 ≤ room
  leads : Leads (chunk_start v) after piece Done

record Sizes (room count value : ℕ) (front piece : ByteList) : Type 0 where
  ds : ByteList
  back : ByteList
  k : ℕ
  all : AllPass is_ascii_hexdigit ds
  few : count + length ds ≤ 16
  some : 0 < count + length ds
  is : front ≡ ds ++ back
  room_is : room ≡ length ds + k
  padded : Padded k (digits_value_after 16 value ds) back piece

feed_read : (front : ByteList) (room v : ℕ) (piece : ByteList) → Leads (at room (SizeFeed v)) front piece Done → Fed room v front piece
feed_read [] room v piece leads = absurd (not_done (Line room (SizeFeed v)) piece leads)
feed_read (b ∷ front) room v piece leads =
    let t = takes room (SizeFeed v) b front piece leads in
    let room_is = t.room_is in
    elim (tests_as (b == 10)) [
      | inl feed ↦
          let q : chunk_start v ≡ t.q = some_is (chunk_start v) t.q (rw feed at t.is) in
          let is10 : b ≡ 10 = grind (arith, nat_tests) in
          record { after = front; is = ap (λ b. b ∷ front) is10; fits = omega (arith, room_is); leads = subst (λ q. Leads q front piece Done) (sym q) t.leads }
      | inr bad ↦ absurd (none_some t.q (rw bad at t.is))
    ]

text_read : (front : ByteList) (room v : ℕ) (piece : ByteList) → Leads (at room (Extension v)) front piece Done → Texted room v front piece
text_read [] room v piece leads = absurd (not_done (Line room (Extension v)) piece leads)
text_read (b ∷ front) room v piece leads =
    let t = takes room (Extension v) b front piece leads in
    let room_is = t.room_is in
    elim (tests_as (b == 13)) [
      | inl cr ↦
          let q : at t.k (SizeFeed v) ≡ t.q = some_is (at t.k (SizeFeed v)) t.q (rw cr at t.is) in
          let f = feed_read front t.k v piece (subst (λ q. Leads q front piece Done) (sym q) t.leads) in
          let is13 : b ≡ 13 = grind (arith, nat_tests) in
          let fits = f.fits in
          record {
            text = [];
            after = f.after;
            all = All-nil (λ v. is_extension_byte v ≡ true);
            is = ap (λ l. b ∷ l) f.is ∙ ap (λ b. b ∷ 10 ∷ f.after) is13;
            fits = omega (arith, room_is, fits);
            leads = f.leads;
          }
      | inr not13 ↦
          elim (tests_as (b == 10)) [
            | inl bad ↦ absurd (none_some t.q (rw (not13, bad) at t.is))
            | inr not10 ↦
                let q : at t.k (Extension v) ≡ t.q = some_is (at t.k (Extension v)) t.q (rw (not13, not10) at t.is) in
                let x = text_read front t.k v piece (subst (λ q. Leads q front piece Done) (sym q) t.leads) in
                let byte : is_extension_byte b ≡ true = grind (arith, nat_tests) in
                let fits = x.fits in
                record {
                  text = b ∷ x.text;
                  after = x.after;
                  all = All-cons (λ v. is_extension_byte v ≡ true) b x.text byte x.all;
                  is = ap (λ l. b ∷ l) x.is;
                  fits = omega (arith, room_is, fits);
                  leads = x.leads;
                }
          ]
    ]

behind : (room k v b : ℕ) (front piece : ByteList) (q : Stage) → room ≡ k + 1 → size_step k v b ≡ Some q → Leads q front piece Done
    → (Leads (at k (Blank v)) front piece Done → Padded k v front piece) → Padded room v (b ∷ front) piece
behind room k v b front piece q room_is is leads on =
    elim (tests_as (is_ows b)) [
      | inl ows ↦
          let e : at k (Blank v) ≡ q = some_is (at k (Blank v)) q (rw ows at is) in
          let p = on (subst (λ q. Leads q front piece Done) (sym e) leads) in
          let fits = p.fits in
          record {
            pad = b ∷ p.pad;
            extension = p.extension;
            after = p.after;
            all = All-cons (λ v. is_ows v ≡ true) b p.pad ows p.all;
            ok = p.ok;
            is = ap (λ l. b ∷ l) p.is;
            fits = omega (arith, room_is, fits);
            leads = p.leads;
          }
      | inr other ↦
          elim (tests_as (b == 59)) [
            | inl semi ↦
                let e : at k (Extension v) ≡ q = some_is (at k (Extension v)) q (rw (other, semi) at is) in
                let x = text_read front k v piece (subst (λ q. Leads q front piece Done) (sym e) leads) in
                let is59 : b ≡ 59 = grind (arith, nat_tests) in
                let fits = x.fits in
                record {
                  pad = [];
                  extension = Some x.text;
                  after = x.after;
                  all = All-nil (λ v. is_ows v ≡ true);
                  ok = x.all;
                  is = ap (λ l. b ∷ l) x.is ∙ ap (λ b. b ∷ (x.text ++ 13 ∷ 10 ∷ x.after)) is59;
                  fits = omega (arith, room_is, fits);
                  leads = x.leads;
                }
            | inr not59 ↦
                elim (tests_as (b == 13)) [
                  | inl cr ↦
                      let e : at k (SizeFeed v) ≡ q = some_is (at k (SizeFeed v)) q (rw (other, not59, cr) at is) in
                      let f = feed_read front k v piece (subst (λ q. Leads q front piece Done) (sym e) leads) in
                      let is13 : b ≡ 13 = grind (arith, nat_tests) in
                      let fits = f.fits in
                      record {
                        pad = [];
                        extension = None;
                        after = f.after;
                        all = All-nil (λ v. is_ows v ≡ true);
                        ok = tt;
                        is = ap (λ l. b ∷ l) f.is ∙ ap (λ b. b ∷ 10 ∷ f.after) is13;
                        fits = omega (arith, room_is, fits);
                        leads = f.leads;
                      }
                  | inr bad ↦ absurd (none_some q (rw (other, not59, bad) at is))
                ]
          ]
    ]

pad_read : (front : ByteList) (room v : ℕ) (piece : ByteList) → Leads (at room (Blank v)) front piece Done → Padded room v front piece
pad_read [] room v piece leads = absurd (not_done (Line room (Blank v)) piece leads)
pad_read (b ∷ front) room v piece leads =
    let t = takes room (Blank v) b front piece leads in
    behind room t.k v b front piece t.q t.room_is t.is t.leads (pad_read front t.k v piece)

digits_read : (front : ByteList) (room count value : ℕ) (piece : ByteList) → count ≤ 16 → Leads (at room (Size count value)) front piece Done → Sizes room count value front piece
digits_read [] room count value piece le leads = absurd (not_done (Line room (Size count value)) piece leads)
digits_read (b ∷ front) room count value piece le leads =
    let t = takes room (Size count value) b front piece leads in
    let room_is = t.room_is in
    elim (tests_as (is_ascii_hexdigit b)) [
      | inl hex ↦
          elim (tests_as (nat_lt count 16)) [
            | inl few ↦
                elim (tests_as (nat_lt value 1152921504606846976)) [
                  | inl small ↦
                      let part = Size (count + 1) (value * 16 + digit_value b) in
                      let q : at t.k part ≡ t.q = some_is (at t.k part) t.q (rw (hex, few, small) at t.is) in
                      let less : count + 1 ≤ 16 = grind (arith, nat_tests) in
                      let s = digits_read front t.k (count + 1) (value * 16 + digit_value b) piece less (subst (λ q. Leads q front piece Done) (sym q) t.leads) in
                      let sfew = s.few in
                      let sroom = s.room_is in
                      record {
                        ds = b ∷ s.ds;
                        back = s.back;
                        k = s.k;
                        all = All-cons (λ v. is_ascii_hexdigit v ≡ true) b s.ds hex s.all;
                        few = omega (arith, sfew);
                        some = omega arith;
                        is = ap (λ l. b ∷ l) s.is;
                        room_is = omega (arith, sroom, room_is);
                        padded = s.padded;
                      }
                  | inr bad ↦ absurd (none_some t.q (rw (hex, few, bad) at t.is))
                ]
            | inr bad ↦ absurd (none_some t.q (rw (hex, bad) at t.is))
          ]
      | inr other ↦
          elim (tests_as (count == 0)) [
            | inl bad ↦ absurd (none_some t.q (rw (other, bad) at t.is))
            | inr some ↦
                let positive : 0 < count = grind (arith, nat_tests) in
                record {
                  ds = [];
                  back = b ∷ front;
                  k = room;
                  all = All-nil (λ v. is_ascii_hexdigit v ≡ true);
                  few = omega (arith, le);
                  some = omega (arith, positive);
                  is = refl;
                  room_is = omega arith;
                  padded = behind room t.k value b front piece t.q t.room_is (rw (other, some) at t.is) t.leads (pad_read front t.k value piece);
                }
          ]
    ]

regroup_line : (ds pad e after rest : ByteList) → (ds ++ (pad ++ (e ++ 13 ∷ 10 ∷ after))) ++ rest ≡ (((ds ++ pad) ++ e) ++ 13 ∷ 10 ∷ []) ++ (after ++ rest)
regroup_line ds pad e after rest = simp append_assoc

line_length : (d p e : ByteList) → length (((d ++ p) ++ e) ++ 13 ∷ 10 ∷ []) ≡ ((length d + length p) + length e) + 2
line_length d p e =
    let a : length (((d ++ p) ++ e) ++ 13 ∷ 10 ∷ []) ≡ length ((d ++ p) ++ e) + 2 = length-append ((d ++ p) ++ e) (13 ∷ 10 ∷ []) in
    let b : length ((d ++ p) ++ e) ≡ length (d ++ p) + length e = length-append (d ++ p) e in
    let c : length (d ++ p) ≡ length d + length p = length-append d p in
    omega (arith, a, b, c)

-- the bytes go on with a whole size line
pub record Lined (front piece rest : ByteList) : Type 0 where
  size : ℕ
  after : ByteList
  line : ReadsSizeLine (front ++ rest) size (after ++ rest)
  less : length after < length front
  leads : Leads (chunk_start size) after piece Done

front_length : (ds pad e after : ByteList) → length after < length (ds ++ (pad ++ (e ++ 13 ∷ 10 ∷ after)))
front_length ds pad e after = simp length-append (omega arith)

pub line_of : (front piece rest : ByteList) → Leads (at 65536 (Size 0 0)) front piece Done → Lined front piece rest
unfolding print_chunk_line
line_of front piece rest leads =
    let s = digits_read front 65536 0 0 piece (omega arith) leads in
    let p = s.padded in
    let l : ChunkLine = record { digits = s.ds; pad = p.pad; extension = p.extension } in
    let few : length s.ds ≤ 16 = let f = s.few in omega (arith, f) in
    let some : 0 < length s.ds = let f = s.some in omega (arith, f) in
    let ok : IsChunkLine l = record { digits = (some, few, s.all); pad = p.all; extension = p.ok } in
    let whole : front ≡ s.ds ++ (p.pad ++ (print_extension p.extension ++ 13 ∷ 10 ∷ p.after)) = s.is ∙ ap (λ b. s.ds ++ b) p.is in
    let room_is = s.room_is in
    let fits = p.fits in
    let len = line_length s.ds p.pad (print_extension p.extension) in
    record {
      size = digits_value_after 16 0 s.ds;
      after = p.after;
      line = record {
        line = l;
        reads = (ok, ap (λ f. f ++ rest) whole ∙ regroup_line s.ds p.pad (print_extension p.extension) p.after rest);
        size_is = refl;
        short = omega (arith, len, room_is, fits);
      };
      less = subst (λ f. length p.after < length f) (sym whole) (front_length s.ds p.pad (print_extension p.extension) p.after);
      leads = p.leads;
    }

-- the bytes go on with the data of a chunk
record Datas (more : ℕ) (front body : ByteList) : Type 0 where
  piece : ByteList
  after : ByteList
  others : ByteList
  count : length piece ≡ more + 1
  is : front ≡ piece ++ after
  body_is : body ≡ piece ++ others
  leads : Leads (Between DataEnd) after others Done

chunk_done : (more : ℕ) (body : ByteList) → Leads (Chunk more) [] body Done → ⊥
chunk_done more body leads = let e : Chunk more ≡ Done = some_is (Chunk more) Done leads.ends in cc

data_read : (front : ByteList) (more : ℕ) (body : ByteList) → Leads (Chunk more) front body Done → Datas more front body
unfolding step_of
data_read [] more body leads = absurd (chunk_done more body leads)
data_read (b ∷ front) more body leads =
    elim (tests_as (nat_lt more 1)) [
      | inl none ↦
          let zero_is : more ≡ 0 = grind (arith, nat_tests) in
          record {
            piece = b ∷ [];
            after = front;
            others = data_in front (Some (chunk_past more 1));
            count = omega (arith, zero_is);
            is = refl;
            body_is = sym leads.gives;
            leads = record {
              ends = ap (λ t. end_of front (Some (if t then Between DataEnd else Chunk (more - 1)))) (sym none) ∙ leads.ends;
              gives = ap (λ t. data_in front (Some (if t then Between DataEnd else Chunk (more - 1)))) (sym none);
            };
          }
      | inr some ↦
          let positive : 1 ≤ more = grind (arith, nat_tests) in
          let d = data_read front (more - 1) (data_in front (Some (chunk_past more 1))) (record {
            ends = ap (λ t. end_of front (Some (if t then Between DataEnd else Chunk (more - 1)))) (sym some) ∙ leads.ends;
            gives = ap (λ t. data_in front (Some (if t then Between DataEnd else Chunk (more - 1)))) (sym some);
          }) in
          let count = d.count in
          record {
            piece = b ∷ d.piece;
            after = d.after;
            others = d.others;
            count = omega (arith, count, positive);
            is = ap (λ l. b ∷ l) d.is;
            body_is = sym leads.gives ∙ ap (λ l. b ∷ l) d.body_is;
            leads = d.leads;
          }
    ]

-- the bytes go on with the line end behind the data
record Ended (front body : ByteList) : Type 0 where
  after : ByteList
  is : front ≡ 13 ∷ 10 ∷ after
  leads : Leads (at 65536 (Size 0 0)) after body Done

end_read : (f : Coding) (b want : ℕ) (q : Stage) (front body : ByteList) → step_of (Between f) b ≡ (if b == want then Some q else None) → Leads (Between f) (b ∷ front) body Done
    → (b ≡ want) × Leads q front body Done
end_read f b want q front body is leads =
    elim (tests_as (b == want)) [
      | inl same ↦
          let e : step_of (Between f) b ≡ Some q = is ∙ ap (λ t. if t then Some q else None) same in
          let byte : b ≡ want = grind (arith, nat_tests) in
          (byte, record { ends = ap (end_of front) (sym e) ∙ leads.ends; gives = ap (data_in front) (sym e) ∙ leads.gives })
      | inr bad ↦
          let e : step_of (Between f) b ≡ None = is ∙ ap (λ t. if t then Some q else None) bad in
          absurd (none_some Done (sym (end_none front) ∙ ap (end_of front) (sym e) ∙ leads.ends))
    ]

feed_of : (b : ℕ) (front body : ByteList) → Leads (Between DataFeed) (b ∷ front) body Done → (b ≡ 10) × Leads (at 65536 (Size 0 0)) front body Done
unfolding step_of
feed_of b front body leads = end_read DataFeed b 10 (at 65536 (Size 0 0)) front body refl leads

cr_of : (b : ℕ) (front body : ByteList) → Leads (Between DataEnd) (b ∷ front) body Done → (b ≡ 13) × Leads (Between DataFeed) front body Done
unfolding step_of
cr_of b front body leads = end_read DataEnd b 13 (Between DataFeed) front body refl leads

ends_read : (front body : ByteList) → Leads (Between DataEnd) front body Done → Ended front body
ends_read [] body leads = absurd (not_done DataEnd body leads)
ends_read (b ∷ []) body leads = let c = cr_of b [] body leads in absurd (not_done DataFeed body c.1)
ends_read (b ∷ d ∷ front) body leads =
    let c = cr_of b (d ∷ front) body leads in
    let f = feed_of d front body c.1 in
    record { after = front; is = ap (λ b. b ∷ d ∷ front) c.0 ∙ ap (λ d. 13 ∷ d ∷ front) f.0; leads = f.1 }

last_of : (front body rest : ByteList) (l : Lined front body rest) → l.size ≡ 0 → IsChunked (front ++ rest) body rest
last_of front body rest l none =
    let leads : Leads (at 65536 FieldStart) l.after body Done = subst (λ n. Leads (chunk_start n) l.after body Done) none l.leads in
    let t = trailers_of l.after body rest leads in
    subst (λ b. IsChunked (front ++ rest) b rest) (sym t.1)
    (last (front ++ rest) (l.after ++ rest) rest (subst (λ n. ReadsSizeLine (front ++ rest) n (l.after ++ rest)) none l.line) t.0)

chunk_place : (n : ℕ) → 0 < n → chunk_start n ≡ Chunk (n - 1)
chunk_place n some = let t : (n == 0) ≡ false = grind (arith, nat_tests) in rw t refl

data_length : (piece after : ByteList) → length after ≤ length (piece ++ 13 ∷ 10 ∷ after)
data_length piece after = simp length-append (omega arith)

pub chunked_by : (n : ℕ) (front body rest : ByteList) → length front ≤ n → Leads (at 65536 (Size 0 0)) front body Done → IsChunked (front ++ rest) body rest
chunked_by zero [] body rest le leads = absurd (not_done (Line 65536 (Size 0 0)) body leads)
chunked_by zero (b ∷ front) body rest le leads = absurd (omega (arith, le))
chunked_by (suc n) front body rest le leads =
    let l = line_of front body rest leads in
    elim (tests_as (l.size == 0)) [
      | inl none ↦ let size : l.size ≡ 0 = grind (arith, nat_tests) in last_of front body rest l size
      | inr other ↦
          let some : 0 < l.size = grind (arith, nat_tests) in
          let d = data_read l.after (l.size - 1) body (subst (λ q. Leads q l.after body Done) (chunk_place l.size some) l.leads) in
          let e = ends_read d.after d.others d.leads in
          let count = d.count in
          let size : l.size ≡ length d.piece = omega (arith, count, some) in
          let positive : 0 < length d.piece = omega (arith, count) in
          let after_is : l.after ≡ d.piece ++ 13 ∷ 10 ∷ e.after = d.is ∙ ap (λ x. d.piece ++ x) e.is in
          let less = l.less in
          let shorter : length e.after ≤ length l.after = subst (λ x. length e.after ≤ length x) (sym after_is) (data_length d.piece e.after) in
          let fits : length e.after ≤ n = omega (arith, shorter, less, le) in
          let line : ReadsSizeLine (front ++ rest) (length d.piece) (d.piece ++ 13 ∷ 10 ∷ (e.after ++ rest)) =
          subst (λ x. ReadsSizeLine (front ++ rest) (length d.piece) x) (ap (λ x. x ++ rest) after_is ∙ append_assoc d.piece (13 ∷ 10 ∷ e.after) rest)
          (subst (λ k. ReadsSizeLine (front ++ rest) k (l.after ++ rest)) size l.line) in
          subst (λ b. IsChunked (front ++ rest) b rest) (sym d.body_is)
          (chunk (front ++ rest) d.piece (e.after ++ rest) d.others rest positive line (chunked_by n e.after d.others rest fits e.leads))
    ]

-- a stage to which the bytes of a chunked body lead, which is never that of another body
abbrev IsReached : Stage → Type 0
IsReached (Between f) = Unit {0}
IsReached (Chunk more) = Unit {0}
IsReached (Sized more) = ⊥
IsReached ToEnd = ⊥
IsReached Done = Unit {0}

abbrev AreReached : Option Stage → Type 0
AreReached None = Unit {0}
AreReached (Some p) = IsReached p

keeps_if : (c : Bool) (x y : Option Stage) → AreReached x → AreReached y → AreReached (if c then x else y)
keeps_if true x y a b = a
keeps_if false x y a b = b

kept_if : (c : Bool) (x y : Stage) → IsReached x → IsReached y → IsReached (if c then x else y)
kept_if true x y a b = a
kept_if false x y a b = b

size_keeps : (k v b : ℕ) → AreReached (size_step k v b)
size_keeps k v b =
    keeps_if (is_ows b) (in_line k (Blank v)) (if b == 59 then in_line k (Extension v) else (if b == 13 then in_line k (SizeFeed v) else None)) tt
    (keeps_if (b == 59) (in_line k (Extension v)) (if b == 13 then in_line k (SizeFeed v) else None) tt
    (keeps_if (b == 13) (in_line k (SizeFeed v)) None tt tt))

mark_keeps : (k : ℕ) (m : Part) (b : ℕ) → AreReached (part_step k m b)
mark_keeps k (Size count value) b =
    keeps_if (is_ascii_hexdigit b)
    (if nat_lt count 16 then (if nat_lt value 1152921504606846976 then in_line k (Size (count + 1) (value * 16 + digit_value b)) else None) else None)
    (if count == 0 then None else size_step k value b)
    (keeps_if (nat_lt count 16) (if nat_lt value 1152921504606846976 then in_line k (Size (count + 1) (value * 16 + digit_value b)) else None) None
    (keeps_if (nat_lt value 1152921504606846976) (in_line k (Size (count + 1) (value * 16 + digit_value b))) None tt tt) tt)
    (keeps_if (count == 0) None (size_step k value b) tt (size_keeps k value b))
mark_keeps k (Blank value) b = size_keeps k value b
mark_keeps k (Extension value) b =
    keeps_if (b == 13) (in_line k (SizeFeed value)) (if b == 10 then None else in_line k (Extension value)) tt (keeps_if (b == 10) None (in_line k (Extension value)) tt tt)
mark_keeps k (SizeFeed value) b =
    keeps_if (b == 10) (Some (chunk_start value)) None (kept_if (value == 0) (at 65536 FieldStart) (Chunk (value - 1)) tt tt) tt
mark_keeps k FieldStart b =
    keeps_if (is_token_byte b) (in_line k FieldName) (if b == 13 then in_line k LastFeed else (if b == 10 then Some Done else None)) tt
    (keeps_if (b == 13) (in_line k LastFeed) (if b == 10 then Some Done else None) tt (keeps_if (b == 10) (Some Done) None tt tt))
mark_keeps k FieldName b =
    keeps_if (is_token_byte b) (in_line k FieldName) (if b == 58 then in_line k FieldValue else None) tt (keeps_if (b == 58) (in_line k FieldValue) None tt tt)
mark_keeps k FieldValue b =
    keeps_if (is_value_byte b) (in_line k FieldValue) (if b == 13 then in_line k FieldFeed else (if b == 10 then in_line k FieldStart else None)) tt
    (keeps_if (b == 13) (in_line k FieldFeed) (if b == 10 then in_line k FieldStart else None) tt (keeps_if (b == 10) (in_line k FieldStart) None tt tt))
mark_keeps k FieldFeed b = keeps_if (b == 10) (in_line k FieldStart) None tt tt
mark_keeps k LastFeed b = keeps_if (b == 10) (Some Done) None tt tt

next_keeps : (p : Stage) (b : ℕ) → IsReached p → AreReached (step_of p b)
unfolding step_of
next_keeps (Between (Line room m)) b kept = keeps_if (room == 0) None (part_step (room - 1) m b) tt (mark_keeps (room - 1) m b)
next_keeps (Between DataEnd) b kept = keeps_if (b == 13) (Some (Between DataFeed)) None tt tt
next_keeps (Between DataFeed) b kept = keeps_if (b == 10) (in_line 65536 (Size 0 0)) None tt tt
next_keeps (Chunk more) b kept = kept_if (nat_lt more 1) (Between DataEnd) (Chunk (more - 1)) tt tt
next_keeps (Sized more) b kept = absurd kept
next_keeps ToEnd b kept = absurd kept
next_keeps Done b kept = tt

run_keeps : (front : ByteList) (o : Option Stage) → AreReached o → AreReached (end_of front o)
run_keeps [] o kept = kept
run_keeps (b ∷ front) None kept = run_keeps front None tt
run_keeps (b ∷ front) (Some p) kept = run_keeps front (step_of p b) (next_keeps p b kept)

only_done : (q : Stage) (rest : ByteList) → IsReached q → MayEnd q rest → q ≡ Done
only_done (Between f) rest kept ends = absurd ends
only_done (Chunk more) rest kept ends = absurd ends
only_done (Sized more) rest kept ends = absurd ends
only_done ToEnd rest kept ends = absurd kept
only_done Done rest kept ends = refl

-- a body to which bytes lead is one of the grammar
pub holds_chunked : (bytes body rest : ByteList) → HoldsBody (at 65536 (Size 0 0)) bytes body rest → IsChunked bytes body rest
holds_chunked bytes body rest h =
    let kept : AreReached (Some h.end) = subst AreReached h.leads.ends (run_keeps h.front (Some (at 65536 (Size 0 0))) tt) in
    let done = only_done h.end rest kept h.may_end in
    subst (λ x. IsChunked x body rest) (sym h.cut)
    (chunked_by (length h.front) h.front body rest (omega arith) (subst (λ q. Leads (at 65536 (Size 0 0)) h.front body q) done h.leads))

pub chunked_off : (old new : Option ByteList) (p : Stage) (body : ByteList) → p ≡ at 65536 (Size 0 0) → WhereTold old new (λ bytes rest. HoldsBody p bytes body rest) → WhereTold old new (λ bytes rest. IsChunked bytes body rest)
chunked_off None None p body is off = tt
chunked_off None (Some new) p body is off = off
chunked_off (Some old) None p body is off = off
chunked_off (Some old) (Some new) p body is off = holds_chunked old body new (subst (λ p. HoldsBody p old body new) is off)

pub chunked_none : (old : Option ByteList) (p : Stage) (room limit : ℕ) → p ≡ at 65536 (Size 0 0) → room ≡ limit → HeldNone old p room
    → IfSome old (λ bytes. (body rest : ByteList) → IsChunked bytes body rest → length body ≤ limit → ⊥)
chunked_none None p room limit is same none = tt
chunked_none (Some bytes) p room limit is same none = λ body rest c le.
    none body rest (subst (λ p. HoldsBody p bytes body rest) (sym is) (chunked_holds bytes body rest c)) (subst (λ n. length body ≤ n) (sym same) le)
