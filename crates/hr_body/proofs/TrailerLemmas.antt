-- Lemmas on bytes that lead to an end from a trailer section: they are one of httparse's grammar.
use Rattle.std.proofs.Common.{◌≡◌, ℕ, ◌+◌, ◌-◌, ◌<◌, ◌≤◌, ◌⊎◌, inl, inr, Bool, true, false, List, [], ◌∷◌, ◌++◌, length, refl, sym, ap, subst, ◌∙◌, arith, append_assoc, Option, Some, None}
use Rattle.std.specs.Prelude.{if◌then◌else◌, ◌==◌}
use Rattle.std.specs.List.{flat_map, All}
use Rattle.std.proofs.lemmas.Bool.Decides.{nat_tests}
use Rattle.std.proofs.lemmas.List.Elements.{All-cons, All-nil}
use Rattle.httparse.specs.Grammar.{AllPass, is_token_byte, is_value_byte, LineEnd, crlf, lf, print_end, Field, IsField, print_field, print_section}
use Rattle.hr_base.specs.Bytes.{ByteList}
use Rattle.hr_body.specs.declared.stage.Part.{Part}
use Rattle.hr_body.specs.declared.stage.Part.TheVariants.{Size, Blank, Extension, SizeFeed, FieldStart, FieldName, FieldValue, FieldFeed, LastFeed}
use Rattle.hr_body.specs.declared.stage.Coding.{Coding}
use Rattle.hr_body.specs.declared.stage.Coding.TheVariants.{Line}
use Rattle.hr_body.specs.declared.stage.Stage.{Stage}
use Rattle.hr_body.specs.declared.stage.Stage.TheVariants.{Between, Done}
use Rattle.hr_body.specs.Leading.{end_of, data_in, Leads}
use Rattle.hr_body.specs.Stage.{step_of, part_step}
use Rattle.hr_body.specs.Chunked.{ReadsTrailer}
use Rattle.hr_body.proofs.LeadingLemmas.{end_none, done_stops}
use Rattle.hr_body.proofs.LineLemmas.{at}

pub tests_as : (b : Bool) → (b ≡ true) ⊎ (b ≡ false)
tests_as true = inl refl
tests_as false = inr refl

there : (o : Option Stage) → (o ≡ None) ⊎ ((q : Stage) × (o ≡ Some q))
there None = inl refl
there (Some q) = inr (q, refl)

pub none_some : (x : Stage) → None ≡ Some x → ⊥
none_some x e = cc

pub some_is : (x y : Stage) → Some x ≡ Some y → x ≡ y
some_is x y e = cc

-- a byte of a line leads on
pub record Took (room : ℕ) (m : Part) (b : ℕ) (front piece : ByteList) : Type 0 where
  pub k : ℕ
  pub q : Stage
  pub room_is : room ≡ k + 1
  pub is : part_step k m b ≡ Some q
  pub leads : Leads q front piece Done

took_some : (k : ℕ) (m : Part) (b : ℕ) (front piece : ByteList) (q : Stage) → part_step k m b ≡ Some q → end_of front (part_step k m b) ≡ Some Done → data_in front (part_step k m b) ≡ piece
    → Leads q front piece Done
took_some k m b front piece q is ends gives = record { ends = ap (end_of front) (sym is) ∙ ends; gives = ap (data_in front) (sym is) ∙ gives }

pub takes : (room : ℕ) (m : Part) (b : ℕ) (front piece : ByteList) → Leads (at room m) (b ∷ front) piece Done → Took room m b front piece
unfolding step_of
takes room m b front piece leads =
    elim (tests_as (room == 0)) [
      | inl t ↦ absurd (none_some Done (sym (end_none front) ∙ ap (λ t. end_of front (if t then None else part_step (room - 1) m b)) (sym t) ∙ leads.ends))
      | inr t ↦
          let some : 0 < room = grind (arith, nat_tests) in
          let ends : end_of front (part_step (room - 1) m b) ≡ Some Done = ap (λ t. end_of front (if t then None else part_step (room - 1) m b)) (sym t) ∙ leads.ends in
          let gives : data_in front (part_step (room - 1) m b) ≡ piece = ap (λ t. data_in front (if t then None else part_step (room - 1) m b)) (sym t) ∙ leads.gives in
          elim (there (part_step (room - 1) m b)) [
            | inl none ↦ absurd (none_some Done (sym (end_none front) ∙ ap (end_of front) (sym none) ∙ ends))
            | inr s ↦ record { k = room - 1; q = s.0; room_is = omega (arith, some); is = s.1; leads = took_some (room - 1) m b front piece s.0 s.1 ends gives }
          ]
    ]

pub not_done : (f : Coding) (piece : ByteList) → Leads (Between f) [] piece Done → ⊥
not_done f piece leads = let e : Between f ≡ Done = some_is (Between f) Done leads.ends in cc

-- what is still to come of a trailer section
record Tail (room : ℕ) (front piece : ByteList) : Type 0 where
  fields : List Field
  end : LineEnd
  all : All IsField fields
  is : front ≡ print_section fields end
  fits : length front ≤ room
  none : piece ≡ []

record Valued (room : ℕ) (front piece : ByteList) : Type 0 where
  raw : ByteList
  e : LineEnd
  after : ByteList
  all : AllPass is_value_byte raw
  is : front ≡ raw ++ (print_end e ++ after)
  fits : length front ≤ room
  tail : Tail room after piece

record Named (room : ℕ) (front piece : ByteList) : Type 0 where
  name : ByteList
  after : ByteList
  all : AllPass is_token_byte name
  is : front ≡ name ++ 58 ∷ after
  fits : length front ≤ room
  valued : Valued room after piece

record Fed (room : ℕ) (front piece : ByteList) : Type 0 where
  after : ByteList
  is : front ≡ 10 ∷ after
  fits : length front ≤ room
  tail : Tail room after piece

record Over (room : ℕ) (front piece : ByteList) : Type 0 where
  is : front ≡ 10 ∷ []
  fits : length front ≤ room
  none : piece ≡ []

abbrev Rest : Part → ℕ → ByteList → ByteList → Type 0
Rest (Size count value) room front piece = Unit {0}
Rest (Blank value) room front piece = Unit {0}
Rest (Extension value) room front piece = Unit {0}
Rest (SizeFeed value) room front piece = Unit {0}
Rest FieldStart room front piece = Tail room front piece
Rest FieldName room front piece = Named room front piece
Rest FieldValue room front piece = Valued room front piece
Rest FieldFeed room front piece = Fed room front piece
Rest LastFeed room front piece = Over room front piece

more_tail : (room k : ℕ) (front piece : ByteList) → room ≡ k + 1 → Tail k front piece → Tail room front piece
more_tail room k front piece e t = record { fields = t.fields; end = t.end; all = t.all; is = t.is; fits = let f = t.fits in omega (arith, e, f); none = t.none }

more_valued : (room k : ℕ) (front piece : ByteList) → room ≡ k + 1 → Valued k front piece → Valued room front piece
more_valued room k front piece e t = record { raw = t.raw; e = t.e; after = t.after; all = t.all; is = t.is; fits = let f = t.fits in omega (arith, e, f); tail = more_tail room k t.after piece e t.tail }

regroup_field : (name raw e after : ByteList) → name ++ 58 ∷ (raw ++ (e ++ after)) ≡ ((name ++ 58 ∷ raw) ++ e) ++ after
regroup_field name raw e after = simp append_assoc

regroup_section : (f : ByteList) (fs e : ByteList) → f ++ (fs ++ e) ≡ (f ++ fs) ++ e
regroup_section f fs e = sym (append_assoc f fs e)

-- a token byte, and what follows it in a trailer
named_tail : (room k b : ℕ) (front piece : ByteList) → room ≡ k + 1 → is_token_byte b ≡ true → Named k front piece → Tail room (b ∷ front) piece
named_tail room k b front piece e token n =
    let v = n.valued in
    let t = v.tail in
    let f : Field = record { name = b ∷ n.name; raw = v.raw; end = v.e } in
    let fits = n.fits in
    let ok : IsField f = record { name = (omega arith, All-cons (λ v. is_token_byte v ≡ true) b n.name token n.all); raw = v.all } in
    record {
      fields = f ∷ t.fields;
      end = t.end;
      all = All-cons IsField f t.fields ok t.all;
      is = ap (λ l. b ∷ l) (n.is ∙ ap (λ l. n.name ++ 58 ∷ l) (v.is ∙ ap (λ l. v.raw ++ (print_end v.e ++ l)) t.is))
          ∙ regroup_field (b ∷ n.name) v.raw (print_end v.e) (print_section t.fields t.end)
          ∙ regroup_section (print_field f) (flat_map print_field t.fields) (print_end t.end);
      fits = omega (arith, e, fits);
      none = t.none;
    }

trailer_read : (front : ByteList) (room : ℕ) (m : Part) (piece : ByteList) → Leads (at room m) front piece Done → Rest m room front piece
trailer_read [] room m piece leads = absurd (not_done (Line room m) piece leads)
trailer_read (b ∷ front) room (Size count value) piece leads = tt
trailer_read (b ∷ front) room (Blank value) piece leads = tt
trailer_read (b ∷ front) room (Extension value) piece leads = tt
trailer_read (b ∷ front) room (SizeFeed value) piece leads = tt
trailer_read (b ∷ front) room FieldStart piece leads =
    let t = takes room FieldStart b front piece leads in
    elim (tests_as (is_token_byte b)) [
      | inl token ↦
          let q : at t.k FieldName ≡ t.q = some_is (at t.k FieldName) t.q (rw token at t.is) in
          named_tail room t.k b front piece t.room_is token (trailer_read front t.k FieldName piece (subst (λ q. Leads q front piece Done) (sym q) t.leads))
      | inr other ↦
          elim (tests_as (b == 13)) [
            | inl cr ↦
                let q : at t.k LastFeed ≡ t.q = some_is (at t.k LastFeed) t.q (rw (other, cr) at t.is) in
                let o = trailer_read front t.k LastFeed piece (subst (λ q. Leads q front piece Done) (sym q) t.leads) in
                let is13 : b ≡ 13 = grind (arith, nat_tests) in
                let fits = o.fits in
                let room_is = t.room_is in
                record {
                  fields = [];
                  end = crlf;
                  all = All-nil IsField;
                  is = ap (λ l. b ∷ l) o.is ∙ ap (λ b. b ∷ 10 ∷ []) is13;
                  fits = omega (arith, fits, room_is);
                  none = o.none;
                }
            | inr not13 ↦
                elim (tests_as (b == 10)) [
                  | inl feed ↦
                      let q : Done ≡ t.q = some_is Done t.q (rw (other, not13, feed) at t.is) in
                      let stop = done_stops front piece Done (subst (λ q. Leads q front piece Done) (sym q) t.leads) in
                      let is10 : b ≡ 10 = grind (arith, nat_tests) in
                      let len : length front ≡ 0 = ap length stop.0 in
                      let room_is = t.room_is in
                      record {
                        fields = [];
                        end = lf;
                        all = All-nil IsField;
                        is = ap (λ l. b ∷ l) stop.0 ∙ ap (λ b. b ∷ []) is10;
                        fits = omega (arith, len, room_is);
                        none = stop.1;
                      }
                  | inr bad ↦ absurd (none_some t.q (rw (other, not13, bad) at t.is))
                ]
          ]
    ]
trailer_read (b ∷ front) room FieldName piece leads =
    let t = takes room FieldName b front piece leads in
    let room_is = t.room_is in
    elim (tests_as (is_token_byte b)) [
      | inl token ↦
          let q : at t.k FieldName ≡ t.q = some_is (at t.k FieldName) t.q (rw token at t.is) in
          let n = trailer_read front t.k FieldName piece (subst (λ q. Leads q front piece Done) (sym q) t.leads) in
          let fits = n.fits in
          record {
            name = b ∷ n.name;
            after = n.after;
            all = All-cons (λ v. is_token_byte v ≡ true) b n.name token n.all;
            is = ap (λ l. b ∷ l) n.is;
            fits = omega (arith, fits, room_is);
            valued = more_valued room t.k n.after piece t.room_is n.valued;
          }
      | inr other ↦
          elim (tests_as (b == 58)) [
            | inl colon ↦
                let q : at t.k FieldValue ≡ t.q = some_is (at t.k FieldValue) t.q (rw (other, colon) at t.is) in
                let v = trailer_read front t.k FieldValue piece (subst (λ q. Leads q front piece Done) (sym q) t.leads) in
                let is58 : b ≡ 58 = grind (arith, nat_tests) in
                let fits = v.fits in
                record {
                  name = [];
                  after = front;
                  all = All-nil (λ v. is_token_byte v ≡ true);
                  is = ap (λ b. b ∷ front) is58;
                  fits = omega (arith, fits, room_is);
                  valued = more_valued room t.k front piece t.room_is v;
                }
            | inr bad ↦ absurd (none_some t.q (rw (other, bad) at t.is))
          ]
    ]
trailer_read (b ∷ front) room FieldValue piece leads =
    let t = takes room FieldValue b front piece leads in
    let room_is = t.room_is in
    elim (tests_as (is_value_byte b)) [
      | inl byte ↦
          let q : at t.k FieldValue ≡ t.q = some_is (at t.k FieldValue) t.q (rw byte at t.is) in
          let v = trailer_read front t.k FieldValue piece (subst (λ q. Leads q front piece Done) (sym q) t.leads) in
          let fits = v.fits in
          record {
            raw = b ∷ v.raw;
            e = v.e;
            after = v.after;
            all = All-cons (λ v. is_value_byte v ≡ true) b v.raw byte v.all;
            is = ap (λ l. b ∷ l) v.is;
            fits = omega (arith, fits, room_is);
            tail = more_tail room t.k v.after piece t.room_is v.tail;
          }
      | inr other ↦
          elim (tests_as (b == 13)) [
            | inl cr ↦
                let q : at t.k FieldFeed ≡ t.q = some_is (at t.k FieldFeed) t.q (rw (other, cr) at t.is) in
                let f = trailer_read front t.k FieldFeed piece (subst (λ q. Leads q front piece Done) (sym q) t.leads) in
                let is13 : b ≡ 13 = grind (arith, nat_tests) in
                let fits = f.fits in
                record {
                  raw = [];
                  e = crlf;
                  after = f.after;
                  all = All-nil (λ v. is_value_byte v ≡ true);
                  is = ap (λ l. b ∷ l) f.is ∙ ap (λ b. b ∷ 10 ∷ f.after) is13;
                  fits = omega (arith, fits, room_is);
                  tail = more_tail room t.k f.after piece t.room_is f.tail;
                }
            | inr not13 ↦
                elim (tests_as (b == 10)) [
                  | inl feed ↦
                      let q : at t.k FieldStart ≡ t.q = some_is (at t.k FieldStart) t.q (rw (other, not13, feed) at t.is) in
                      let l = trailer_read front t.k FieldStart piece (subst (λ q. Leads q front piece Done) (sym q) t.leads) in
                      let is10 : b ≡ 10 = grind (arith, nat_tests) in
                      let fits = l.fits in
                      record {
                        raw = [];
                        e = lf;
                        after = front;
                        all = All-nil (λ v. is_value_byte v ≡ true);
                        is = ap (λ b. b ∷ front) is10;
                        fits = omega (arith, fits, room_is);
                        tail = more_tail room t.k front piece t.room_is l;
                      }
                  | inr bad ↦ absurd (none_some t.q (rw (other, not13, bad) at t.is))
                ]
          ]
    ]
trailer_read (b ∷ front) room FieldFeed piece leads =
    let t = takes room FieldFeed b front piece leads in
    let room_is = t.room_is in
    elim (tests_as (b == 10)) [
      | inl feed ↦
          let q : at t.k FieldStart ≡ t.q = some_is (at t.k FieldStart) t.q (rw feed at t.is) in
          let l = trailer_read front t.k FieldStart piece (subst (λ q. Leads q front piece Done) (sym q) t.leads) in
          let is10 : b ≡ 10 = grind (arith, nat_tests) in
          let fits = l.fits in
          record { after = front; is = ap (λ b. b ∷ front) is10; fits = omega (arith, fits, room_is); tail = more_tail room t.k front piece t.room_is l }
      | inr bad ↦ absurd (none_some t.q (rw bad at t.is))
    ]
trailer_read (b ∷ front) room LastFeed piece leads =
    let t = takes room LastFeed b front piece leads in
    let room_is = t.room_is in
    elim (tests_as (b == 10)) [
      | inl feed ↦
          let q : Done ≡ t.q = some_is Done t.q (rw feed at t.is) in
          let stop = done_stops front piece Done (subst (λ q. Leads q front piece Done) (sym q) t.leads) in
          let is10 : b ≡ 10 = grind (arith, nat_tests) in
          let len : length front ≡ 0 = ap length stop.0 in
          record { is = ap (λ l. b ∷ l) stop.0 ∙ ap (λ b. b ∷ []) is10; fits = omega (arith, len, room_is); none = stop.1 }
      | inr bad ↦ absurd (none_some t.q (rw bad at t.is))
    ]

-- a trailer section from whose beginning the bytes lead to an end
pub trailers_of : (front piece rest : ByteList) → Leads (at 65536 FieldStart) front piece Done → ReadsTrailer (front ++ rest) rest × (piece ≡ [])
trailers_of front piece rest leads =
    let t = trailer_read front 65536 FieldStart piece leads in
    (record { fields = t.fields; last = t.end; reads = (t.all, ap (λ l. l ++ rest) t.is); short = subst (λ l. length l ≤ 65536) t.is t.fits }, t.none)
